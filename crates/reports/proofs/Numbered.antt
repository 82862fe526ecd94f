-- Lines of numbered things, one after another.
use Rattle.std.proofs.Common.{◌≡◌, ℕ, suc, ◌+◌, ◌<◌, List, [], ◌∷◌, ◌++◌, length, get_or, take, sym, ap, ◌∙◌, append_assoc, arith}
use Rattle.std.proofs.lemmas.List.{append-nil, length-take-le, take_more}
use Rattle.lines.specs.declared.Line.{Line}
use Rattle.reports.specs.Reports.{numbered_lines}

module _ {X : Type 0} (f : ℕ → X → List Line) where
  -- one more
  numbered_push : (n : ℕ) (xs : List X) (y : X) → numbered_lines f n (xs ++ y ∷ []) ≡ numbered_lines f n xs ++ f (n + length xs) y
  numbered_push n [] y = append-nil (f n y) ∙ ap (λ m. f m y) (omega arith)
  numbered_push n (x ∷ xs) y =
      ap (λ ls. f n x ++ ls) (numbered_push (n + 1) xs y ∙ ap (λ m. numbered_lines f (n + 1) xs ++ f m y) (omega arith))
      ∙ sym (append_assoc (f n x) (numbered_lines f (n + 1) xs) (f (n + suc (length xs)) y))

  -- a loop over them has added the lines of the first i, and adds those of the next
  pub numbered_more : (xs : List X) (i : ℕ) (d : X) (old mid new : List Line) → i < length xs → mid ≡ old ++ numbered_lines f 0 (take i xs) → new ≡ mid ++ f i (get_or xs i d) → new ≡ old ++ numbered_lines f 0 (take (i + 1) xs)
  numbered_more xs i d old mid new h m e =
      let ys = take i xs in
      let y = get_or xs i d in
      let n : 0 + length ys ≡ i = omega (arith, length-take-le i xs (omega arith)) in
      e ∙ (ap (λ ls. ls ++ f i y) m ∙ (append_assoc old (numbered_lines f 0 ys) (f i y)
      ∙ ap (λ ls. old ++ ls) (sym (ap (numbered_lines f 0) (take_more xs i d h) ∙ (numbered_push 0 ys y ∙ ap (λ j. numbered_lines f 0 ys ++ f j y) n)))))
