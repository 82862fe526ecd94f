-- Items put into the middle of the front of a list.
use Rattle.std.proofs.Common.{◌≡◌, ℕ, ◌+◌, ◌-◌, ◌≤◌, List, [], ◌∷◌, ◌++◌, map, length, take, drop, sym, ap, ◌∙◌, ap₂, append_assoc, arith}
use Rattle.std.specs.List.{insert, AllByRecursion}
use Rattle.std.proofs.ByRecursion.{All-append, All-take, All-drop}
use Rattle.std.proofs.lemmas.List.{length-take-le, length-drop, length-append, take-take, drop-take, take_at, map-append, take-map, drop-map}

module _ {X : Type 0} where
  -- what is left of a list into whose first `total` the items xs are put
  abbrev pub put_items : List X → ℕ → ℕ → List X → List X
  put_items old at total xs = take at old ++ (xs ++ (take (total - at) (drop at old) ++ drop (total + length xs) old))

  -- the front of it, where one item is put in
  pub take_put_item : (old : List X) (x : X) (at total : ℕ) → at ≤ total → total + 1 ≤ length old → take (total + 1) (put_items old at total (x ∷ [])) ≡ insert (take total old) at x
  take_put_item old x at total o r =
      let middle = take (total - at) (drop at old) in
      let end = drop (total + 1) old in
      let parts : put_items old at total (x ∷ []) ≡ (take at old ++ (x ∷ middle)) ++ end = sym (append_assoc (take at old) (x ∷ middle) end) in
      let long : length (take at old ++ (x ∷ middle)) ≡ total + 1 = omega (arith, length-append (take at old) (x ∷ middle), length-take-le at old (omega arith), length-take-le (total - at) (drop at old) (omega (arith, length-drop at old))) in
      let rest : middle ≡ drop at (take total old) = sym (ap (λ n. drop at (take n old)) (let e : total ≡ at + (total - at) = omega arith in e) ∙ drop-take at (total - at) old) in
      ap (take (total + 1)) parts
      ∙ (take_at (take at old ++ (x ∷ middle)) end (total + 1) long ∙ ap₂ (λ ys zs. ys ++ (x ∷ zs)) (sym (take-take at total old o)) rest)

  pub all_inserted : (P : X → Type 0) (xs : List X) (n : ℕ) (x : X) → P x → AllByRecursion P xs → AllByRecursion P (insert xs n x)
  all_inserted P xs n x p h = All-append P (take n xs) (x ∷ drop n xs) (All-take P n xs h) (p, All-drop P n xs h)

  pub map_inserted : {Y : Type 0} (f : X → Y) (xs : List X) (n : ℕ) (x : X) → map f (insert xs n x) ≡ insert (map f xs) n (f x)
  map_inserted f xs n x = map-append f (take n xs) (x ∷ drop n xs) ∙ ap₂ (λ ys zs. ys ++ (f x ∷ zs)) (sym (take-map f n xs)) (sym (drop-map f n xs))
