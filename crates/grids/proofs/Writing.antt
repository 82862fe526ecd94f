-- Writing entries one after another gives the listed entries.
use Rattle.std.proofs.Common.{◌≡◌, ℕ, ◌+◌, ◌≤◌, min, List, [], ◌∷◌, ◌++◌, length, take, drop, set, sym, refl, ap, ◌∙◌, add-zero, add-one, arith}
use Rattle.std.proofs.lemmas.List.{length-append, length-take, length-drop, take_all, take_at}
use Rattle.grids.specs.Listed.{listed, filled}

module _ {X : Type 0} where
  pub filled-append : (n : ℕ) (xs ys old : List X) → filled n (xs ++ ys) old ≡ filled (n + length xs) ys (filled n xs old)
  filled-append n [] ys old = ap (λ k. filled k ys old) (sym (add-zero n))
  filled-append n (x ∷ xs) ys old = filled-append (n + 1) xs ys (set old n x) ∙ ap (λ k. filled k ys (filled (n + 1) xs (set old n x))) (omega arith)

  filled-nil : (n : ℕ) (xs : List X) → filled n xs [] ≡ []
  filled-nil n [] = refl
  filled-nil n (x ∷ xs) = filled-nil (n + 1) xs

  filled-suc : (n : ℕ) (xs : List X) (y : X) (ys : List X) → filled (n + 1) xs (y ∷ ys) ≡ y ∷ filled n xs ys
  filled-suc n [] y ys = refl
  filled-suc n (x ∷ xs) y ys = ap (λ k. filled (n + 1 + 1) xs (set (y ∷ ys) k x)) (add-one n) ∙ filled-suc (n + 1) xs y (set ys n x)

  pub filled-listed : (xs old : List X) → filled 0 xs old ≡ listed xs old
  filled-listed [] [] = refl
  filled-listed [] (y ∷ ys) = refl
  filled-listed (x ∷ xs) [] = filled-nil 1 xs
  filled-listed (x ∷ xs) (y ∷ ys) = filled-suc 0 xs x ys ∙ ap (λ zs. x ∷ zs) (filled-listed xs ys)

  -- the list stays as long as it was
  pub length-listed : (xs old : List X) → length (listed xs old) ≡ length old
  length-listed xs old = omega (arith, length-append (take (length old) xs) (drop (length xs) old), length-take (length old) xs, length-drop (length xs) old)

  -- the entries that fit stand at its front
  pub listed_first : (xs old : List X) (n : ℕ) → n ≡ min (length old) (length xs) → take n (listed xs old) ≡ take (length old) xs
  listed_first xs old n e = take_at (take (length old) xs) (drop (length xs) old) n (length-take (length old) xs ∙ sym e)

  pub listed_front : (xs old : List X) → length xs ≤ length old → take (length xs) (listed xs old) ≡ xs
  listed_front xs old h = listed_first xs old (length xs) (omega arith) ∙ take_all (length old) xs h
