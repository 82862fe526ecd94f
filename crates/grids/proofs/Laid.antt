-- A tile or a sheet whose list has a cell for each place.
use Rattle.std.proofs.Common.{◌≡◌, ℕ, zero, suc, ◌+◌, ◌*◌, ◌<◌, ◌≤◌, true, ltb, List, [], ◌∷◌, length, get_or, is_some, Some, refl, ◌∙◌, ⊎_elim, arith}
use Rattle.std.specs.List.{slice_get}
use Rattle.std.proofs.lemmas.Nat.{mul-add-lt}
use Rattle.std.proofs.lemmas.Option.{slice_get-get_or}
use Rattle.std.proofs.lemmas.Bool.{and_from, lt-ltb, cond-true, cases_Bool, and_parts, ltb-true}
use Rattle.grids.specs.Grids.{Tile, laid, inside, Drawn}

-- the number of a place inside is below the number of cells
pub place_within : (rows cols r c n : ℕ) → n ≡ rows * cols → r < rows → c < cols → r * cols + c < n
place_within rows cols r c n e h k = omega (arith, mul-add-lt r cols c rows h k)

module _ {C : Type 0} where
  nth_some : (xs : List C) (i : ℕ) → i < length xs → is_some (slice_get xs i) ≡ true
  nth_some [] i h = absurd (omega arith)
  nth_some (x ∷ xs) zero h = refl
  nth_some (x ∷ xs) (suc i) h = nth_some xs i (omega arith)

  pub laid_inside : (t : Tile C) (r c : ℕ) → r < t.rows → c < t.cols → inside (laid t) r c ≡ true
  laid_inside t r c h k = and_from (ltb r t.rows) (ltb c t.cols) (lt-ltb r t.rows h) (lt-ltb c t.cols k)

  -- what a laid grid has inside
  pub laid_nth : (t : Tile C) (r c : ℕ) → r < t.rows → c < t.cols → (laid t).at r c ≡ slice_get t.cells (r * t.cols + c)
  laid_nth t r c h k = cond-true _ _ _ (laid_inside t r c h k)

  pub laid_at : (t : Tile C) (r c : ℕ) (d : C) → length t.cells ≡ t.rows * t.cols → r < t.rows → c < t.cols → (laid t).at r c ≡ Some (get_or t.cells (r * t.cols + c) d)
  laid_at t r c d e h k = laid_nth t r c h k ∙ slice_get-get_or t.cells (r * t.cols + c) d (place_within t.rows t.cols r c (length t.cells) e h k)

  pub laid_some : (t : Tile C) (r c : ℕ) → length t.cells ≡ t.rows * t.cols → is_some ((laid t).at r c) ≡ inside (laid t) r c
  laid_some t r c e =
      ⊎_elim
      (λ y.
      let p = and_parts (ltb r t.rows) (ltb c t.cols) y in
      let h : r < t.rows = ltb-true r t.rows p.0 in
      let k : c < t.cols = ltb-true c t.cols p.1 in
      let m : r * t.cols + c < length t.cells = place_within t.rows t.cols r c (length t.cells) e h k in
      rw y (nth_some t.cells (r * t.cols + c) m))
      (λ n. rw n refl)
      (cases_Bool (inside (laid t) r c))

  pub laid_drawn : (t : Tile C) → length t.cells ≡ t.rows * t.cols → 1 ≤ t.rows → t.rows ≤ 2048 → 1 ≤ t.cols → t.cols ≤ 2048 → Drawn (laid t)
  laid_drawn t e a b c d = record { some_rows = a; few_rows = b; some_cols = c; few_cols = d; filled = λ r k. laid_some t r k e }
