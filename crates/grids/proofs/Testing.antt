-- A test of each of some numbers, and what it says of the cells of a tile.
use Rattle.std.proofs.Common.{◌≡◌, ℕ, zero, suc, ◌+◌, ◌*◌, ◌/◌, ◌%◌, ◌<◌, Bool, true, false, length, get_or, is_some, Some, None, Option, sym, refl, ap, ◌∙◌, add-zero, arith}
use Rattle.std.proofs.lemmas.Nat.{mul-add-lt, div-mul-add, mod-mul-add, div_below, mod_below}
use Rattle.std.proofs.lemmas.Bool.{and_parts, and_from, both_ways}
use Rattle.grids.specs.declared.Position.{Position}
use Rattle.grids.specs.Kinds.{Kind, Lawful}
use Rattle.grids.specs.Grids.{Grid, Tile, Valid, laid}
use Rattle.grids.specs.Places.{alike, agree_at, all_from, lies}
use Rattle.grids.proofs.Laid.{laid_at, laid_some, laid_inside}

module _ (p : ℕ → Bool) where
  all_tells : (k n : ℕ) → all_from p k n ≡ true → (i : ℕ) → i < n → p (k + i) ≡ true
  all_tells k zero h i l = absurd (omega arith)
  all_tells k (suc n) h zero l = ap p (add-zero k) ∙ (and_parts (p k) (all_from p (k + 1) n) h).0
  all_tells k (suc n) h (suc i) l = ap p (omega arith) ∙ all_tells (k + 1) n (and_parts (p k) (all_from p (k + 1) n) h).1 i (omega arith)

  all_made : (k n : ℕ) → ((i : ℕ) → i < n → p (k + i) ≡ true) → all_from p k n ≡ true
  all_made k zero h = refl
  all_made k (suc n) h = and_from (p k) (all_from p (k + 1) n) (ap p (sym (add-zero k)) ∙ h 0 (omega arith)) (all_made (k + 1) n (λ i l. ap p (omega arith) ∙ h (suc i) (omega arith)))

module _ {C : Type 0} (kind : Kind C) where
  -- the tile's cell number i * cols + j, in row i and column j
  pub agree_here : (g : Grid C) (t : Tile C) (q : Position) (i j : ℕ) (d : C) → length t.cells ≡ t.rows * t.cols → i < t.rows → j < t.cols → agree_at kind g (laid t) q (i * t.cols + j) ≡ alike kind (g.at (q.row + i) (q.col + j)) (Some (get_or t.cells (i * t.cols + j) d))
  agree_here g t q i j d e h k = rw (div-mul-add i t.cols j k, mod-mul-add i t.cols j k, laid_at t i j d e h k) refl

module _ {C : Type 0} (kind : Kind C) (lawful : Lawful kind) where
  alike_tells : (a b : Option C) → alike kind a b ≡ true → a ≡ b
  alike_tells None b h = absurd (both_ways false refl h)
  alike_tells (Some x) None h = absurd (both_ways false refl h)
  alike_tells (Some x) (Some y) h = ap Some (lawful.same_equal x y h)

  alike_itself : (a : Option C) → is_some a ≡ true → alike kind a a ≡ true
  alike_itself None s = absurd (both_ways false refl s)
  alike_itself (Some x) s = lawful.same_itself x

  alike_made : (a b : Option C) → a ≡ b → is_some b ≡ true → alike kind a b ≡ true
  alike_made a b e s = rw e (alike_itself b s)

  module _ (g : Grid C) (t : Tile C) (valid : Valid t) where
    pub lies_tells : (q : Position) → lies kind g (laid t) q ≡ true → (i j : ℕ) → i < t.rows → j < t.cols → g.at (q.row + i) (q.col + j) ≡ (laid t).at i j
    lies_tells q h i j a b =
        let k : ℕ = i * t.cols + j in
        let l : k < t.rows * t.cols = omega (arith, mul-add-lt i t.cols j t.rows a b) in
        let y : agree_at kind g (laid t) q (0 + k) ≡ true = all_tells (agree_at kind g (laid t) q) 0 (t.rows * t.cols) h k l in
        let z : 0 + k ≡ k = omega arith in
        let w : agree_at kind g (laid t) q k ≡ true = ap (agree_at kind g (laid t) q) (sym z) ∙ y in
        alike_tells (g.at (q.row + i) (q.col + j)) ((laid t).at i j) (rw (div-mul-add i t.cols j b, mod-mul-add i t.cols j b) at w)

    pub lies_made : (q : Position) → ((i j : ℕ) → i < t.rows → j < t.cols → g.at (q.row + i) (q.col + j) ≡ (laid t).at i j) → lies kind g (laid t) q ≡ true
    lies_made q h =
        all_made (agree_at kind g (laid t) q) 0 (t.rows * t.cols)
        (λ k l.
        let z : 0 + k ≡ k = omega arith in
        let a : k / t.cols < t.rows = div_below k t.cols t.rows valid.some_cols l in
        let b : k % t.cols < t.cols = mod_below k t.cols valid.some_cols in
        ap (agree_at kind g (laid t) q) z
        ∙ alike_made (g.at (q.row + k / t.cols) (q.col + k % t.cols)) ((laid t).at (k / t.cols) (k % t.cols)) (h (k / t.cols) (k % t.cols) a b) (laid_some t (k / t.cols) (k % t.cols) valid.whole ∙ laid_inside t (k / t.cols) (k % t.cols) a b))
