-- What is compared at one position: a cell more, or the first that differs.
use Rattle.std.proofs.Common.{◌≡◌, ℕ, ◌+◌, ◌*◌, ◌<◌, ◌≤◌, Bool, true, false, get_or, Some, refl, ◌∙◌, add_assoc, arith}
use Rattle.std.proofs.lemmas.Nat.{mul-le}
use Rattle.grids.specs.declared.Position.{Position}
use Rattle.grids.specs.Kinds.{Kind}
use Rattle.grids.specs.Grids.{Grid, Tile, Valid, laid}
use Rattle.grids.specs.Places.{alike, agree_at, lies}
use Rattle.grids.proofs.Laid.{place_within}
use Rattle.grids.proofs.Testing.{agree_here}
use Rattle.drafts.specs.Tallies.{raised}
use Rattle.plain.specs.Looks.{tested_from, tested_le}
use Rattle.plain.proofs.Tested.{Going, going_more, going_stop, going_all}

module _ {C : Type 0} (k : Kind C) (t : Tile C) (q : Position) where
  -- the first n cells agree; since the comparison began, the grid f became g, the tally u became v, and it saw m cells
  pub record Agreed (f g : Grid C) (u v m n : ℕ) (a : Bool) : Type 0 where
    pub same : g ≡ f
    pub yes : a ≡ true
    pub seen : m ≡ n
    pub counts : v ≡ raised u n
    pub going : Going (agree_at k f (laid t) q) (t.rows * t.cols) n

  -- the comparison is over, and a is its answer
  pub record Over (f g : Grid C) (u v m : ℕ) (a : Bool) : Type 0 where
    pub agrees : a ≡ lies k f (laid t) q
    pub cells : m ≡ tested_from (agree_at k f (laid t) q) 0 (t.rows * t.cols)
    pub few : m ≤ 1024
    pub same : g ≡ f
    pub counts : v ≡ raised u m

-- a tile has at most 32 * 32 cells
few : {C : Type 0} (k : Kind C) (t : Tile C) (q : Position) → Valid t → (f : Grid C) → tested_from (agree_at k f (laid t) q) 0 (t.rows * t.cols) ≤ 1024
few k t q valid f = omega (arith, tested_le (agree_at k f (laid t) q) 0 (t.rows * t.cols), mul-le t.rows t.cols 32 32 valid.few_rows valid.few_cols)

module _ {C : Type 0} {k : Kind C} {t : Tile C} {q : Position} (valid : Valid t) where
  module _ {f g : Grid C} {u v m : ℕ} {a : Bool} where
    -- all n rows agree
    pub over_all : {n : ℕ} → t.rows ≤ n → Agreed k t q f g u v m (n * t.cols) a → Over k t q f g u v m a
    over_all {n} h e =
        let w = going_all (agree_at k f (laid t) q) (t.rows * t.cols) (n * t.cols) (mul-le t.rows t.cols n t.cols h (omega arith)) e.going in
        let l = few k t q valid f in
        record { agrees = e.yes ∙ w.all; cells = e.seen ∙ w.tested; few = omega (arith, w.tested, e.seen); same = e.same; counts = omega (arith, e.counts, e.seen) }

    -- one cell more: x is the tile's cell in row i and column j, and y the answer of a look that left the grid h and the tally w
    module _ (i j : ℕ) {h : Grid C} {w : ℕ} {x : C} {y : Bool} (row : i < t.rows) (col : j < t.cols) (read : x ≡ get_or t.cells (i * t.cols + j) x) (answer : y ≡ alike k (g.at (q.row + i) (q.col + j)) (Some x)) (same : h ≡ g) (counts : w ≡ raised v 1) (e : Agreed k t q f g u v m (i * t.cols + j) a) where
      here : agree_at k f (laid t) q (i * t.cols + j) ≡ y
      here = let h = agree_here k f t q i j x valid.whole row col in cc

      within : i * t.cols + j < t.rows * t.cols
      within = place_within t.rows t.cols i j (t.rows * t.cols) refl row col

      pub agreed_more : y ≡ true → Agreed k t q f h u w (m + 1) (i * t.cols + (j + 1)) a
      agreed_more agrees = record {
        same = same ∙ e.same;
        yes = e.yes;
        seen = omega (arith, e.seen);
        counts = omega (arith, counts, e.counts);
        going = rw (← add_assoc) (going_more (agree_at k f (laid t) q) (t.rows * t.cols) (i * t.cols + j) within (here ∙ agrees) e.going);
      }

      pub over_here : y ≡ false → Over k t q f h u w (m + 1) false
      over_here differs =
          let s = going_stop (agree_at k f (laid t) q) (t.rows * t.cols) (i * t.cols + j) within (here ∙ differs) e.going in
          let l = few k t q valid f in
          record { agrees = s.all; cells = omega (arith, e.seen, s.tested); few = omega (arith, e.seen, s.tested); same = same ∙ e.same; counts = omega (arith, counts, e.counts, e.seen) }
