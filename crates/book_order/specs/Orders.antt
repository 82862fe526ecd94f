-- Book order as tests. Assumes nothing.
use Rattle.std.specs.Prelude.{Bool, true, false, cond, ◌&&◌, List, [], ◌∷◌, ◌==◌, nat_lt}
use Rattle.std.specs.Cmp.Lexicographic.{pointwise}
use Rattle.grids.specs.Kinds.{Kind}
use Rattle.grids.specs.Grids.{Tile}

-- the lists are as long, and the same one by one
abbrev pub same_lists : {A : Type 0} → Kind A → List A → List A → Bool
same_lists k xs ys = pointwise k.same xs ys

-- the first list is before the second at the first two that differ; the end of a list is before all
abbrev pub before_lists : {A : Type 0} → Kind A → List A → List A → Bool
before_lists k [] [] = false
before_lists k [] (y ∷ ys) = true
before_lists k (x ∷ xs) [] = false
before_lists k (x ∷ xs) (y ∷ ys) = cond (k.same x y) (before_lists k xs ys) (k.before x y)

module _ {C : Type 0} where
  -- the tiles have the same size and the same cells
  abbrev pub same_tile : Kind C → Tile C → Tile C → Bool
  same_tile k s t = s.rows == t.rows && (s.cols == t.cols && same_lists k s.cells t.cells)

  -- fewer rows first, then fewer columns, then the tile whose cell is before at the first that differs
  abbrev pub before_tile : Kind C → Tile C → Tile C → Bool
  before_tile k s t =
      cond (s.rows == t.rows) (cond (s.cols == t.cols) (before_lists k s.cells t.cells) (nat_lt s.cols t.cols)) (nat_lt s.rows t.rows)

  -- tiles in book order
  abbrev pub tiles : Kind C → Kind (Tile C)
  tiles k = record { same = same_tile k; before = before_tile k }
