-- Book order in words. Assumes nothing.
use Rattle.std.specs.Prelude.{◌≡◌, ℕ, ◌<◌, true, ◌⊎◌, List, take, Some}
use Rattle.std.specs.List.{slice_get}
use Rattle.grids.specs.Kinds.{Kind}
use Rattle.grids.specs.Grids.{Tile}

module _ {C : Type 0} where
  -- the cells agree below some number, and there xs has the cell that is before
  pub record EarlierCell (k : Kind C) (xs ys : List C) : Type 0 where
    pub number : ℕ
    pub x : C
    pub y : C
    pub agree : take number xs ≡ take number ys
    pub of_xs : slice_get xs number ≡ Some x
    pub of_ys : slice_get ys number ≡ Some y
    pub earlier : k.before x y ≡ true

  -- s has fewer rows; or as many, and fewer columns; or the same size, and the earlier first unequal cell
  abbrev pub Before : Kind C → Tile C → Tile C → Type 0
  Before k s t = (s.rows < t.rows) ⊎ ((s.rows ≡ t.rows) × ((s.cols < t.cols) ⊎ ((s.cols ≡ t.cols) × EarlierCell k s.cells t.cells)))
