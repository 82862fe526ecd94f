-- When a sheet is refused. Assumes nothing.
use Rattle.std.specs.Prelude.{ℕ, ◌*◌, Bool, ◌&&◌, List, [], ◌∷◌, length, is_some, Option, ◌==◌}
use Rattle.grids.specs.Grids.{Grid, tile, laid}
use Rattle.grids.specs.Refusals.{first_failed, between}
use Rattle.cells.specs.Readings.{Reading}
use Rattle.readings.specs.CellLists.{cells_read}

-- a size within the limits of a draft
abbrev pub draft_size : ℕ → ℕ → Bool
draft_size rows cols = between 1 2048 rows && between 1 2048 cols

-- why a sheet over n cells is refused: its size, then its length
abbrev pub sheet_refusal : ℕ → ℕ → ℕ → Option ℕ
sheet_refusal rows cols n = first_failed
    ((draft_size rows cols, 9)
    ∷ ((n == rows * cols), 9)
    ∷ [])

module _ {C : Type 0} where
  -- why a sheet over file bytes is refused: its size, its length, then a cell whose bytes read as none
  abbrev pub bytes_refusal : Reading C → ℕ → ℕ → List ℕ → Option ℕ
  bytes_refusal k rows cols bs = first_failed
      ((draft_size rows cols, 9)
      ∷ ((length bs == rows * cols * k.width), 9)
      ∷ (is_some (cells_read k (rows * cols) bs), 12)
      ∷ [])

  -- the grid that cells make, row after row
  abbrev pub sheet : ℕ → ℕ → List C → Grid C
  sheet rows cols cells = laid (tile rows cols cells)
