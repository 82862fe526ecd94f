-- Of which sizes a sheet is made, and that what it shows is within the limits of a draft. Assumes nothing.
use Rattle.std.specs.Prelude.{◌≡◌, ℕ, ◌*◌, ◌≤◌, true, List, length, is_some}
use Rattle.grids.specs.Grids.{Drawn, tile}
use Rattle.grids.proofs.Laid.{laid_drawn}
use Rattle.cells.specs.Readings.{Reading}
use Rattle.readings.specs.CellLists.{cells_read, cells_of}
use Rattle.readings.proofs.InTurn.{length_cells}
use Rattle.drafts.specs.Making.{sheet}

-- 1 to 2,048 rows and columns
abbrev pub Drawable : ℕ → ℕ → Type 0
Drawable rows cols = (1 ≤ rows) × (rows ≤ 2048) × (1 ≤ cols) × (cols ≤ 2048)

module _ {C : Type 0} where
  -- cells laid row after row
  pub sheet_drawn : (rows cols : ℕ) (cells : List C) → Drawable rows cols → length cells ≡ rows * cols → Drawn (sheet rows cols cells)
  sheet_drawn rows cols cells s w = laid_drawn (tile rows cols cells) w s.0 s.1 s.2 s.3

  -- cells that bytes read as
  pub bytes_drawn : (k : Reading C) (rows cols : ℕ) (bs : List ℕ) → Drawable rows cols → is_some (cells_read k (rows * cols) bs) ≡ true → Drawn (sheet rows cols (cells_of k (rows * cols) bs))
  bytes_drawn k rows cols bs s r = sheet_drawn rows cols (cells_of k (rows * cols) bs) s (length_cells k (rows * cols) bs r)
