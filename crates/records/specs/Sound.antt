-- What is known of a record that a reader answers. Assumes nothing.
use Rattle.std.specs.Prelude.{◌≡◌, ℕ, ◌*◌, ◌≤◌, true, length, is_some}
use Rattle.cells.specs.Readings.{Reading}
use Rattle.readings.specs.CellLists.{cells_read}
use Rattle.records.specs.Entries.{Entry}

-- a record of 1 to `most` rows and columns whose cells are all there and read
pub record Sound {C : Type 0} (k : Reading C) (most : ℕ) (e : Entry) : Type 0 where
  pub some_rows : 1 ≤ e.rows
  pub few_rows : e.rows ≤ most
  pub some_cols : 1 ≤ e.cols
  pub few_cols : e.cols ≤ most
  pub whole : length e.bytes ≡ e.rows * e.cols * k.width
  pub read : is_some (cells_read k (e.rows * e.cols) e.bytes) ≡ true
