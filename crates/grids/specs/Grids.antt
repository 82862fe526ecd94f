-- Grids of cells, drawn grids, and tiles. Assumes nothing.
use Rattle.std.specs.Prelude.{◌≡◌, ℕ, ◌+◌, ◌*◌, ◌≤◌, Bool, cond, ◌&&◌, List, length, is_some, None, Option, nat_lt}
use Rattle.std.specs.List.{slice_get}

-- a size, and the cell at each row and column
pub record Grid (C : Type 0) : Type 0 where
  pub rows : ℕ
  pub cols : ℕ
  pub at : ℕ → ℕ → Option C

-- a size, and the cells row after row
pub record Tile (C : Type 0) : Type 0 where
  pub rows : ℕ
  pub cols : ℕ
  pub cells : List C

module _ {C : Type 0} where
  -- whether row r and column c are inside the grid
  abbrev pub inside : Grid C → ℕ → ℕ → Bool
  inside g r c = nat_lt r g.rows && nat_lt c g.cols

  -- a grid within the limits of a draft: 1 to 2,048 rows and columns, with a cell exactly inside
  pub record Drawn (g : Grid C) : Type 0 where
    pub some_rows : 1 ≤ g.rows
    pub few_rows : g.rows ≤ 2048
    pub some_cols : 1 ≤ g.cols
    pub few_cols : g.cols ≤ 2048
    pub filled : (r c : ℕ) → is_some (g.at r c) ≡ inside g r c

  -- a tile of 1 to 32 rows and columns, with a cell for each place of it
  pub record Valid (t : Tile C) : Type 0 where
    pub some_rows : 1 ≤ t.rows
    pub few_rows : t.rows ≤ 32
    pub some_cols : 1 ≤ t.cols
    pub few_cols : t.cols ≤ 32
    pub whole : length t.cells ≡ t.rows * t.cols

  -- the tile of so many rows and columns
  abbrev pub tile : ℕ → ℕ → List C → Tile C
  tile rows cols cells = record { rows = rows; cols = cols; cells = cells }

  -- a tile, or a sheet, laid out as a grid: position (i, j) has cell number i * cols + j
  abbrev pub laid : Tile C → Grid C
  laid t = record { rows = t.rows; cols = t.cols; at = λ i j. cond (nat_lt i t.rows && nat_lt j t.cols) (slice_get t.cells (i * t.cols + j)) None }
