-- One entry of a book's table. Assumes nothing.
use Rattle.std.specs.Prelude.{ℕ, ◌+◌, ◌*◌, ◌≤◌, min}
use Rattle.book.specs.declared.TableEntry.{TableEntry}

-- an entry of a tile: 1 to 32 rows and columns
abbrev pub Sized : TableEntry → Type 0
Sized e = (1 ≤ e.rows) × (e.rows ≤ 32) × (1 ≤ e.cols) × (e.cols ≤ 32)

-- what stands where no tile is held
abbrev pub no_entry : TableEntry
no_entry = record { rows = 0; cols = 0; stops = 0 }

-- rows and columns
abbrev pub size_of : TableEntry → ℕ × ℕ
size_of e = (e.rows, e.cols)

-- how many cells a size has
abbrev pub area : ℕ × ℕ → ℕ
area s = s.0 * s.1

-- one stop more; 65,535 stays
abbrev pub one_more : ℕ → ℕ
one_more n = min (n + 1) 65535

-- the entry with one stop more
abbrev pub stopped : TableEntry → TableEntry
stopped e = record { rows = e.rows; cols = e.cols; stops = one_more e.stops }
