-- The lines of a record file, whatever a report says of each record. Assumes nothing.
use Rattle.std.specs.Prelude.{ℕ, ◌+◌, ◌*◌, cond, List, [], ◌∷◌, ◌++◌, length, Some, None, Option, nat_lt}
use Rattle.grids.specs.declared.Position.{Position}
use Rattle.grids.specs.Grids.{Grid, Tile, tile}
use Rattle.cells.specs.Readings.{Reading}
use Rattle.readings.specs.CellLists.{cells_of}
use Rattle.drafts.specs.Making.{sheet}
use Rattle.records.specs.Marks.{Mark, draft, tile as tile_mark, unknown}
use Rattle.records.specs.Entries.{Entry, FaultAt}
use Rattle.records.specs.Files.{File, file}
use Rattle.lines.specs.declared.Line.{Line}
use Rattle.lines.specs.declared.Line.TheVariants.{Place, Fault, TooLong}

-- a place of tile number n
abbrev pub place_line : ℕ → Position → Line
place_line n q = Place n q.row q.col

-- what f says of things numbered from n on
abbrev pub numbered_lines : {X : Type 0} → (ℕ → X → List Line) → ℕ → List X → List Line
numbered_lines f n [] = []
numbered_lines f n (x ∷ xs) = f n x ++ numbered_lines f (n + 1) xs

-- the fault that ends a file, if there is one
abbrev pub fault_lines : Option FaultAt → List Line
fault_lines None = []
fault_lines (Some f) = Fault f.number f.at ∷ []

module _ {C : Type 0} where
  -- the cells of a record
  abbrev pub entry_cells : Reading C → Entry → List C
  entry_cells r e = cells_of r (e.rows * e.cols) e.bytes

  -- the grid of a draft record
  abbrev pub entry_grid : Reading C → Entry → Grid C
  entry_grid r e = sheet e.rows e.cols (entry_cells r e)

  -- the tile of a tile record
  abbrev pub entry_tile : Reading C → Entry → Tile C
  entry_tile r e = tile e.rows e.cols (entry_cells r e)

-- in the state s of a report the record e adds the lines says s e, and next s e is the state after it
module _ {S : Type 0} (says : S → Entry → List Line) (next : S → Entry → S) where
  -- the lines of records from the state s on
  abbrev pub entries_lines : S → List Entry → List Line
  entries_lines s [] = []
  entries_lines s (e ∷ es) = says s e ++ entries_lines (next s e) es

  -- the lines of what a file holds from the state s on
  abbrev pub file_lines : S → File → List Line
  file_lines s f = entries_lines s f.entries ++ fault_lines f.fault

  -- the lines of an input from the state s on: over 65,535 bytes it is too long
  abbrev pub report : {C : Type 0} → Reading C → S → List ℕ → List Line
  report r s bs = cond (nat_lt 65535 (length bs)) (TooLong ∷ []) (file_lines s (file r bs))

-- what a report makes of a tile and of a draft in a state: the lines that it adds, and the state after it
pub record Telling (C S : Type 0) : Type 0 where
  pub tile_lines : S → Tile C → List Line
  pub tile_state : S → Tile C → S
  pub draft_lines : S → Grid C → List Line
  pub draft_state : S → Grid C → S

module _ {C S : Type 0} (t : Telling C S) (r : Reading C) where
  -- what a record with a given mark adds to the lines in the state s
  abbrev pub lines_at : S → Entry → Mark → List Line
  lines_at s e draft = t.draft_lines s (entry_grid r e)
  lines_at s e tile_mark = t.tile_lines s (entry_tile r e)
  lines_at s e unknown = []

  -- the state after a record with a given mark
  abbrev pub state_at : S → Entry → Mark → S
  state_at s e draft = t.draft_state s (entry_grid r e)
  state_at s e tile_mark = t.tile_state s (entry_tile r e)
  state_at s e unknown = s

  -- what a record adds to the lines
  abbrev pub says : S → Entry → List Line
  says s e = lines_at s e e.mark

  -- the state after a record
  abbrev pub next : S → Entry → S
  next s e = state_at s e e.mark
