-- The cells of a tile record.
use Rattle.std.proofs.Common.{◌≡◌, ◌*◌, true, false, is_some, Some, None, Option, sym, refl, ap}
use Rattle.std.specs.Option.{UnwrapsOrElse}
use Rattle.std.proofs.lemmas.Bool.{both_ways}
use Rattle.grids.specs.Grids.{Valid}
use Rattle.cells.specs.Readings.{Reading}
use Rattle.readings.proofs.InTurn.{length_cells}
use Rattle.records.specs.declared.Body.{Body}
use Rattle.records.specs.Marks.{tile as tile_mark}
use Rattle.records.specs.Entries.{entry_of}
use Rattle.records.specs.Sound.{Sound}
use Rattle.reports.specs.Tiles.{body_tile}

-- a sound tile record's tile is valid
pub body_tile_valid : {C : Type 0} (r : Reading C) (b : Body) → Sound r 32 (entry_of tile_mark b) → Valid (body_tile r b)
body_tile_valid r b s = record { some_rows = s.some_rows; few_rows = s.few_rows; some_cols = s.some_cols; few_cols = s.few_cols; whole = length_cells r (b.rows * b.cols) b.cells.now s.read }

-- a value that is there is the one that unwrap_or_default gives
pub unwrapped : {C : Type 0} (d : C → Type 0) (o : Option C) (x : C) → UnwrapsOrElse o d x → is_some o ≡ true → o ≡ Some x
unwrapped d (Some y) x u h = ap Some (sym u)
unwrapped d None x u h = absurd (both_ways false refl h)
