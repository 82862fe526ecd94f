-- What a record says. Assumes nothing.
use Rattle.std.specs.Prelude.{ℕ, List, Ok, Err, Option, Result}
use Rattle.std.specs.Borrow.{Bor}
use Rattle.std.specs.Option.{option_map}
use Rattle.grids.specs.Numbers.{number}
use Rattle.records.specs.declared.Body.{Body}
use Rattle.records.specs.declared.Record.{Record}
use Rattle.records.specs.declared.Record.TheVariants.{Draft, Tile}
use Rattle.records.specs.declared.Fault.{Fault}
use Rattle.records.specs.Marks.{Mark, draft, tile}

-- a record's mark, its size, and the bytes of its cells
pub record Entry : Type 0 where
  pub mark : Mark
  pub rows : ℕ
  pub cols : ℕ
  pub bytes : List ℕ

-- the number of a fault, and the byte where its record begins
pub record FaultAt : Type 0 where
  pub number : ℕ
  pub at : ℕ

-- what a body says under a mark
abbrev pub entry_of : Mark → Body → Entry
entry_of m b = record { mark = m; rows = b.rows; cols = b.cols; bytes = b.cells.now }

-- what each case of a record says
abbrev pub entry : Record → Entry
entry (Draft b) = entry_of draft b
entry (Tile b) = entry_of tile b

-- a body under a mark, and the bytes handed on
abbrev pub handed_body : Mark → Body × Bor (List ℕ) → Entry × List ℕ
handed_body m p = (entry_of m p.0, p.1.now)

-- a record, and the bytes handed on
abbrev pub handed : Record × Bor (List ℕ) → Entry × List ℕ
handed p = (entry p.0, p.1.now)

-- what a fault says
abbrev pub fault_at : Fault → FaultAt
fault_at f = record { number = number f.refusal; at = f.at }

-- what a reader's answer says
abbrev pub answered : Result (Option Record) Fault → Result (Option Entry) FaultAt
answered (Ok o) = Ok (option_map entry o)
answered (Err f) = Err (fault_at f)
