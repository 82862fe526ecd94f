-- What stands at the front of some bytes. Assumes nothing.
use Rattle.std.specs.Prelude.{ℕ, ◌+◌, ◌*◌, Bool, ◌&&◌, List, [], ◌∷◌, length, take, drop, is_some, Some, None, Ok, Err, Option, Result, nat_le, slice_index}
use Rattle.grids.specs.Refusals.{first_failed, between}
use Rattle.cells.specs.Readings.{Reading}
use Rattle.readings.specs.CellLists.{cells_read}
use Rattle.records.specs.Marks.{Mark, mark, known, limit, size_number}
use Rattle.records.specs.Entries.{Entry, FaultAt}

-- nothing, a fault with its number, or a record with the number of bytes it takes
pub data Front : Type 0 where
  end : Front
  faulty : ℕ → Front
  whole : Entry → ℕ → Front

-- the 16-bit number at byte i, low byte first
abbrev pub word : List ℕ → ℕ → ℕ
word bs i = slice_index bs i + slice_index bs (i + 1) * 256

-- the mark at the front
abbrev pub mark_in : List ℕ → Mark
mark_in bs = mark (slice_index bs 0) (slice_index bs 1)

-- what follows the mark
abbrev pub after_mark : List ℕ → List ℕ
after_mark bs = drop 2 bs

-- the rows, which follow the mark
abbrev pub rows_in : List ℕ → ℕ
rows_in rest = word rest 0

-- the columns, which follow the rows
abbrev pub cols_in : List ℕ → ℕ
cols_in rest = word rest 2

-- a fault, or else a record of n bytes
abbrev pub faulty_or : Option ℕ → Entry → ℕ → Front
faulty_or None e n = whole e n
faulty_or (Some f) e n = faulty f

module _ {C : Type 0} where
  -- how many bytes the cells take, by what follows the mark
  abbrev pub body_size : Reading C → List ℕ → ℕ
  body_size k rest = rows_in rest * cols_in rest * k.width

  -- the checks of what follows the mark: header whole, size from 1 to `most`, cells whole, cells read
  abbrev pub body_checks : Reading C → ℕ → ℕ → List ℕ → List (Bool × ℕ)
  body_checks k most bad-size rest =
      ((nat_le 4 (length rest), 11)
      ∷ (between 1 most (rows_in rest) && between 1 most (cols_in rest), bad-size)
      ∷ (nat_le (4 + body_size k rest) (length rest), 11)
      ∷ (is_some (cells_read k (rows_in rest * cols_in rest) (drop 4 rest)), 12)
      ∷ [])

  -- the number of what is wrong with the record at the front: mark whole, mark known, then what follows the mark
  abbrev pub record_fault : Reading C → List ℕ → Option ℕ
  record_fault k bs = first_failed
      ((nat_le 2 (length bs), 11)
      ∷ (known (mark_in bs), 10)
      ∷ body_checks k (limit (mark_in bs)) (size_number (mark_in bs)) (after_mark bs))

  -- the record under the mark m, by what follows it
  abbrev pub entry_in : Reading C → Mark → List ℕ → Entry
  entry_in k m rest = record { mark = m; rows = rows_in rest; cols = cols_in rest; bytes = take (body_size k rest) (drop 4 rest) }

  -- that record, and the bytes after it
  abbrev pub parted : Reading C → Mark → List ℕ → Entry × List ℕ
  parted k m rest = (entry_in k m rest, drop (4 + body_size k rest) rest)

  -- what stands at the front of the bytes
  abbrev pub front : Reading C → List ℕ → Front
  front k [] = end
  front k (b ∷ bs) = faulty_or (record_fault k (b ∷ bs)) (entry_in k (mark_in (b ∷ bs)) (after_mark (b ∷ bs))) (2 + (4 + body_size k (after_mark (b ∷ bs))))

-- what a reader at byte n answers
abbrev pub next_answer : ℕ → Front → Result (Option Entry) FaultAt
next_answer n end = Ok None
next_answer n (faulty f) = Err (record { number = f; at = n })
next_answer n (whole e m) = Ok (Some e)

-- the bytes that it hands on: at the end and at a fault it stays
abbrev pub handed_on : List ℕ → Front → List ℕ
handed_on bs end = bs
handed_on bs (faulty f) = bs
handed_on bs (whole e m) = drop m bs

-- the byte at which it then is
abbrev pub moved_to : ℕ → Front → ℕ
moved_to n end = n
moved_to n (faulty f) = n
moved_to n (whole e m) = n + m
