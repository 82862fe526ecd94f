-- What a record file holds. Assumes nothing.
use Rattle.std.specs.Prelude.{ℕ, zero, suc, ◌+◌, List, [], ◌∷◌, length, drop, Some, None, Option}
use Rattle.cells.specs.Readings.{Reading}
use Rattle.records.specs.Entries.{Entry, FaultAt}
use Rattle.records.specs.Fronts.{Front, end, faulty, whole, front}

-- the records up to the end or the first fault, and that fault
pub record File : Type 0 where
  pub entries : List Entry
  pub fault : Option FaultAt

-- a record before what the rest of a file holds
abbrev pub before : Entry → File → File
before e f = record { entries = e ∷ f.entries; fault = f.fault }

-- what a file holds from byte `at` on, by what stands there and what the file holds after a record of n bytes
abbrev pub filed : ℕ → Front → (ℕ → File) → File
filed at end rest = record { entries = []; fault = None }
filed at (faulty f) rest = record { entries = []; fault = Some (record { number = f; at = at }) }
filed at (whole e n) rest = before e (rest n)

module _ {C : Type 0} where
  -- what a file holds from byte `at` on, in at most n records
  abbrev pub file_from : Reading C → ℕ → ℕ → List ℕ → File
  file_from k zero at bs = record { entries = []; fault = None }
  file_from k (suc n) at bs = filed at (front k bs) (λ m. file_from k n (at + m) (drop m bs))

  -- what the file holds; a record takes a byte and more, so there are no more records than bytes
  abbrev pub file : Reading C → List ℕ → File
  file k bs = file_from k (suc (length bs)) 0 bs
