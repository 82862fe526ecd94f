-- Reading cells one after another. Assumes nothing.
use Rattle.std.specs.Prelude.{ℕ, zero, suc, List, [], ◌∷◌, take, drop, is_some, Some, None, Option, nat_le}
use Rattle.std.specs.Option.{unwrap_or}
use Rattle.grids.specs.Refusals.{first_failed}
use Rattle.cells.specs.Readings.{Reading}

module _ {C : Type 0} where
  -- a cell before more cells, if all are there
  abbrev pub onto : Option C → Option (List C) → Option (List C)
  onto None ys = None
  onto (Some x) None = None
  onto (Some x) (Some ys) = Some (x ∷ ys)

  -- the first n cells of the bytes, or none where some cell's bytes read as no cell
  abbrev pub cells_read : Reading C → ℕ → List ℕ → Option (List C)
  cells_read k zero bs = Some []
  cells_read k (suc n) bs = onto (k.reads (take k.width bs)) (cells_read k n (drop k.width bs))

  -- the same as a list; it is empty where some cell's bytes read as no cell
  abbrev pub cells_of : Reading C → ℕ → List ℕ → List C
  cells_of k n bs = unwrap_or (cells_read k n bs) []

  -- why n cells of the bytes are not read into memory for m cells: it is too short, or some cell's bytes read as no cell
  abbrev pub read_refusal : Reading C → ℕ → List ℕ → ℕ → Option ℕ
  read_refusal k n bs m = first_failed
      ((nat_le n m, 7)
      ∷ (is_some (cells_read k n bs), 12)
      ∷ [])
