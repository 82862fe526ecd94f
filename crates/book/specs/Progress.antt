-- Whether a store has room. Only the contracts of private functions use this. Assumes nothing.
use Rattle.std.specs.Prelude.{ℕ, ◌+◌, [], ◌∷◌, length, Option, nat_le}
use Rattle.grids.specs.Refusals.{first_failed}
use Rattle.book.specs.Models.{Held, cells_held}

-- why a store is refused: it has no room for the cells held and m more
abbrev pub store_refusal : {C : Type 0} → Held C → ℕ → Option ℕ
store_refusal s m = first_failed ((nat_le (cells_held s.tiles + m) (length s.store), 7) ∷ [])
