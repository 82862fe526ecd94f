-- What a book and its store hold. Assumes nothing.
use Rattle.std.specs.Prelude.{ℕ, ◌*◌, ◌≤◌, Bool, true, List, [], ◌∷◌, map, length, take, drop, sum_by, Option, nat_le, nat_lt}
use Rattle.grids.specs.Grids.{Tile, tile}
use Rattle.grids.specs.Refusals.{first_failed}
use Rattle.book.specs.declared.Book.{Book}
use Rattle.book.specs.declared.TableEntry.{TableEntry}
use Rattle.book.specs.Table.{size_of, area}

-- the entries of the tiles that a book holds
abbrev pub entries_held : Book → List TableEntry
entries_held b = take b.count b.entries

-- the sizes of its tiles, in book order
abbrev pub sizes : Book → List (ℕ × ℕ)
sizes b = map size_of (entries_held b)

-- their stop counts, in book order
abbrev pub stop_counts : Book → List ℕ
stop_counts b = map (λ e. e.stops) (entries_held b)

-- whether it is trimmed
abbrev pub is_trimmed : Book → Bool
is_trimmed b = b.trimmed

-- why a question for tile n of m is refused
abbrev pub number_refusal : ℕ → ℕ → Option ℕ
number_refusal m n = first_failed ((nat_lt n m, 5) ∷ [])

-- the model of a book and its store: the tiles in book order, their stop counts, whether it is trimmed, and the store
pub record Held (C : Type 0) : Type 0 where
  pub tiles : List (Tile C)
  pub stops : List ℕ
  pub trimmed : Bool
  pub store : List C

module _ {C : Type 0} where
  -- tiles of the given sizes, their cells one after another from the front of a store
  abbrev pub cut : List (ℕ × ℕ) → List C → List (Tile C)
  cut [] cs = []
  cut (s ∷ ss) cs = tile s.0 s.1 (take (area s) cs) ∷ cut ss (drop (area s) cs)

  -- what a book and a store hold together
  abbrev pub held : Book → List C → Held C
  held b cs = record { tiles = cut (sizes b) cs; stops = stop_counts b; trimmed = is_trimmed b; store = cs }

  -- a new book, with a store cs
  abbrev pub empty : List C → Held C
  empty cs = record { tiles = []; stops = []; trimmed = true; store = cs }

  -- how many cells a tile has by its size
  abbrev pub tile_area : Tile C → ℕ
  tile_area t = t.rows * t.cols

  -- how many cells the tiles have together
  abbrev pub cells_held : List (Tile C) → ℕ
  cells_held ts = sum_by tile_area ts

  -- the store has at least as many cells as the tiles
  abbrev pub Stored : Held C → Type 0
  Stored s = cells_held s.tiles ≤ length s.store

  -- what stands for a tile where there is none
  abbrev pub no_tile : Tile C
  no_tile = tile 0 0 []

  -- why a tile is not handed out: there is none with the number, or the store is shorter than the cells held
  abbrev pub hand_out_refusal : Held C → ℕ → Option ℕ
  hand_out_refusal s n = first_failed
      ((nat_lt n (length s.tiles), 5)
      ∷ (nat_le (cells_held s.tiles) (length s.store), 7)
      ∷ [])
