-- What enter answers, and what it leaves. Assumes nothing.
use Rattle.std.specs.Prelude.{◌≡◌, ℕ, ◌+◌, ◌≤◌, true, false, List, [], ◌∷◌, ◌++◌, length, take, Some, count_by, Option, Result, ◌==◌, nat_le, nat_lt}
use Rattle.std.specs.List.{insert, flat_map, prefix_len, AllByRecursion, slice_get}
use Rattle.grids.specs.Kinds.{Kind}
use Rattle.grids.specs.Grids.{Tile}
use Rattle.grids.specs.Listed.{listed}
use Rattle.grids.specs.Refusals.{first_failed, unless, kept_or}
use Rattle.engine.specs.Finding.{tile_checks}
use Rattle.book_order.specs.Orders.{tiles}
use Rattle.book.specs.Models.{Held, tile_area, cells_held}

module _ {C : Type 0} where
  -- how many of the tiles are t
  abbrev pub times_held : Kind C → Tile C → List (Tile C) → ℕ
  times_held k t ts = count_by (λ u. (tiles k).same u t) ts

  -- why t is not entered: the tile itself, a 33rd tile, a store too short for the cells held and new, a tile already held
  abbrev pub enter_refusal : Kind C → Held C → Tile C → Option ℕ
  enter_refusal k s t = first_failed (tile_checks t
      ++ (nat_lt (length s.tiles) 32, 4)
      ∷ (nat_le (cells_held s.tiles + tile_area t) (length s.store), 7)
      ∷ ((times_held k t s.tiles == 0), 3)
      ∷ [])

  -- the number that t gets: how many tiles stand before the first that is not before t
  abbrev pub insertion_point : Kind C → Tile C → List (Tile C) → ℕ
  insertion_point k t ts = prefix_len (λ u. (tiles k).before u t) ts

  -- the cells of all tiles, one after another
  abbrev pub all_cells : List (Tile C) → List C
  all_cells ts = flat_map (λ t. t.cells) ts

  -- the tiles with t among them at number n, with stop count 0; their cells fill the front of the store, and the book is no longer trimmed
  abbrev pub entered_at : ℕ → Held C → Tile C → Held C
  entered_at n s t = record {
    tiles = insert s.tiles n t;
    stops = insert s.stops n 0;
    trimmed = false;
    store = listed (all_cells (insert s.tiles n t)) s.store;
  }

  -- what an accepted enter makes of a book and its store
  abbrev pub entered : Kind C → Held C → Tile C → Held C
  entered k s t = entered_at (insertion_point k t s.tiles) s t

  -- what enter answers
  abbrev pub enter_answer : Kind C → Held C → Tile C → Result ℕ ℕ
  enter_answer k s t = unless (enter_refusal k s t) (insertion_point k t s.tiles)

  -- what it leaves
  abbrev pub enter_state : Kind C → Held C → Tile C → Held C
  enter_state k s t = kept_or (enter_refusal k s t) s (entered k s t)

  -- enter answers so, and takes s to s'
  pub record Enters (k : Kind C) (s : Held C) (t : Tile C) (answer : Result ℕ ℕ) (s' : Held C) : Type 0 where
    pub answered : answer ≡ enter_answer k s t
    pub state : s' ≡ enter_state k s t

  -- all tiles below number n are before t, and number n, if there is one, is not
  pub record InsertionPoint (k : Kind C) (t : Tile C) (ts : List (Tile C)) (n : ℕ) : Type 0 where
    pub few : n ≤ length ts
    pub earlier : AllByRecursion (λ u. (tiles k).before u t ≡ true) (take n ts)
    pub next : (u : Tile C) → slice_get ts n ≡ Some u → (tiles k).before u t ≡ false
