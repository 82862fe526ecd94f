-- What a search has done so far. Only the contracts of private functions use these. Assumes nothing.
use Rattle.std.specs.Prelude.{◌≡◌, ℕ, ◌+◌, ◌*◌, ◌≤◌, List, length, sum_by, filter}
use Rattle.grids.specs.declared.Position.{Position}
use Rattle.grids.specs.Kinds.{Kind}
use Rattle.grids.specs.Grids.{Grid, laid}
use Rattle.grids.specs.Places.{lies}
use Rattle.grids.specs.Listed.{filled}
use Rattle.drafts.specs.Tallies.{raised}
use Rattle.engine.specs.Views.{viewed}
use Rattle.plain.specs.declared.Search.{Search}
use Rattle.plain.specs.Looks.{compared}

-- a search looked n times, from its state a to b, and kept all else
pub record Looked {C D : Type 0} (shows : D → Grid C) (tally : D → ℕ) (n : ℕ) (a b : Search C D) : Type 0 where
  pub draft : b.draft.ghost_name ≡ a.draft.ghost_name
  pub list : b.list ≡ a.list
  pub tile : b.tile ≡ a.tile
  pub same : shows b.draft.now ≡ shows a.draft.now
  pub places : b.found.places ≡ a.found.places
  pub looks : b.found.looks ≡ a.found.looks + n
  pub counts : tally b.draft.now ≡ raised (tally a.draft.now) n

module _ {C D : Type 0} (k : Kind C) (shows : D → Grid C) where
  -- the spots at which the tile of a search lies in its draft
  abbrev pub places_at : Search C D → List Position → List Position
  places_at s qs = filter (lies k (shows s.draft.now) (laid (viewed s.tile.view))) qs

  -- how many cells a search compares at the spots
  abbrev pub looks_at : Search C D → List Position → ℕ
  looks_at s qs = sum_by (compared k (shows s.draft.now) (laid (viewed s.tile.view))) qs

  -- what a search did at the spots qs, from its state a to b
  pub record Done (tally : D → ℕ) (qs : List Position) (a b : Search C D) : Type 0 where
    pub draft : b.draft.ghost_name ≡ a.draft.ghost_name
    pub list : b.list.ghost_name ≡ a.list.ghost_name
    pub tile : b.tile ≡ a.tile
    pub same : shows b.draft.now ≡ shows a.draft.now
    pub places : b.found.places ≡ a.found.places + length (places_at a qs)
    pub looks : b.found.looks ≡ a.found.looks + looks_at a qs
    pub listing : b.list.now ≡ filled a.found.places (places_at a qs) a.list.now
    pub counts : tally b.draft.now ≡ raised (tally a.draft.now) (looks_at a qs)
    pub few_places : b.found.places ≤ a.found.places + length qs
    pub few_looks : b.found.looks ≤ a.found.looks + length qs * 1024
