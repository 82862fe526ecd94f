-- What find answers, and what it leaves. Assumes nothing.
use Rattle.std.specs.Prelude.{ℕ, ◌*◌, Bool, ◌&&◌, List, [], ◌∷◌, ◌++◌, length, Option, Result, ◌==◌, nat_le}
use Rattle.grids.specs.declared.Position.{Position}
use Rattle.grids.specs.declared.Found.{Found}
use Rattle.grids.specs.Kinds.{Kind}
use Rattle.grids.specs.Grids.{Grid, Tile, laid}
use Rattle.grids.specs.Places.{places}
use Rattle.grids.specs.Listed.{listed}
use Rattle.grids.specs.Refusals.{first_failed, between, unless, kept_or}
use Rattle.drafts.specs.Tallies.{raised}
use Rattle.engine.specs.Rules.{Rule}

-- what is checked of a work table of w words
abbrev pub work_checks : ℕ → List (Bool × ℕ)
work_checks w = (nat_le 12288 w, 8) ∷ []

module _ {C : Type 0} where
  -- what is checked of a tile: its size, then its length
  abbrev pub tile_checks : Tile C → List (Bool × ℕ)
  tile_checks t =
      (between 1 32 t.rows && between 1 32 t.cols, 1)
      ∷ ((length t.cells == t.rows * t.cols), 2)
      ∷ []

  -- why find is refused: the tile's size, its length, then a work table of w words that is too short
  abbrev pub find_refusal : Tile C → ℕ → Option ℕ
  find_refusal t w = first_failed (tile_checks t ++ work_checks w)

  -- how many places t has in g, and how many looks the rule takes for them
  abbrev pub finding : Kind C → Rule C → Grid C → Grid C → Found
  finding k rule g t = record { places = length (places k g t); looks = rule.looks g t }

  -- what find answers
  abbrev pub find_answer : Kind C → Rule C → Grid C → Tile C → ℕ → Result Found ℕ
  find_answer k rule g t w = unless (find_refusal t w) (finding k rule g (laid t))

  -- what the list of places holds after find, where it held old
  abbrev pub find_list : Kind C → Grid C → Tile C → ℕ → List Position → List Position
  find_list k g t w old = kept_or (find_refusal t w) old (listed (places k g (laid t)) old)

  -- what the draft's tally is after find, where it was u
  abbrev pub find_tally : Rule C → Grid C → Tile C → ℕ → ℕ → ℕ
  find_tally rule g t w u = kept_or (find_refusal t w) u (raised u (rule.looks g (laid t)))
