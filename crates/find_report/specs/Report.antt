-- The lines that finding the tiles of a record file answers. Assumes nothing.
use Rattle.std.specs.Prelude.{◌≡◌, ℕ, List, [], ◌∷◌, ◌++◌, map, length}
use Rattle.grids.specs.Kinds.{Kind}
use Rattle.grids.specs.Grids.{Grid, Tile, Valid, laid}
use Rattle.grids.specs.Places.{places, Exact}
use Rattle.cells.specs.Readings.{Reading}
use Rattle.engine.specs.Rules.{Rule}
use Rattle.lines.specs.declared.Line.{Line}
use Rattle.lines.specs.declared.Line.TheVariants.{Tile as TileLine, Draft}
use Rattle.lines.specs.Rendering.{page}
use Rattle.reports.specs.Reports.{place_line, numbered_lines, Telling, says, next, report as report_from}

module _ {C : Type 0} where
  -- tile number n in a grid: all its places, and then how many there are and how many looks they took
  abbrev pub tile_lines : Kind C → Rule C → Grid C → ℕ → Tile C → List Line
  tile_lines k rule g n t = map (place_line n) (places k g (laid t)) ++ (TileLine n (length (places k g (laid t))) (rule.looks g (laid t)) ∷ [])

  -- a draft after the tiles ts: each of them in turn, and then the draft
  abbrev pub draft_lines : Kind C → Rule C → List (Tile C) → Grid C → List Line
  draft_lines k rule ts g = numbered_lines (tile_lines k rule g) 0 ts ++ (Draft g.rows g.cols (length ts) ∷ [])

  -- a tile adds no line and comes to the tiles before it, and a draft leaves the tiles
  abbrev pub telling : Kind C → Rule C → Telling C (List (Tile C))
  telling k rule = record {
    tile_lines = λ ts t. [];
    tile_state = λ ts t. ts ++ t ∷ [];
    draft_lines = draft_lines k rule;
    draft_state = λ ts g. ts;
  }

  -- the lines of an input
  abbrev pub report : Kind C → Reading C → Rule C → List ℕ → List Line
  report k r rule bs = report_from (says (telling k rule) r) (next (telling k rule) r) r [] bs

-- the lines are the report of the input, and the places in it are exactly the places of each tile, each once, in reading order
pub record Answers {C : Type 0} (k : Kind C) (r : Reading C) (rule : Rule C) (bs : List ℕ) (ls : List Line) : Type 0 where
  pub lines : ls ≡ report k r rule bs
  pub exact : (g : Grid C) (t : Tile C) → Valid t → Exact k g t

-- the text is what is printed of such lines
pub record Prints {C : Type 0} (k : Kind C) (r : Reading C) (rule : Rule C) (bs text : List ℕ) : Type 0 where
  pub text_is : text ≡ page (report k r rule bs)
  pub exact : (g : Grid C) (t : Tile C) → Valid t → Exact k g t
