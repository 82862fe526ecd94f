-- The lines that looking over the drafts of a record file by a fault book answers. Assumes nothing.
use Rattle.std.specs.Prelude.{◌≡◌, ℕ, zero, suc, List, [], ◌∷◌, ◌++◌, map, length, take, Ok, Err, Result}
use Rattle.grids.specs.Kinds.{Kind}
use Rattle.grids.specs.Grids.{Grid, Tile, Valid, laid}
use Rattle.grids.specs.Places.{places, Exact}
use Rattle.cells.specs.Readings.{Reading}
use Rattle.book.specs.Models.{Held, empty}
use Rattle.book.specs.Entering.{enter_answer, enter_state}
use Rattle.book.specs.Judging.{found_in, judged}
use Rattle.lines.specs.declared.Line.{Line}
use Rattle.lines.specs.declared.Line.TheVariants.{Entered, Refused, Passed, Stopped}
use Rattle.lines.specs.Rendering.{page}
use Rattle.reports.specs.Reports.{place_line, numbered_lines, Telling, says, next, report as report_from}

-- what enter answered for a tile of so many rows and columns
abbrev pub enter_line : ℕ → ℕ → Result ℕ ℕ → Line
enter_line rows cols (Ok n) = Entered rows cols n
enter_line rows cols (Err n) = Refused n

-- how many tiles were found in a draft of so many rows and columns: none means that it passed
abbrev pub verdict_line : ℕ → ℕ → ℕ → Line
verdict_line rows cols zero = Passed rows cols
verdict_line rows cols (suc n) = Stopped rows cols (suc n)

module _ {C : Type 0} where
  -- the first 64 places of tile number n
  abbrev pub place_lines : Kind C → Grid C → ℕ → Tile C → List Line
  place_lines k g n t = map (place_line n) (take 64 (places k g (laid t)))

  -- a draft that shows g, by the tiles ts: the places of each in turn, and then the verdict
  abbrev pub draft_lines : Kind C → Grid C → List (Tile C) → List Line
  draft_lines k g ts = numbered_lines (place_lines k g) 0 ts ++ (verdict_line g.rows g.cols (found_in k g ts) ∷ [])

  -- a tile is entered in the book, and a draft is looked over by the tiles held and judged
  abbrev pub telling : Kind C → Telling C (Held C)
  telling k = record {
    tile_lines = λ s t. enter_line t.rows t.cols (enter_answer k s t) ∷ [];
    tile_state = enter_state k;
    draft_lines = λ s g. draft_lines k g s.tiles;
    draft_state = λ s g. judged k g s;
  }

  -- the lines of an input, from a new book and the store cs
  abbrev pub report : Kind C → Reading C → List C → List ℕ → List Line
  report k r cs bs = report_from (says (telling k) r) (next (telling k) r) r (empty cs) bs

-- the lines are the report of the input from a new book and a store of 4,096 cells, whatever these are, and the places in it are exactly the places of each tile
pub record Answers {C : Type 0} (k : Kind C) (r : Reading C) (bs : List ℕ) (ls : List Line) : Type 0 where
  pub lines : (store : List C) → length store ≡ 4096 → ls ≡ report k r store bs
  pub exact : (g : Grid C) (t : Tile C) → Valid t → Exact k g t

-- the text is what is printed of such lines
pub record Prints {C : Type 0} (k : Kind C) (r : Reading C) (bs text : List ℕ) : Type 0 where
  pub text_is : (store : List C) → length store ≡ 4096 → text ≡ page (report k r store bs)
  pub exact : (g : Grid C) (t : Tile C) → Valid t → Exact k g t
