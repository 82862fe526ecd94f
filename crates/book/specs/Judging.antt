-- What judge answers, and what it leaves. Assumes nothing.
use Rattle.std.specs.Prelude.{◌≡◌, ℕ, cond, List, [], ◌∷◌, length, sum_by, count_by, Option, Result, nat_le}
use Rattle.std.specs.Simd.Lanes.{zip2}
use Rattle.grids.specs.Kinds.{Kind}
use Rattle.grids.specs.Grids.{Grid, Tile, laid}
use Rattle.grids.specs.Places.{has_place}
use Rattle.grids.specs.Refusals.{first_failed, unless, kept_or}
use Rattle.drafts.specs.Tallies.{raised}
use Rattle.engine.specs.Rules.{Rule}
use Rattle.engine.specs.Finding.{work_checks}
use Rattle.book.specs.declared.Verdict.{Verdict}
use Rattle.book.specs.Table.{one_more}
use Rattle.book.specs.Models.{Held, cells_held}

module _ {C : Type 0} where
  -- why judge is refused: a store shorter than the cells held, then a work table of w words that is too short
  abbrev pub judge_refusal : Held C → ℕ → Option ℕ
  judge_refusal s w = first_failed ((nat_le (cells_held s.tiles) (length s.store), 7) ∷ work_checks w)

  -- how many of the tiles have a place in g
  abbrev pub found_in : Kind C → Grid C → List (Tile C) → ℕ
  found_in k g ts = count_by (λ t. has_place k g (laid t)) ts

  -- how many looks the rule takes for all of them
  abbrev pub looks_for : Rule C → Grid C → List (Tile C) → ℕ
  looks_for rule g ts = sum_by (λ t. rule.looks g (laid t)) ts

  -- both numbers, as judge answers them
  abbrev pub verdict : Kind C → Rule C → Grid C → List (Tile C) → Verdict
  verdict k rule g ts = record { found = found_in k g ts; looks = looks_for rule g ts }

  -- the stop count n of t, after a draft that shows g was judged
  abbrev pub stops_after : Kind C → Grid C → Tile C → ℕ → ℕ
  stops_after k g t n = cond (has_place k g (laid t)) (one_more n) n

  -- what an accepted judge makes of a book and its store: only stop counts rise
  abbrev pub judged : Kind C → Grid C → Held C → Held C
  judged k g s = record { tiles = s.tiles; stops = zip2 (stops_after k g) s.tiles s.stops; trimmed = s.trimmed; store = s.store }

  -- what judge answers, with a work table of w words
  abbrev pub judge_answer : Kind C → Rule C → Grid C → ℕ → Held C → Result Verdict ℕ
  judge_answer k rule g w s = unless (judge_refusal s w) (verdict k rule g s.tiles)

  -- what it leaves
  abbrev pub judge_state : Kind C → Grid C → ℕ → Held C → Held C
  judge_state k g w s = kept_or (judge_refusal s w) s (judged k g s)

  -- judge answers so for a draft that shows g, and takes s to s'
  pub record Judges (k : Kind C) (rule : Rule C) (g : Grid C) (w : ℕ) (s : Held C) (answer : Result Verdict ℕ) (s' : Held C) : Type 0 where
    pub answered : answer ≡ judge_answer k rule g w s
    pub state : s' ≡ judge_state k g w s

  -- what the draft's tally is after judge, where it was u
  abbrev pub judge_tally : Rule C → Grid C → ℕ → Held C → ℕ → ℕ
  judge_tally rule g w s u = kept_or (judge_refusal s w) u (raised u (looks_for rule g s.tiles))
