-- The places of the held tiles in a draft, one tile after another.
use Rattle.std.proofs.Common.{◌≡◌, ℕ, ◌+◌, ◌<◌, ◌≤◌, min, cond, List, [], ◌∷◌, ◌++◌, map, length, get_or, take, Ok, Result, sym, refl, ap, ◌∙◌, ap₂, arith}
use Rattle.std.proofs.lemmas.List.{nil_from_length, take_all}
use Rattle.std.proofs.lemmas.List.Sums.{sum_by-cons}
use Rattle.std.proofs.lemmas.Bool.Decides.{nat_tests}
use Rattle.grids.specs.declared.Found.{Found}
use Rattle.grids.specs.declared.Position.{Position}
use Rattle.grids.specs.declared.Refusal.{Refusal}
use Rattle.grids.specs.Refusals.{numbered}
use Rattle.grids.specs.Kinds.{Kind}
use Rattle.grids.specs.Grids.{Grid, Tile, laid}
use Rattle.grids.specs.Places.{places, has_place}
use Rattle.engine.specs.Rules.{Rule}
use Rattle.engine.specs.Finding.{find_answer, find_list}
use Rattle.book.specs.Models.{Held, no_tile}
use Rattle.book.specs.Judging.{found_in}
use Rattle.lines.specs.declared.Line.{Line}
use Rattle.reports.specs.Reports.{place_line, numbered_lines}
use Rattle.reports.proofs.Finding.{places_shown}
use Rattle.reports.proofs.Numbered.{numbered_more}
use Rattle.book_report.specs.Report.{place_lines}

-- the places in g of the first n tiles of s are in the lines; the draft shows h, and the book and its store are z
pub record Pushed {C : Type 0} (k : Kind C) (g h : Grid C) (s z : Held C) (n : ℕ) (old new : List Line) : Type 0 where
  pub state : z ≡ s
  pub same : h ≡ g
  pub lines : new ≡ old ++ numbered_lines (place_lines k g) 0 (take n s.tiles)

module _ {C : Type 0} {k : Kind C} {g h : Grid C} {s z : Held C} {n : ℕ} {old mid : List Line} (p : Pushed k g h s z n old mid) where
  -- the next tile was found, and the places that the list has room for were added
  pub pushed_more : (rule : Rule C) (t : Tile C) (w m : ℕ) (r : Result Found Refusal) (f : Found) (list new : List Position) {j : Grid C} {more : List Line} → n < length s.tiles → t ≡ get_or s.tiles n no_tile → r ≡ Ok f → numbered r ≡ find_answer k rule h t w → new ≡ find_list k h t w list → length list ≡ 64 → m ≡ min f.places (length new) → j ≡ h → more ≡ mid ++ map (place_line n) (take m new) → Pushed k g j s z (n + 1) old more
  pushed_more rule t w m r f list new {j} {more} l i ok answer listing long few e a =
      let shown : take m new ≡ take 64 (places k g (laid (get_or s.tiles n no_tile))) =
      places_shown k rule h t w f list new (ap numbered (sym ok) ∙ answer) listing m few
      ∙ (ap₂ (λ u x. take u (places k x (laid t))) long p.same ∙ ap (λ u. take 64 (places k g (laid u))) i) in
      record {
        state = p.state;
        same = e ∙ p.same;
        lines = numbered_more (place_lines k g) s.tiles n no_tile old mid more l p.lines (a ∙ ap (λ qs. mid ++ map (place_line n) qs) shown);
      }

  -- there is no next tile
  pub pushed_all : length s.tiles ≤ n → mid ≡ old ++ numbered_lines (place_lines k g) 0 s.tiles
  pushed_all l = p.lines ∙ ap (λ ts. old ++ numbered_lines (place_lines k g) 0 ts) (take_all n s.tiles l)

-- tiles of which none was found have no lines
pub no_lines : {C : Type 0} (k : Kind C) (g : Grid C) (n : ℕ) (ts : List (Tile C)) → found_in k g ts ≤ 0 → numbered_lines (place_lines k g) n ts ≡ []
no_lines k g n [] h = refl
no_lines k g n (t ∷ ts) h =
    let c = sum_by-cons (λ u. cond (has_place k g (laid u)) 1 0) t ts in
    let none : length (places k g (laid t)) ≡ 0 = grind (arith, nat_tests) in
    ap₂ (λ qs ls. map (place_line n) (take 64 qs) ++ ls) (nil_from_length (places k g (laid t)) none) (no_lines k g (n + 1) ts (omega (arith, c, h)))
