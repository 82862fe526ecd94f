-- A search of a draft for one tile after another.
use Rattle.std.proofs.Common.{◌≡◌, ℕ, ◌+◌, ◌*◌, ◌<◌, ◌≤◌, List, [], ◌∷◌, ◌++◌, map, length, get_or, take, Ok, ap, ◌∙◌, append_assoc, arith}
use Rattle.std.proofs.lemmas.Nat.{mul-le}
use Rattle.std.proofs.lemmas.List.{take_all}
use Rattle.std.proofs.lemmas.List.Sums.{length-filter, count_by-le-length}
use Rattle.grids.specs.declared.Found.{Found}
use Rattle.grids.specs.declared.Position.{Position}
use Rattle.grids.specs.Kinds.{Kind}
use Rattle.grids.specs.Grids.{Grid, Tile, Valid, laid}
use Rattle.grids.specs.Places.{places, lies, spots, heights, widths}
use Rattle.grids.proofs.Spots.{length-spots}
use Rattle.engine.specs.Rules.{Rule}
use Rattle.engine.specs.Finding.{find_answer, find_list}
use Rattle.lines.specs.declared.Line.{Line}
use Rattle.lines.specs.declared.Line.TheVariants.{Tile as TileLine, Draft}
use Rattle.reports.specs.Reports.{place_line, numbered_lines}
use Rattle.reports.proofs.Finding.{finds, list_kept, places_shown}
use Rattle.reports.proofs.Numbered.{numbered_more}
use Rattle.find_report.specs.Report.{tile_lines, draft_lines}

-- a grid has room for the places of a tile
places_few : {C : Type 0} (k : Kind C) (g : Grid C) (t : Tile C) → Valid t → length (places k g (laid t)) ≤ g.rows * g.cols
places_few k g t v =
    let xs = spots (heights g (laid t)) (widths g (laid t)) in
    let p = lies k g (laid t) in
    let m = mul-le (heights g (laid t)) (widths g (laid t)) g.rows g.cols (omega (arith, v.some_rows)) (omega (arith, v.some_cols)) in
    omega (arith, length-filter p xs, count_by-le-length p xs, length-spots (heights g (laid t)) (widths g (laid t)), m)

-- a search of a draft that showed g has been through the first n of the tiles ts; the draft shows h, and the list has room for all places in it
pub record Searched {C : Type 0} (k : Kind C) (rule : Rule C) (g h : Grid C) (ts : List (Tile C)) (n : ℕ) (list : List Position) (old new : List Line) : Type 0 where
  pub same : h ≡ g
  pub long : h.rows * h.cols ≤ length list
  pub lines : new ≡ old ++ numbered_lines (tile_lines k rule g) 0 (take n ts)

-- then the engine found the tile t
module _ {C : Type 0} (k : Kind C) (rule : Rule C) (g h : Grid C) (ts : List (Tile C)) (n : ℕ) (list : List Position) (old mid : List Line) (s : Searched k rule g h ts n list old mid) (t : Tile C) (w : ℕ) (f : Found) (new : List Position) (valid : Valid t) (answer : Ok f ≡ find_answer k rule h t w) (listing : new ≡ find_list k h t w list) where
  found_all : f.places ≡ length (places k h (laid t))
  found_all = ap (λ x. x.places) (finds k rule h t w f list new answer listing)

  pub all_fit : f.places ≤ length new
  all_fit = omega (arith, found_all, list_kept k rule h t w f list new answer listing, places_few k h t valid, s.long)

  told : (placed more : List Line) → placed ≡ mid ++ map (place_line n) (take f.places new) → more ≡ placed ++ TileLine n f.places f.looks ∷ [] → more ≡ mid ++ tile_lines k rule h n t
  told placed more p e =
      let ps = places k h (laid t) in
      let all = places_shown k rule h t w f list new answer listing f.places (omega (arith, all_fit)) ∙ take_all (length list) ps (omega (arith, places_few k h t valid, s.long)) in
      e ∙ (ap (λ x. placed ++ TileLine n x f.looks ∷ []) found_all
      ∙ (ap (λ x. placed ++ TileLine n (length ps) x ∷ []) (ap (λ x. x.looks) (finds k rule h t w f list new answer listing))
      ∙ (ap (λ ls. ls ++ TileLine n (length ps) (rule.looks h (laid t)) ∷ []) (p ∙ ap (λ qs. mid ++ map (place_line n) qs) all)
      ∙ append_assoc mid (map (place_line n) ps) _)))

  pub searched_more : (d : Tile C) {j : Grid C} {placed more : List Line} → n < length ts → t ≡ get_or ts n d → j ≡ h → placed ≡ mid ++ map (place_line n) (take f.places new) → more ≡ placed ++ TileLine n f.places f.looks ∷ [] → Searched k rule g j ts (n + 1) new old more
  searched_more d {j} {placed} {more} l i e p m =
      record {
        same = e ∙ s.same;
        long = omega (arith, s.long, list_kept k rule h t w f list new answer listing, ap (λ u. u.rows * u.cols) e);
        lines = numbered_more (tile_lines k rule g) ts n d old mid more l s.lines (told placed more p m ∙ (ap (λ u. mid ++ tile_lines k rule u n t) s.same ∙ ap (λ u. mid ++ tile_lines k rule g n u) i));
      }

-- there is no next tile, and the line of the draft was added
pub searched_all : {C : Type 0} (k : Kind C) (rule : Rule C) (g h : Grid C) (ts : List (Tile C)) (n : ℕ) (list : List Position) (old mid : List Line) → Searched k rule g h ts n list old mid → length ts ≤ n → (rows cols m : ℕ) (new : List Line) → new ≡ mid ++ Draft rows cols m ∷ [] → rows ≡ g.rows → cols ≡ g.cols → m ≡ length ts → new ≡ old ++ draft_lines k rule ts g
searched_all k rule g h ts n list old mid s l rows cols m new e r c z =
    let ls = numbered_lines (tile_lines k rule g) 0 ts in
    let done : mid ≡ old ++ ls = s.lines ∙ ap (λ us. old ++ numbered_lines (tile_lines k rule g) 0 us) (take_all n ts l) in
    e ∙ (ap (λ x. x ++ Draft rows cols m ∷ []) done ∙ (append_assoc old ls (Draft rows cols m ∷ [])
    ∙ ap (λ d. old ++ (ls ++ d ∷ [])) (ap (λ x. Draft x cols m) r ∙ (ap (λ x. Draft g.rows x m) c ∙ ap (Draft g.rows g.cols) z))))
