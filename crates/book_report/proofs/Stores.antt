-- What the store held at first changes no line.
use Rattle.std.proofs.Common.{◌≡◌, ℕ, ◌+◌, cond, eqb, ltb, leb, List, [], ◌∷◌, ◌++◌, length, Some, None, Option, sym, refl, ap, ◌∙◌, ap₂, subst}
use Rattle.std.specs.List.{insert}
use Rattle.grids.specs.Kinds.{Kind}
use Rattle.grids.specs.Grids.{Tile}
use Rattle.grids.specs.Refusals.{first_failed, unless, kept_or}
use Rattle.grids.proofs.Writing.{length-listed}
use Rattle.cells.specs.Readings.{Reading}
use Rattle.engine.specs.Finding.{tile_checks}
use Rattle.book.specs.Models.{Held, tile_area, cells_held}
use Rattle.book.specs.Entering.{times_held, insertion_point, all_cells, enter_refusal, entered, enter_answer, enter_state}
use Rattle.records.specs.Marks.{Mark, draft, tile as tile_mark, unknown}
use Rattle.records.specs.Entries.{Entry}
use Rattle.records.specs.Files.{file}
use Rattle.lines.specs.declared.Line.TheVariants.{TooLong}
use Rattle.reports.specs.Reports.{entry_grid, entry_tile, fault_lines, entries_lines, lines_at, state_at, says, next, report}
use Rattle.book_report.specs.Report.{enter_line, draft_lines, telling}

-- the same tiles, and stores of one length
pub record Alike {C : Type 0} (s z : Held C) : Type 0 where
  pub tiles : s.tiles ≡ z.tiles
  pub long : length s.store ≡ length z.store

module _ {C : Type 0} (k : Kind C) (t : Tile C) (s z : Held C) (a : Alike s z) where
  refusal_alike : enter_refusal k s t ≡ enter_refusal k z t
  refusal_alike = ap₂ (λ ts n. first_failed (tile_checks t ++ (ltb (length ts) 32, 4) ∷ (leb (cells_held ts + tile_area t) n, 7) ∷ (eqb (times_held k t ts) 0, 3) ∷ [])) a.tiles a.long

  answer_alike : enter_answer k s t ≡ enter_answer k z t
  answer_alike = ap₂ (λ o ts. unless o (insertion_point k t ts)) refusal_alike a.tiles

  entered_alike : Alike (entered k s t) (entered k z t)
  entered_alike =
      let f : List (Tile C) → List (Tile C) = λ ts. insert ts (insertion_point k t ts) t in
      record { tiles = ap f a.tiles; long = length-listed (all_cells (f s.tiles)) s.store ∙ (a.long ∙ sym (length-listed (all_cells (f z.tiles)) z.store)) }

  kept_alike : (o : Option ℕ) → Alike (kept_or o s (entered k s t)) (kept_or o z (entered k z t))
  kept_alike None = entered_alike
  kept_alike (Some m) = a

  state_alike : Alike (enter_state k s t) (enter_state k z t)
  state_alike =
      let A : Option ℕ → Type 0 = λ o. Alike (enter_state k s t) (kept_or o z (entered k z t)) in
      subst A refusal_alike (kept_alike (enter_refusal k s t))

module _ {C : Type 0} (k : Kind C) (r : Reading C) where
  says_alike : (s z : Held C) (e : Entry) (m : Mark) → Alike s z → lines_at (telling k) r s e m ≡ lines_at (telling k) r z e m
  says_alike s z e draft a = ap (draft_lines k (entry_grid r e)) a.tiles
  says_alike s z e tile_mark a = ap (λ x. enter_line e.rows e.cols x ∷ []) (answer_alike k (entry_tile r e) s z a)
  says_alike s z e unknown a = refl

  next_alike : (s z : Held C) (e : Entry) (m : Mark) → Alike s z → Alike (state_at (telling k) r s e m) (state_at (telling k) r z e m)
  next_alike s z e draft a = record { tiles = a.tiles; long = a.long }
  next_alike s z e tile_mark a = state_alike k (entry_tile r e) s z a
  next_alike s z e unknown a = a

  entries_alike : (s z : Held C) (es : List Entry) → Alike s z → entries_lines (says (telling k) r) (next (telling k) r) s es ≡ entries_lines (says (telling k) r) (next (telling k) r) z es
  entries_alike s z [] a = refl
  entries_alike s z (e ∷ es) a = ap₂ (λ xs ys. xs ++ ys) (says_alike s z e e.mark a) (entries_alike (next (telling k) r s e) (next (telling k) r z e) es (next_alike s z e e.mark a))

  pub report_alike : (s z : Held C) (bs : List ℕ) → Alike s z → report (says (telling k) r) (next (telling k) r) r s bs ≡ report (says (telling k) r) (next (telling k) r) r z bs
  report_alike s z bs a = ap (λ ls. cond (ltb 65535 (length bs)) (TooLong ∷ []) (ls ++ fault_lines (file r bs).fault)) (entries_alike s z (file r bs).entries a)
