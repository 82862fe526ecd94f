use Rattle.std.proofs.Common.{◌≡◌, [], ◌∷◌, ◌++◌, vec_items, sym, ap, ap₂, ◌∙◌, append_assoc, arith, rules}
use Rattle.std.proofs.lemmas.List.{append-nil}
use Rattle.book.specs.Models.{held}
use Rattle.book.specs.Judging.{found_in}
use Rattle.reports.specs.Reports.{numbered_lines}
use Rattle.book_report.specs.Report.{verdict_line, place_lines}
use Rattle.book_report.proofs.Pushing.{no_lines}
use Rattle.book_report.proofs.BookReportRecordReport.draft.Goals as goal
use Rattle.book_report.proofs.BookReportRecordReport.draft.Goals.{then-found-gt0+in_ok-push_tiles, else-found-gt0}

pub returns-clause-lines : goal.returns-clause-lines
returns-clause-lines g c =
    let k = g.C.Cell.kind in
    let grid = (g.D.Draft.shows c.args.draft.now) in
    let b = c.args.self.now in
    let s = held b.book b.store.items in
    let j = c.judge.ensures in
    let found : c.unwrap-found.result.found ≡ found_in k grid s.tiles = search rules in
    let after : (held c.judge.new.self b.store.items).tiles ≡ s.tiles = search rules in
    let lines = numbered_lines (place_lines k grid) 0 s.tiles in
    let base = vec_items c.args.lines.now in
    let so : (vec_items c.if-found-gt0.lines ≡ base ++ lines) × ((g.D.Draft.shows c.if-found-gt0.draft) ≡ grid) =
    elim c.if-found-gt0.branch [
      | then-found-gt0+in_ok-push_tiles w ↦ (
        ap (λ l. vec_items l) w.lines-is ∙ (w.in_ok-push_tiles.ensures.lines ∙ ap₂ (λ h ts. base ++ numbered_lines (place_lines k h) 0 ts) j.same after),
        ap (λ d. (g.D.Draft.shows d)) w.draft-is ∙ (w.in_ok-push_tiles.ensures.same ∙ j.same),
      )
      | else-found-gt0 w ↦ (
        ap (λ l. vec_items l) w.lines-is ∙ (sym (append-nil base) ∙ ap (λ ls. base ++ ls) (sym (no_lines k grid 0 s.tiles (omega (arith, found, w.if-found-gt0.false))))),
        ap (λ d. (g.D.Draft.shows d)) w.draft-is ∙ j.same,
      )
    ] in
    let last : c.verdict_line.result ≡ verdict_line grid.rows grid.cols (found_in k grid s.tiles) =
    c.verdict_line.ensures
    ∙ (ap₂ (λ m n. verdict_line m n c.unwrap-found.result.found) (c.rows.ensures ∙ ap (λ h. h.rows) so.1) (c.cols.ensures ∙ ap (λ h. h.cols) so.1) ∙ ap (verdict_line grid.rows grid.cols) found) in
    c.in_ok-push.ensures.items ∙ (ap₂ (λ xs l. xs ++ l ∷ []) so.0 last ∙ append_assoc base lines (verdict_line grid.rows grid.cols (found_in k grid s.tiles) ∷ []))
