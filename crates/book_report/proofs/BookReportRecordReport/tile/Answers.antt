use Rattle.std.proofs.Common.{◌≡◌, [], ◌∷◌, ◌++◌, vec_items, ap, ap₂, ◌∙◌, arith}
use Rattle.std.proofs.lemmas.List.{take_at}
use Rattle.grids.specs.Grids.{tile}
use Rattle.engine.specs.Views.{viewed}
use Rattle.reports.specs.Tiles.{body_tile}
use Rattle.book.specs.Models.{held}
use Rattle.book.specs.Entering.{enter_answer, enter_state}
use Rattle.book_report.specs.Report.{enter_line}
use Rattle.book_report.proofs.BookReportRecordReport.tile.Goals as goal

pub returns-clause-lines : goal.returns-clause-lines
returns-clause-lines g c =
    let k = g.C.Cell.kind in
    let b = c.args.self.now.book in
    let v = c.view-view.result in
    let seen : viewed v ≡ body_tile g.C.Cell.reading c.args.tile.now.body = c.view-view.ensures ∙ ap (tile (body_tile g.C.Cell.reading c.args.tile.now.body).rows (body_tile g.C.Cell.reading c.args.tile.now.body).cols) (c.as_slice.ensures.value ∙ (c.in_ok-read_to.ensures ∙ ap (λ xs. xs ++ (body_tile g.C.Cell.reading c.args.tile.now.body).cells) c.clear.ensures.items)) in
    let same = ap₂ (λ xs t. enter_line t.rows t.cols (enter_answer k (held b xs) t)) c.as_mut_slice.ensures.value seen in
    c.in_ok-push.ensures.items ∙ ap (λ l. vec_items c.args.lines.now ++ l ∷ []) (c.enter_line.ensures ∙ (ap (enter_line v.rows v.cols) c.enter-answer.ensures.enters.answered ∙ same))

pub returns-clause-state : goal.returns-clause-state
returns-clause-state g c =
    let t = body_tile g.C.Cell.reading c.args.tile.now.body in
    let seen : viewed c.view-view.result ≡ t = c.view-view.ensures ∙ ap (tile t.rows t.cols) (c.as_slice.ensures.value ∙ (c.in_ok-read_to.ensures ∙ ap (λ xs. xs ++ t.cells) c.clear.ensures.items)) in
    let same = ap₂ (λ xs t. enter_state g.C.Cell.kind (held c.args.self.now.book xs) t) c.as_mut_slice.ensures.value seen in
    ap (held c.enter-answer.new.self) (take_at c.enter-answer.new.store _ c.args.self.now.store.len (omega arith)) ∙ (c.enter-answer.ensures.enters.state ∙ same)
