use Rattle.std.proofs.Common.{◌≤◌, length, vec_items}
use Rattle.find_report.specs.Kept.{cut}
use Rattle.find_report.proofs.Keeping.{Left}
use Rattle.find_report.proofs.Searching.{Searched}
use Rattle.find_report.proofs.SearchRecordReport.draft.Given as goal

abbrev pub invariant-loop-n : goal.invariant-loop-n
invariant-loop-n g l =
    let s = l.fn.self in
    Searched g.C.Cell.kind g.E.Engine.rule (g.D.Draft.shows l.initial.draft) (g.D.Draft.shows l.draft) (cut s.sizes.items s.cells.items) l.n l.list (vec_items l.initial.lines) (vec_items l.lines)
    × Left s.sizes.items s.cells.items l.n l.rest
    × (12288 ≤ length l.work)
