use Rattle.std.proofs.Common.{[], ap, ◌∙◌}
use Rattle.std.proofs.lemmas.Result.{IfOk-weaker}
use Rattle.grids.proofs.Exactly.{exactly}
use Rattle.reports.specs.Reports.{says, next, report}
use Rattle.reports.proofs.Files.{report_long}
use Rattle.find_report.specs.Report.{telling}
use Rattle.find_report.specs.Kept.{cut}
use Rattle.find_report.proofs.find_report.Goals as goal

pub returns-then-input-gt-LONGEST : goal.returns-then-input-gt-LONGEST
returns-then-input-gt-LONGEST g c =
    let k = g.C.Cell.kind in
    let r = g.C.Cell.reading in
    let t = telling k g.E.Engine.rule in
    IfOk-weaker c.too_long.result _ _ (λ v h. record { lines = h ∙ report_long (says t r) (next t r) r [] c.args.input.now c.if-input-gt-LONGEST.true; exact = exactly k g.met.C.Cell.lawful }) c.too_long.ensures

pub returns : goal.returns
returns g c =
    let k = g.C.Cell.kind in
    let r = g.C.Cell.reading in
    let t = telling k g.E.Engine.rule in
    IfOk-weaker c.report_records.result _ _ (λ v h. record { lines = h ∙ ap (λ zs. report (says t r) (next t r) r (cut zs c.new-2.result.items) c.args.input.now) c.new.ensures.items; exact = exactly k g.met.C.Cell.lawful }) c.report_records.ensures
