use Rattle.std.proofs.Common.{◌≡◌, length, ap, ◌∙◌, sym, arith}
use Rattle.std.proofs.lemmas.Result.{IfOk-weaker}
use Rattle.grids.proofs.Exactly.{exactly}
use Rattle.reports.specs.Reports.{says, next}
use Rattle.reports.proofs.Files.{report_long}
use Rattle.book.specs.Models.{empty, cut}
use Rattle.book_report.specs.Report.{telling}
use Rattle.book_report.proofs.Stores.{report_alike}
use Rattle.book_report.proofs.book_report.Goals as goal

pub returns-then-input-gt-LONGEST : goal.returns-then-input-gt-LONGEST
returns-then-input-gt-LONGEST g c =
    let k = g.C.Cell.kind in
    let r = g.C.Cell.reading in
    let t = telling k in
    IfOk-weaker c.too_long.result _ _ (λ v h. record { lines = λ store l. h ∙ report_long (says t r) (next t r) r (empty store) c.args.input.now c.if-input-gt-LONGEST.true; exact = exactly k g.met.C.Cell.lawful }) c.too_long.ensures

pub returns : goal.returns
returns g c =
    let k = g.C.Cell.kind in
    let cs = c.in_ok-vec-2.field-0.items in
    let long : length cs ≡ 4096 = omega (arith, c.in_ok-vec-2.ensures.len) in
    IfOk-weaker c.report_records.result _ _
    (λ v h. record {
      lines = λ store l. h ∙ report_alike k g.C.Cell.reading _ (empty store) c.args.input.now (record { tiles = ap (λ ss. cut ss cs) c.new-2.ensures.tiles; long = long ∙ sym l });
      exact = exactly k g.met.C.Cell.lawful;
    })
    c.report_records.ensures
