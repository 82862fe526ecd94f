use Rattle.std.proofs.Common.{length, vec_items}
use Rattle.reports.specs.Reports.{says, next}
use Rattle.reports.proofs.Files.{Reached}
use Rattle.reports.proofs.report_records.Given as goal

abbrev pub invariant-loop-record : goal.invariant-loop-record
invariant-loop-record g l =
    Reached (says g.R.RecordReport.telling g.C.Cell.reading) (next g.R.RecordReport.telling g.C.Cell.reading) g.C.Cell.reading (g.R.RecordReport.state l.initial.reporter) l.input (g.R.RecordReport.state l.reporter) l.reader.at l.reader.bytes (vec_items l.lines)

abbrev pub decreases-loop-record : goal.decreases-loop-record
decreases-loop-record g l = length l.reader.bytes
