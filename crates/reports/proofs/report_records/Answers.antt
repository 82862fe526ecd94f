use Rattle.std.proofs.Common.{[], ◌∷◌, ◌++◌, vec_items, ap, ◌∙◌}
use Rattle.lines.specs.declared.Line.TheVariants.{Fault}
use Rattle.reports.proofs.Files.{answer_is, record_took, shrinks, reached_end, reached_fault, reached_more}
use Rattle.reports.proofs.report_records.Goals as goal

pub report_record-requires : goal.report_record-requires
report_record-requires g c = (record_took g.C.Cell.reading c.loop-record.reader.at c.loop-record.reader.bytes (answer_is c.in-Ok-Some.field-0-is c.in-Ok-Some.ensures.answer)).2.sound

pub loop-record-smaller : goal.loop-record-smaller
loop-record-smaller g c = shrinks g.C.Cell.reading c.loop-record.reader.at c.loop-record.reader.bytes (answer_is c.in-Ok-Some.field-0-is c.in-Ok-Some.ensures.answer) c.next.ensures.rest

pub loop-record-preserved : goal.loop-record-preserved
loop-record-preserved g c =
    let told = c.in_ok-report_record-in-Ok-Some.ensures in
    reached_more c.loop-record.invariant (answer_is c.in-Ok-Some.field-0-is c.in-Ok-Some.ensures.answer) told.state c.next.ensures.at c.next.ensures.rest told.lines

pub returns-in-Ok-None : goal.returns-in-Ok-None
returns-in-Ok-None g c = reached_end c.loop-record.invariant (answer_is c.in-Ok-None.field-0-is c.in-Ok-None.ensures.answer)

pub returns-in-Err : goal.returns-in-Err
returns-in-Err g c =
    reached_fault c.loop-record.invariant c.in-Err.ensures.answer (c.in_ok-push-in-Err.ensures.items ∙ ap (λ n. vec_items c.loop-record.lines ++ (Fault n c.in-Err.fault.at ∷ [])) c.number.ensures)
