use Rattle.readings.proofs.InTurn.{Checked}
use Rattle.readings.proofs.all_read.Given as goal

abbrev pub invariant-loop-cell : goal.invariant-loop-cell
invariant-loop-cell g l = Checked g.C.Cell.reading l.count l.bytes l.cell-iterator.n l.cell-iterator.iter.size l.cell-iterator.iter.rest.now
