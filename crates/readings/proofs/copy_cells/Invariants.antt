use Rattle.readings.proofs.InTurn.{Copied}
use Rattle.readings.proofs.copy_cells.Given as goal

abbrev pub invariant-loop-i : goal.invariant-loop-i
invariant-loop-i g l =
    let s = l.i-iterator in
    Copied g.C.Cell.reading l.count l.bytes l.initial.cells s.count s.iter.n s.iter.iter.size s.iter.iter.rest.now l.cells
