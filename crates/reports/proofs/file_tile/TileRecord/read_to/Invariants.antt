use Rattle.std.proofs.Common.{◌+◌, ◌*◌, ◌≤◌}
use Rattle.std.specs.Vec.{vec_len, vec_capacity}
use Rattle.readings.proofs.InTurn.{Added}
use Rattle.reports.proofs.file_tile.TileRecord.read_to.Given as goal

abbrev pub invariant-loop-bytes : goal.invariant-loop-bytes
invariant-loop-bytes g l =
    let b = l.fn.self.body in
    let s = l.bytes-iterator in
    Added g.C.Cell.reading (b.rows * b.cols) b.cells.now l.fn.cells.items s.n s.iter.size s.iter.rest.now l.cells.items × (vec_len l.cells + s.n ≤ vec_capacity l.cells)
