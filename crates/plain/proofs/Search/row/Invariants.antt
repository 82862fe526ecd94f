use Rattle.grids.specs.Places.{row_spots}
use Rattle.plain.specs.Progress.{Done}
use Rattle.plain.proofs.Search.row.Given as goal

abbrev pub invariant-loop-col : goal.invariant-loop-col
invariant-loop-col g l = Done g.C.Cell.kind g.D.Draft.shows g.D.Draft.tally (row_spots l.col l.row) l.initial.self l.self
