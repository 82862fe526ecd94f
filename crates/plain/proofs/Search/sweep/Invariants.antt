use Rattle.grids.specs.Places.{spots}
use Rattle.plain.specs.Progress.{Done}
use Rattle.plain.proofs.Search.sweep.Given as goal

abbrev pub invariant-loop-row : goal.invariant-loop-row
invariant-loop-row g l = Done g.C.Cell.kind g.D.Draft.shows g.D.Draft.tally (spots l.row l.width) l.initial.self l.self
