use Rattle.std.proofs.Common.{◌+◌, ◌*◌}
use Rattle.engine.specs.Views.{viewed}
use Rattle.plain.proofs.Compared.{Agreed}
use Rattle.plain.proofs.Search.agrees.Given as goal

abbrev pub invariant-loop-j : goal.invariant-loop-j
invariant-loop-j g l = Agreed g.C.Cell.kind (viewed l.fn.self.tile.view) l.corner (g.D.Draft.shows l.fn.self.draft.now) (g.D.Draft.shows l.draft) (g.D.Draft.tally l.fn.self.draft.now) (g.D.Draft.tally l.draft) l.looks (l.i * l.cols + l.j) l.agrees

abbrev pub invariant-tile : goal.invariant-tile
invariant-tile g l = Agreed g.C.Cell.kind (viewed l.fn.self.tile.view) l.corner (g.D.Draft.shows l.fn.self.draft.now) (g.D.Draft.shows l.draft) (g.D.Draft.tally l.fn.self.draft.now) (g.D.Draft.tally l.draft) l.looks (l.i * l.cols) l.agrees
