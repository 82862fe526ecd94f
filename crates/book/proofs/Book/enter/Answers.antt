use Rattle.std.proofs.Common.{sym, subst}
use Rattle.grids.proofs.Refusing.{unless_ok}
use Rattle.engine.specs.Views.{viewed}
use Rattle.book.specs.Models.{held}
use Rattle.book.specs.Entering.{insertion_point, enter_refusal, InsertionPoint}
use Rattle.book.proofs.Insertions.{insertion_point_is}
use Rattle.book.proofs.Book.enter.Goals as goal

pub returns-clause-place : goal.returns-clause-place
returns-clause-place g c =
    let k = g.C.Cell.kind in
    let s = held c.args.self.now c.args.store.now in
    let t = viewed c.args.tile.now in
    let number = (unless_ok (enter_refusal k s t) (insertion_point k t s.tiles) _ c.in_ok-number.ensures).1 in
    subst (InsertionPoint k t s.tiles) (sym number) (insertion_point_is k t s.tiles)
