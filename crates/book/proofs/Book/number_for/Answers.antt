use Rattle.std.proofs.Common.{rules, arith}
use Rattle.engine.specs.Views.{viewed}
use Rattle.book.specs.Models.{held}
use Rattle.book.proofs.Tables.{tiles_counted}
use Rattle.book.proofs.Accepting.{full, short, already, taken}
use Rattle.book.proofs.Book.number_for.Goals as goal

pub returns-then-self-eq32 : goal.returns-then-self-eq32
returns-then-self-eq32 g c =
    let b = c.args.self.now in
    let cs = c.args.store.now in
    full g.C.Cell.kind (held b cs) (viewed c.args.tile.now) _ c.in_ok-check.ensures (omega (arith, tiles_counted b cs 0))

pub returns-in_err-tiles : goal.returns-in_err-tiles
returns-in_err-tiles g c =
    let b = c.args.self.now in
    let cs = c.args.store.now in
    rw (short g.C.Cell.kind (held b cs) (viewed c.args.tile.now) _ c.in_ok-check.ensures (omega (arith, tiles_counted b cs 0, b.few)) _ c.in_err-tiles.ensures) (search rules)

pub returns-then-holds : goal.returns-then-holds
returns-then-holds g c =
    let b = c.args.self.now in
    let cs = c.args.store.now in
    already g.C.Cell.kind (held b cs) (viewed c.args.tile.now) _ c.in_ok-check.ensures (omega (arith, tiles_counted b cs 0, b.few)) _ c.in_ok-tiles.ensures c.if-holds.ensures

pub returns : goal.returns
returns g c =
    let b = c.args.self.now in
    let cs = c.args.store.now in
    taken g.C.Cell.kind (held b cs) (viewed c.args.tile.now) _ c.in_ok-check.ensures (omega (arith, tiles_counted b cs 0, b.few)) _ c.in_ok-tiles.ensures _ c.if-holds.ensures c.insertion_point.ensures
