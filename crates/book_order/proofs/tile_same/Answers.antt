use Rattle.std.proofs.Common.{◌≡◌}
use Rattle.std.proofs.lemmas.Bool.Decides.{Decides-at}
use Rattle.engine.specs.Views.{viewed}
use Rattle.book_order.specs.Orders.{tiles}
use Rattle.book_order.proofs.Orders.{tiles_decide, answers_same}
use Rattle.book_order.proofs.tile_same.Goals as goal

pub returns : goal.returns
returns g c =
    let s = viewed c.args.a.now in
    let t = viewed c.args.b.now in
    let cell = g.met.C.Cell in
    let e : c.eq.result ≡ (tiles g.C.Cell.kind).same s t = answers_same cell.lawful cell.tested g.met.C.Ord.matches_eq s t c.eq.result c.eq.ensures in
    record { answer = e; equal = Decides-at _ _ e (tiles_decide cell.lawful s t) }
