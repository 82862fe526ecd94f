use Rattle.std.proofs.Common.{◌≡◌}
use Rattle.std.proofs.lemmas.Bool.Decides.{Decides-at}
use Rattle.engine.specs.Views.{viewed}
use Rattle.book_order.specs.Orders.{tiles}
use Rattle.book_order.proofs.Orders.{tiles_lawful, answers_before}
use Rattle.book_order.proofs.Words.{before_words}
use Rattle.book_order.proofs.tile_before.Goals as goal

pub returns : goal.returns
returns g c =
    let s = viewed c.args.a.now in
    let t = viewed c.args.b.now in
    let cell = g.met.C.Cell in
    let order = g.met.C.Ord in
    let e : c.lt.result ≡ (tiles g.C.Cell.kind).before s t = answers_before cell.lawful cell.tested order.matches_eq order.matches_partial_cmp s t c.lt.result c.lt.ensures in
    record { answer = e; words = λ v w. Decides-at _ _ e (before_words cell.lawful s t v w); order = tiles_lawful cell.lawful cell.tested order.matches_eq order.total }
