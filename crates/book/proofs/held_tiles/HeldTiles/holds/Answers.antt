use Rattle.std.proofs.Common.{rules, get_or, refl, tests}
use Rattle.std.proofs.lemmas.Iterator.{YieldsList-from_range}
use Rattle.std.proofs.lemmas.Iterator.Search.{any_from_yields_List}
use Rattle.engine.specs.Views.{viewed}
use Rattle.book_order.specs.Orders.{tiles}
use Rattle.book.specs.Models.{held, no_tile}
use Rattle.book.proofs.Tables.{tiles_counted}
use Rattle.book.proofs.Insertions.{any_held}
use Rattle.book.proofs.held_tiles.HeldTiles.holds.Goals as goal

pub returns : goal.returns
returns g c =
    let b = c.args.self.now.book.now in
    let cs = c.args.self.now.store.now in
    let t = viewed c.args.tile.now in
    any_held g.C.Cell.kind t (held b cs).tiles b.count (tiles_counted b cs 0) c.any.result
    (any_from_yields_List (λ n. (tiles g.C.Cell.kind).same (get_or (held b cs).tiles n no_tile) t) _ _ c.any.result c.any.ensures.ran (YieldsList-from_range 0 b.count b.count refl (search rules)) (λ x y q k. search (rules, tests)))
