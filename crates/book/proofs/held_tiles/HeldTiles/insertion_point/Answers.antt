use Rattle.std.proofs.Common.{rules, not, get_or, refl, ◌∙◌, tests}
use Rattle.std.proofs.lemmas.Iterator.{YieldsList-from_range}
use Rattle.std.proofs.lemmas.Iterator.Search.{position_from_yields_List}
use Rattle.engine.specs.Views.{viewed}
use Rattle.book_order.specs.Orders.{tiles}
use Rattle.book.specs.Models.{held, no_tile}
use Rattle.book.proofs.Tables.{tiles_counted}
use Rattle.book.proofs.Insertions.{first_found}
use Rattle.book.proofs.held_tiles.HeldTiles.insertion_point.Goals as goal

pub returns : goal.returns
returns g c =
    let b = c.args.self.now.book.now in
    let cs = c.args.self.now.store.now in
    let t = viewed c.args.tile.now in
    c.unwrap_or.ensures
    ∙ first_found g.C.Cell.kind t (held b cs).tiles b.count (tiles_counted b cs 0) c.position.result
    (position_from_yields_List (λ n. not ((tiles g.C.Cell.kind).before (get_or (held b cs).tiles n no_tile) t)) _ _ c.position.result c.position.ensures.ran (YieldsList-from_range 0 b.count b.count refl (search rules)) (λ x y q k. search (rules, tests)))
