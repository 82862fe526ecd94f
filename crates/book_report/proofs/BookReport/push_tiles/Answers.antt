use Rattle.std.proofs.Common.{◌≡◌, ◌<◌, length, get_or, arith, rules}
use Rattle.engine.specs.Views.{viewed}
use Rattle.book.specs.Models.{sizes, held, no_tile}
use Rattle.book.proofs.Cuts.{length_cut}
use Rattle.book_report.proofs.Pushing.{pushed_more, pushed_all}
use Rattle.book_report.proofs.BookReport.push_tiles.Goals as goal

pub unwrap-tile-requires : goal.unwrap-tile-requires
unwrap-tile-requires g c =
    let b = c.args.self.now in
    let within : c.loop-n.n < length (held b.book b.store.items).tiles = omega (arith, length_cut (sizes b.book) b.store.items, c.loop-n-test.true, c.count-n-end.ensures) in
    let same = c.loop-n.invariant.state in
    search rules

pub loop-n-preserved : goal.loop-n-preserved
loop-n-preserved g c =
    let b = c.args.self.now in
    let s = held b.book b.store.items in
    let within : c.loop-n.n < length s.tiles = omega (arith, length_cut (sizes b.book) b.store.items, c.loop-n-test.true, c.count-n-end.ensures) in
    let t = viewed c.unwrap-tile.result.view in
    let is : t ≡ get_or s.tiles c.loop-n.n no_tile = search rules in
    pushed_more c.loop-n.invariant g.E.Engine.rule t _ c.min.result c.find.result c.unwrap-found.result c.loop-n.list c.find.new.list within is c.unwrap-found.ensures c.find.ensures.answer c.find.ensures.listing (omega arith) (omega (arith, c.min.ensures)) c.find.ensures.same c.in_ok-push_places.ensures

pub returns-clause-lines : goal.returns-clause-lines
returns-clause-lines g c =
    let b = c.args.self.now in
    pushed_all c.loop-n.invariant (omega (arith, length_cut (sizes b.book) b.store.items, c.loop-n-test.false, c.count-n-end.ensures))
