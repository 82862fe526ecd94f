use Rattle.std.proofs.Common.{arith}
use Rattle.engine.specs.Views.{viewed}
use Rattle.book.proofs.Entered.{held-entered}
use Rattle.book.proofs.Insertions.{taken_in}
use Rattle.book.proofs.Book.put_in.Goals as goal

pub start-requires : goal.start-requires
start-requires g c = (taken_in g.C.Cell.kind c.args.self.now c.args.store.now (viewed c.args.tile.now) c.args.number c.requires.accepted c.requires.number).0

pub insert-requires-clause-room : goal.insert-requires-clause-room
insert-requires-clause-room g c = omega (arith, taken_in g.C.Cell.kind c.args.self.now c.args.store.now (viewed c.args.tile.now) c.args.number c.requires.accepted c.requires.number, c.cells_held.ensures)

pub insert_entry-requires-clause-few : goal.insert_entry-requires-clause-few
insert_entry-requires-clause-few g c = (taken_in g.C.Cell.kind c.args.self.now c.args.store.now (viewed c.args.tile.now) c.args.number c.requires.accepted c.requires.number).1

pub insert_entry-requires-clause-within : goal.insert_entry-requires-clause-within
insert_entry-requires-clause-within g c = (taken_in g.C.Cell.kind c.args.self.now c.args.store.now (viewed c.args.tile.now) c.args.number c.requires.accepted c.requires.number).0

pub returns : goal.returns
returns g c =
    let b = c.args.self.now in
    let cs = c.args.store.now in
    let t = viewed c.args.tile.now in
    let n = c.args.number in
    let a = taken_in g.C.Cell.kind b cs t n c.requires.accepted c.requires.number in
    let entry = c.insert_entry.ensures in
    held-entered b c.insert_entry.new.self cs c.insert.new.list n _ c.start.result c.cells_held.result t a.2 a.3 c.start.ensures c.cells_held.ensures entry.entries entry.trimmed c.insert.ensures c.requires.number
