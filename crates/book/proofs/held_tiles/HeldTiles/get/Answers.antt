use Rattle.std.proofs.Common.{◌+◌, ◌-◌, take, drop, arith}
use Rattle.book.proofs.Tables.{part_within, part_tile, part_fits, part_is}
use Rattle.book.proofs.held_tiles.HeldTiles.get.Goals as goal

pub overflow_add-view : goal.overflow_add-view
overflow_add-view g c = omega (arith, part_fits c.args.self.now.book.now c.args.number c.requires, c.start-start.ensures, c.cells.ensures)

pub offset_bounds-self-start : goal.offset_bounds-self-start
offset_bounds-self-start g c = omega (arith, part_within c.args.self.now.book.now c.args.self.now.store.now c.args.number c.requires c.args.self.now.stored, c.start-start.ensures, c.cells.ensures)

pub slice_bounds-view-end : goal.slice_bounds-view-end
slice_bounds-view-end g c = omega (arith, part_within c.args.self.now.book.now c.args.self.now.store.now c.args.number c.requires c.args.self.now.stored, c.start-start.ensures, c.cells.ensures)

pub returns : goal.returns
returns g c =
    let b = c.args.self.now.book.now in
    let cs = c.args.self.now.store.now in
    let n = c.args.number in
    let from = c.start-start.result in
    part_tile b cs n c.requires c.args.self.now.stored (take ((from + c.cells.result) - from) (drop from cs)) (part_is b cs n from c.cells.result c.start-start.ensures c.cells.ensures)
