use Rattle.std.proofs.Common.{refl, arith}
use Rattle.grids.proofs.Refusing.{unless_none, unless_some}
use Rattle.book.specs.Models.{held, sizes}
use Rattle.book.specs.Progress.{store_refusal}
use Rattle.book.proofs.Cuts.{cells_cut}
use Rattle.book.proofs.Accepting.{has_room, no_room}
use Rattle.book.proofs.Book.tiles_in.Goals as goal
use Rattle.book.proofs.Book.tiles_in.Goals.{in_default-via-in-Some+else-more-room, in_default-via-in_default}

pub invariant_of-result : goal.invariant_of-result
invariant_of-result g c = record { stored = omega (arith, cells_cut (sizes c.args.self.now) c.args.store.now, c.in-Some.ensures) }

pub returns-in-Some : goal.returns-in-Some
returns-in-Some g c =
    let s = held c.args.self.now c.args.store.now in
    unless_none (store_refusal s c.args.more) s s (has_room s c.args.more (omega (arith, cells_cut (sizes c.args.self.now) c.args.store.now, c.in-Some.ensures))) refl

pub returns-in_default : goal.returns-in_default
returns-in_default g c =
    let s = held c.args.self.now c.args.store.now in
    let e = cells_cut (sizes c.args.self.now) c.args.store.now in
    unless_some (store_refusal s c.args.more) 7 s
    (no_room s c.args.more (elim c.in_default.branch [ in_default-via-in-Some+else-more-room w ↦ omega (arith, e, w.in-Some.ensures) | in_default-via-in_default w ↦ omega (arith, e, w.in_default.ensures) ]))
