use Rattle.std.proofs.Common.{length, refl, rules}
use Rattle.engine.specs.Views.{viewed}
use Rattle.plain.proofs.Answered.{done_all}
use Rattle.plain.proofs.PlainEngine.find.Goals as goal

pub returns : goal.returns
returns g c =
    let a = done_all g.C.Cell.kind g.D.Draft.shows g.D.Draft.tally _ _ (viewed c.args.tile.now) (length c.args.work.now) c.in_ok-tile.ensures c.in_ok-check_work.ensures (refl, refl) c.sweep.ensures in
    record { answer = a.answer; listing = search rules; same = search rules; counts = search rules; untouched = tt }
