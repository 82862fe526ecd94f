use Rattle.std.proofs.Common.{length}
use Rattle.grids.specs.Places.{Exact}
use Rattle.grids.proofs.Exactly.{exactly}
use Rattle.engine.specs.Views.{viewed}
use Rattle.engine.specs.Finding.{find_refusal}
use Rattle.engine.proofs.Accepting.{valid_when, made_when}
use Rattle.plain.proofs.find.Goals as goal

pub returns-clause-exact : goal.returns-clause-exact
returns-clause-exact g c =
    let k = g.C.Cell.kind in
    let d = (g.D.Draft.shows c.args.draft.now) in
    let t = viewed c.args.tile.now in
    let w = length c.args.work.now in
    made_when (Exact k d t) c.find.result (find_refusal t w) _ c.find.ensures.answer (λ none. exactly k g.met.C.Cell.lawful d t (valid_when t w none))
