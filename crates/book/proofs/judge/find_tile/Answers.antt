use Rattle.std.proofs.Common.{length, sym, ap, ◌∙◌, arith}
use Rattle.grids.specs.Grids.{laid}
use Rattle.grids.specs.Refusals.{numbered}
use Rattle.grids.proofs.Refusing.{unless_ok}
use Rattle.engine.specs.Views.{viewed}
use Rattle.engine.specs.Finding.{find_refusal, finding}
use Rattle.book.proofs.Judged.{looks_few}
use Rattle.book.proofs.judge.find_tile.Goals as goal

pub returns-clause-few : goal.returns-clause-few
returns-clause-few g c =
    let rule = g.E.Engine.rule in
    let shown = g.D.Draft.shows c.args.draft.now in
    let t = viewed c.args.tile.now.view in
    let found = unless_ok (find_refusal t (length c.args.work.now)) (finding g.C.Cell.kind rule shown (laid t)) c.unwrap.result (sym (ap numbered c.unwrap.ensures) ∙ c.find.ensures.answer) in
    omega (arith, ap (λ f. f.looks) found.1, looks_few rule shown t (g.met.D.Draft.drawn c.args.draft.now) c.args.tile.now.valid)
