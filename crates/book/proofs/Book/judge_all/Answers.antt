use Rattle.std.proofs.Common.{ap, ◌∙◌}
use Rattle.grids.specs.Grids.{laid}
use Rattle.engine.specs.Finding.{finding}
use Rattle.book.proofs.Judged.{upto_found, upto_missed, upto_all}
use Rattle.book.proofs.Book.judge_all.Goals.{then-places-gt0, else-places-gt0}
use Rattle.book.proofs.Book.judge_all.Goals as goal

pub loop-n-preserved : goal.loop-n-preserved
loop-n-preserved g c =
    let l = c.loop-n in
    let found = c.find_tile-places.ensures in
    let answer = found.answer ∙ ap (λ t. finding g.C.Cell.kind g.E.Engine.rule (g.D.Draft.shows l.draft) (laid t)) c.get-tile.ensures in
    let to = c.if-places-gt0 in (
      found.same ∙ l.invariant.0,
      elim c.if-places-gt0.branch [
        | then-places-gt0 w ↦
            let raised = w.raise.ensures in
            upto_found c.args.store.now c.loop-n-test.true l.invariant.0 l.invariant.1 answer found.few found.counts to.self to.sum w.if-places-gt0.true (ap (λ b. b.entries) w.self-is ∙ raised.entries) (ap (λ b. b.count) w.self-is ∙ raised.count) (ap (λ b. b.trimmed) w.self-is ∙ raised.trimmed) w.sum-is
        | else-places-gt0 w ↦ upto_missed c.args.store.now c.loop-n-test.true l.invariant.0 l.invariant.1 answer found.few found.counts to.self to.sum w.if-places-gt0.false w.self-is w.sum-is
      ],
    )

pub returns : goal.returns
returns g c =
    let l = c.loop-n in
    let judged = upto_all g.C.Cell.kind g.E.Engine.rule (g.D.Draft.shows c.args.draft.now) c.args.self.now c.args.store.now _ l.n l.self l.sum _ c.loop-n-test.false l.invariant.1 in
    record { answer = judged.0; state = judged.1; same = l.invariant.0; counts = l.invariant.1.counts }
