use Rattle.std.proofs.Common.{rules}
use Rattle.plain.proofs.Compared.{agreed_more, over_all, over_here}
use Rattle.plain.proofs.Search.agrees.Goals.{else-tile-test, then-tile-test+then-loop-j-test+then-not-agree_at}
use Rattle.plain.proofs.Search.agrees.Goals as goal

pub loop-j-preserved : goal.loop-j-preserved
loop-j-preserved g c = agreed_more c.args.self.now.tile.valid _ _ c.tile-test.true c.loop-j-test.true c.index-cells-i.is c.agree_at.ensures.answer c.agree_at.ensures.same c.agree_at.ensures.counts c.loop-j.invariant c.if-not-agree_at.false

pub returns : goal.returns
returns g c =
    elim c.tile-test.branch [
      | else-tile-test all ↦
          let o = over_all c.args.self.now.tile.valid all.tile-test.false c.tile.invariant in
          rw (all.self-is, all.looks-is, all.agrees-is) (record { agrees = o.agrees; looked = search rules; few = search rules })
      | then-tile-test+then-loop-j-test+then-not-agree_at here ↦
          let o = over_here c.args.self.now.tile.valid _ _ here.tile-test.true here.loop-j-test.true here.index-cells-i.is here.agree_at.ensures.answer here.agree_at.ensures.same here.agree_at.ensures.counts here.loop-j.invariant here.if-not-agree_at.true in
          rw (here.self-is, here.looks-is, here.agrees-is) (record { agrees = o.agrees; looked = search rules; few = search rules })
    ]
