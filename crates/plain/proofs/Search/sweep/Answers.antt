use Rattle.std.proofs.Common.{arith}
use Rattle.std.proofs.lemmas.Nat.{mul-le}
use Rattle.grids.proofs.Spots.{spots_more, length-spots}
use Rattle.plain.proofs.Progressed.{done_more}
use Rattle.plain.proofs.Search.sweep.Goals as goal

pub row-requires-clause-few : goal.row-requires-clause-few
row-requires-clause-few g c =
    let drawn = g.met.D.Draft.drawn c.args.self.now.draft.now in
    let few = mul-le c.loop-row.row c.saturating_sub-width.result 2048 2048 (omega (arith, drawn.few_rows)) (omega (arith, drawn.few_cols)) in
    let n = length-spots c.loop-row.row c.saturating_sub-width.result in
    (omega arith, omega arith)

pub loop-row-preserved : goal.loop-row-preserved
loop-row-preserved g c = done_more (spots_more c.loop-row.row c.saturating_sub-width.result) c.loop-row.invariant c.row.ensures
