use Rattle.std.proofs.Common.{arith}
use Rattle.grids.proofs.Spots.{row_spots_more, length-row_spots}
use Rattle.plain.proofs.Progressed.{done_more}
use Rattle.plain.proofs.Search.row.Goals as goal

pub spot-requires-clause-few : goal.spot-requires-clause-few
spot-requires-clause-few g c =
    let few = (g.met.D.Draft.drawn c.args.self.now.draft.now).few_cols in
    let n = length-row_spots c.loop-col.col c.args.row in
    (omega arith, omega arith)

pub loop-col-preserved : goal.loop-col-preserved
loop-col-preserved g c = done_more (row_spots_more c.loop-col.col c.args.row) c.loop-col.invariant c.spot.ensures
