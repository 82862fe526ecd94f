use Rattle.std.proofs.Common.{◌≡◌, ◌*◌, ◌≤◌, true, length, is_some, sym, ap, ◌∙◌, arith}
use Rattle.readings.proofs.InTurn.{Step, no_more, cells_long, added_none, added_reads, added_more, added_all}
use Rattle.reports.proofs.Cells.{unwrapped}
use Rattle.reports.proofs.file_tile.TileRecord.read_to.Goals as goal

pub loop-bytes-init : goal.loop-bytes-init
loop-bytes-init g c =
    let e = c.into_iter-bytes-iterator.ensures.into_iter_gives in
    let t = c.take-bytes-items.ensures in
    let h = c.chunks_exact.ensures in
    let n = ap (λ i. i.n) e ∙ t.count in (
      added_none g.C.Cell.reading _ _ _ _ _ _ _ n (ap (λ i. i.iter.rest.now) e ∙ (ap (λ i. i.rest.now) t.source ∙ h.rest))
          (ap (λ i. i.iter.size) e ∙ (ap (λ i. i.size) t.source ∙ (h.size ∙ (c.BYTES.ensures ∙ sym g.met.C.Cell.wide)))) c.args.self.now.sound.read c.reserve.ensures.items,
      omega (arith, n, c.in_ok-reserve.ensures.ok),
    )

pub push_reserved-requires : goal.push_reserved-requires
push_reserved-requires g c = omega (arith, c.in-Some.ensures.steps.1, c.loop-bytes.invariant.1)

pub loop-bytes-preserved : goal.loop-bytes-preserved
loop-bytes-preserved g c =
    let s = c.in-Some.ensures.steps in
    let step : Step _ _ _ _ _ _ c.in-Some.bytes.now = record { fewer = s.1; size = s.0.0; parts = s.0.1.0; long = s.0.1.1 } in
    let p = c.push_reserved.ensures in
    let y : is_some c.read.result ≡ true = ap is_some c.read.ensures ∙ added_reads g.C.Cell.reading _ _ _ _ _ _ _ _ _ _ _ c.loop-bytes.invariant.0 step in
    (added_more g.C.Cell.reading _ _ _ _ _ _ _ _ _ _ _ _ _ c.loop-bytes.invariant.0 step (sym c.read.ensures ∙ unwrapped _ c.read.result c.unwrap_or_default.result c.unwrap_or_default.ensures y) p.items, omega (arith, s.1, p.len, p.capacity, c.loop-bytes.invariant.1))

pub returns : goal.returns
returns g c =
    let k = g.C.Cell.reading in
    let i = c.loop-bytes.invariant.0 in
    let s = c.loop-bytes.bytes-iterator in
    let l : s.n * s.iter.size ≤ length s.iter.rest.now = omega (arith, cells_long k g.met.C.Cell.readable s.n _ i.read, ap (λ w. s.n * w) i.wide) in
    added_all k _ _ _ _ _ _ _ i (no_more k g.met.C.Cell.readable s.n _ _ i.wide l (λ h. (c.in-None.ensures.steps h).1.0))
