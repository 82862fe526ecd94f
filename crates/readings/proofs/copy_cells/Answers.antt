use Rattle.std.proofs.Common.{◌*◌, ◌<◌, ◌≤◌, length, is_some, sym, ap, ◌∙◌, arith, rules}
use Rattle.std.proofs.lemmas.Bool.{both_ways}
use Rattle.readings.proofs.InTurn.{Step, no_more, cells_long, copied_none, copied_reads, copied_more, copied_all}
use Rattle.readings.proofs.copy_cells.Goals as goal

pub loop-i-init : goal.loop-i-init
loop-i-init g c =
    let e = c.into_iter-i-iterator.ensures.into_iter_gives in
    let n = c.enumerate-i-items.ensures in
    let t = c.take.ensures in
    let h = c.chunks_exact.ensures in
    let source = ap (λ i. i.iter) e ∙ n.source in
    copied_none g.C.Cell.reading _ _ _ _ _ _ _ (ap (λ i. i.count) e ∙ n.count) (ap (λ i. i.n) source ∙ t.count) (ap (λ i. i.iter.rest.now) source ∙ (ap (λ i. i.rest.now) t.source ∙ h.rest))
    (ap (λ i. i.iter.size) source ∙ (ap (λ i. i.size) t.source ∙ (h.size ∙ (c.BYTES.ensures ∙ sym g.met.C.Cell.wide)))) c.requires.read

pub offset_bounds-cells-i : goal.offset_bounds-cells-i
offset_bounds-cells-i g c =
    let s = c.in-Some.ensures.steps in
    let i = c.loop-i.invariant in
    let h : c.in-Some.i < length c.loop-i.cells = omega (arith, s.0.1, s.1, i.count, i.as_long, c.requires.room) in
    search rules

pub loop-i-preserved-in-Some-read : goal.loop-i-preserved-in-Some-read
loop-i-preserved-in-Some-read g c =
    let s = c.in-Some.ensures.steps in
    let step : Step _ _ _ _ _ _ c.in-Some.cell.now = record { fewer = s.0.1; size = s.0.0.0; parts = s.0.0.1.0; long = s.0.0.1.1 } in
    copied_more g.C.Cell.reading _ _ _ _ _ _ _ _ _ _ _ _ _ _ _ c.loop-i.invariant step (sym c.read.ensures ∙ c.in-Some-read.is) s.1 s.2

pub loop-i-preserved : goal.loop-i-preserved
loop-i-preserved g c =
    let s = c.in-Some.ensures.steps in
    let step : Step _ _ _ _ _ _ c.in-Some.cell.now = record { fewer = s.0.1; size = s.0.0.0; parts = s.0.0.1.0; long = s.0.0.1.1 } in
    let y = copied_reads g.C.Cell.reading _ _ _ _ _ _ _ _ _ _ _ _ c.loop-i.invariant step in
    absurd (both_ways _ (sym (ap is_some c.read.ensures) ∙ ap is_some c.in_default.is) y)

pub returns : goal.returns
returns g c =
    let k = g.C.Cell.reading in
    let i = c.loop-i.invariant in
    let m = c.loop-i.i-iterator.iter.n in
    let l : m * c.loop-i.i-iterator.iter.iter.size ≤ length c.loop-i.i-iterator.iter.iter.rest.now = omega (arith, cells_long k g.met.C.Cell.readable m _ i.read, ap (λ w. m * w) i.wide) in
    copied_all k _ _ _ _ _ _ _ _ i (no_more k g.met.C.Cell.readable m _ _ i.wide l (λ h. (c.in-None.ensures.steps.0 h).1.0))
