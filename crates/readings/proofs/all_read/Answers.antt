use Rattle.std.proofs.Common.{◌≡◌, ◌≤◌, ◌/◌, length, is_some, sym, ap, ◌∙◌, subst, arith}
use Rattle.readings.proofs.InTurn.{Step, cells_short, no_more, checked_none, checked_more, checked_stop, checked_all}
use Rattle.readings.proofs.all_read.Goals as goal

pub returns-then-bytes-BYTES : goal.returns-then-bytes-BYTES
returns-then-bytes-BYTES g c = cells_short g.C.Cell.reading g.met.C.Cell.readable c.args.count c.BYTES.result c.args.bytes.now (c.BYTES.ensures ∙ sym g.met.C.Cell.wide) c.if-bytes-BYTES.true

pub loop-cell-init : goal.loop-cell-init
loop-cell-init g c =
    let e = c.into_iter-cell-iterator.ensures.into_iter_gives in
    let t = c.take-cell-items.ensures in
    let h = c.chunks_exact.ensures in
    let k = g.C.Cell.reading in
    let size = ap (λ i. i.iter.size) e ∙ (ap (λ i. i.size) t.source ∙ h.size) in
    let wide : c.BYTES-2.result ≡ k.width = c.BYTES-2.ensures ∙ sym g.met.C.Cell.wide in
    let same : c.BYTES.result ≡ c.BYTES-2.result = c.BYTES.ensures ∙ sym c.BYTES-2.ensures in
    checked_none k _ _ _ _ _ (ap (λ i. i.n) e ∙ t.count) (ap (λ i. i.iter.rest.now) e ∙ (ap (λ i. i.rest.now) t.source ∙ h.rest)) (size ∙ wide)
    (omega (arith, size, wide, g.met.C.Cell.readable.some)) (subst (λ v. c.args.count ≤ length c.args.bytes.now / v) (same ∙ sym size) c.if-bytes-BYTES.false)

pub returns-then-is_none : goal.returns-then-is_none
returns-then-is_none g c =
    let s = c.in-Some.ensures.steps in
    let step : Step _ _ _ _ _ _ c.in-Some.cell.now = record { fewer = s.1; size = s.0.0; parts = s.0.1.0; long = s.0.1.1 } in
    checked_stop g.C.Cell.reading _ _ _ _ _ _ _ _ _ c.loop-cell.invariant step (sym (ap is_some c.read.ensures) ∙ c.if-is_none.ensures)

pub loop-cell-preserved : goal.loop-cell-preserved
loop-cell-preserved g c =
    let s = c.in-Some.ensures.steps in
    let step : Step _ _ _ _ _ _ c.in-Some.cell.now = record { fewer = s.1; size = s.0.0; parts = s.0.1.0; long = s.0.1.1 } in
    checked_more g.C.Cell.reading _ _ _ _ _ _ _ _ _ c.loop-cell.invariant step (sym (ap is_some c.read.ensures) ∙ c.if-is_none.ensures)

pub returns : goal.returns
returns g c =
    let i = c.loop-cell.invariant in
    checked_all g.C.Cell.reading _ _ _ _ _ i (no_more g.C.Cell.reading g.met.C.Cell.readable _ _ _ i.wide i.long (λ h. (c.in-None.ensures.steps h).1.0))
