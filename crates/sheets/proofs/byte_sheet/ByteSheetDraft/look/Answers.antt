use Rattle.std.proofs.Common.{◌≡◌, ◌+◌, ◌-◌, ◌*◌, take, drop, sym, ap, ◌∙◌, arith}
use Rattle.sheets.proofs.CellParts.{seen_at}
use Rattle.sheets.proofs.byte_sheet.ByteSheetDraft.look.Goals as goal

pub returns-then-col-self-clause-cell : goal.returns-then-col-self-clause-cell
returns-then-col-self-clause-cell g c =
    let s = c.args.self.now in
    let k = g.C.Cell.reading in
    let n = c.args.row * s.cols + c.args.col in
    let b = c.BYTES.result in
    let e : c.BYTES.result ≡ k.width = c.BYTES.ensures ∙ sym g.met.C.Cell.wide in
    let f : c.BYTES-then-col-self.result ≡ b = c.BYTES-then-col-self.ensures ∙ sym c.BYTES.ensures in
    let m : n * b + c.BYTES-then-col-self.result - n * b ≡ b = omega (arith, f) in
    seen_at k s.rows s.cols s.bytes.now c.args.row c.args.col b _ s.read c.if-row-self.true c.if-col-self.true e (c.read.ensures ∙ ap (λ i. k.reads (take i (drop (n * b) s.bytes.now))) m)
