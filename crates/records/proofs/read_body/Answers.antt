use Rattle.std.proofs.Common.{◌-◌, length, take, drop, sym, ap, ◌∙◌, rules}
use Rattle.std.proofs.lemmas.List.{take_rest}
use Rattle.grids.proofs.Refusing.{unless_none, unless_some}
use Rattle.grids.specs.Numbers.{number}
use Rattle.records.proofs.Bodies.{Header, body_passes, body_unread, entry_is, rest_is}
use Rattle.records.specs.Fronts.{entry_in}
use Rattle.records.proofs.read_body.Goals as goal

pub returns-then-not-all_read : goal.returns-then-not-all_read
returns-then-not-all_read g c =
    let k = g.C.Cell.reading in
    let bs = c.args.input.now in
    let h : Header k c.args.most bs (take (length bs - 4) (drop 4 bs)) c.from_le_bytes-rows.result c.from_le_bytes-cols.result c.BYTES.result = record {
      long = search rules;
      body_is = take_rest bs 4;
      rows_is = c.from_le_bytes-rows.ensures;
      cols_is = c.from_le_bytes-cols.ensures;
      width_is = (c.BYTES.ensures ∙ sym g.met.C.Cell.wide);
      sized = sym c.if-not-sized.ensures;
      whole = c.if-body-size.false;
    } in
    λ m. unless_some _ _ _ (body_unread k c.args.most (number c.args.bad_size) bs _ _ _ _ h (sym c.if-not-all_read.ensures))

pub returns : goal.returns
returns g c =
    let k = g.C.Cell.reading in
    let bs = c.args.input.now in
    let body = take (length bs - 4) (drop 4 bs) in
    let rows = c.from_le_bytes-rows.result in
    let cols = c.from_le_bytes-cols.result in
    let h : Header k c.args.most bs body rows cols c.BYTES.result = record {
      long = search rules;
      body_is = take_rest bs 4;
      rows_is = c.from_le_bytes-rows.ensures;
      cols_is = c.from_le_bytes-cols.ensures;
      width_is = (c.BYTES.ensures ∙ sym g.met.C.Cell.wide);
      sized = sym c.if-not-sized.ensures;
      whole = c.if-body-size.false;
    } in
    λ m. unless_none _ _ _ (body_passes k c.args.most (number c.args.bad_size) bs body rows cols c.BYTES.result h (sym c.if-not-all_read.ensures))
    (ap (λ e. (e, c.split_at.result.1.now)) (entry_is k c.args.most 0 bs body rows cols c.BYTES.result h m c.split_at.result.0.now c.split_at.ensures.front)
    ∙ ap (λ ys. (entry_in k m bs, ys)) (rest_is k c.args.most 0 bs body rows cols c.BYTES.result h c.split_at.result.1.now c.split_at.ensures.back))
