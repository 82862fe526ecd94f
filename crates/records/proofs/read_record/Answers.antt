use Rattle.std.proofs.Common.{refl, ◌∙◌, rules}
use Rattle.std.proofs.lemmas.List.{take_rest}
use Rattle.std.proofs.lemmas.Result.{err_from_is_err_and}
use Rattle.records.specs.Marks.{draft, tile}
use Rattle.records.proofs.Marked.{marked, mark_draft, mark_tile}
use Rattle.records.proofs.read_record.Goals as goal

pub returns-in_err-body-in-68-eq82 : goal.returns-in_err-body-in-68-eq82
returns-in_err-body-in-68-eq82 g c =
    let p = err_from_is_err_and c.from_residual.result c.from_residual.ensures.1 in
    rw (p.1, p.2) (c.in_err-body-in-68-eq82.ensures draft ∙ marked g.C.Cell.reading c.args.input.now _ draft (search rules) (take_rest c.args.input.now 2) (mark_draft _ _ c.in-68-eq82.is-0 c.in-68-eq82.is-1) refl)

pub returns-in_err-body-in-84-eq76 : goal.returns-in_err-body-in-84-eq76
returns-in_err-body-in-84-eq76 g c =
    let p = err_from_is_err_and c.from_residual-in_err-body-in-84-eq76.result c.from_residual-in_err-body-in-84-eq76.ensures.1 in
    rw (p.1, p.2) (c.in_err-body-in-84-eq76.ensures tile ∙ marked g.C.Cell.reading c.args.input.now _ tile (search rules) (take_rest c.args.input.now 2) (mark_tile _ _ c.in-84-eq76.is-0 c.in-84-eq76.is-1) refl)

pub returns-in_ok-body-in-68-eq82 : goal.returns-in_ok-body-in-68-eq82
returns-in_ok-body-in-68-eq82 g c = c.in_ok-body-in-68-eq82.ensures draft ∙ marked g.C.Cell.reading c.args.input.now _ draft (search rules) (take_rest c.args.input.now 2) (mark_draft _ _ c.in-68-eq82.is-0 c.in-68-eq82.is-1) refl

pub returns-in_ok-body-in-84-eq76 : goal.returns-in_ok-body-in-84-eq76
returns-in_ok-body-in-84-eq76 g c = c.in_ok-body-in-84-eq76.ensures tile ∙ marked g.C.Cell.reading c.args.input.now _ tile (search rules) (take_rest c.args.input.now 2) (mark_tile _ _ c.in-84-eq76.is-0 c.in-84-eq76.is-1) refl
