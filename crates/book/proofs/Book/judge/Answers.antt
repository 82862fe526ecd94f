use Rattle.std.proofs.Common.{length}
use Rattle.grids.proofs.Refusing.{unless_ok}
use Rattle.book.specs.Models.{held}
use Rattle.book.specs.Judging.{judge_refusal}
use Rattle.book.proofs.Accepting.{judge_accepted}
use Rattle.book.proofs.Judged.{all_exact}
use Rattle.book.proofs.Book.judge.Goals as goal

pub returns-clause-exact : goal.returns-clause-exact
returns-clause-exact g c =
    let b = c.args.self.now in
    let cs = c.args.store.now in
    let w = length c.args.work.now in
    let none = (unless_ok (judge_refusal (held b cs) w) tt _ c.in_ok-check_judge.ensures).0 in
    all_exact g.C.Cell.kind g.met.C.Cell.lawful (g.D.Draft.shows c.args.draft.now) b cs (judge_accepted (held b cs) w none).0
