use Rattle.std.proofs.Common.{◌≡◌}
use Rattle.book.specs.Models.{held}
use Rattle.book.proofs.Judged.{Upto}
use Rattle.book.proofs.Book.judge_all.Given as goal

abbrev pub invariant-loop-n : goal.invariant-loop-n
invariant-loop-n g l =
    ((g.D.Draft.shows l.draft) ≡ (g.D.Draft.shows l.initial.draft))
    × Upto g.C.Cell.kind g.E.Engine.rule (g.D.Draft.shows l.initial.draft) (held l.initial.self l.store).tiles l.n l.initial.self l.self l.sum (g.D.Draft.tally l.initial.draft) (g.D.Draft.tally l.draft)
