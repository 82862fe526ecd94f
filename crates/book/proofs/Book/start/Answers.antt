use Rattle.std.proofs.Common.{rules, ◌≡◌, ◌<◌, ◌^◌, take, sum_by, ◌∙◌}
use Rattle.std.proofs.iter.runs.Made.{chains}
use Rattle.book.specs.Table.{size_of, area}
use Rattle.book.proofs.Tables.{table_few, table_start}
use Rattle.book.proofs.Book.start.Goals as goal

pub sum-requires-clause-fits : goal.sum-requires-clause-fits
sum-requires-clause-fits c =
    let h : sum_by (λ e. area (size_of e)) (take c.args.number c.args.self.now.entries) < 2 ^ 64 = table_few c.args.self.now c.args.number c.requires in
    search (rules, chains)

pub returns : goal.returns
returns c =
    let h : c.sum.result ≡ sum_by (λ e. area (size_of e)) (take c.args.number c.args.self.now.entries) = search (rules, chains) in
    h ∙ table_start c.args.self.now c.args.number c.requires
