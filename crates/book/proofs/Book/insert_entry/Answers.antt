use Rattle.book.proofs.Tables.{put_held, put_sized}
use Rattle.book.proofs.Book.insert_entry.Goals as goal

pub invariant_of-self-clause-sized : goal.invariant_of-self-clause-sized
invariant_of-self-clause-sized c = put_sized c.args.self.now c.args.number c.args.entry c.insert.new.list c.requires.few c.requires.within c.insert.ensures c.requires.sized

pub returns-clause-entries : goal.returns-clause-entries
returns-clause-entries c = put_held c.args.self.now c.args.number c.args.entry c.insert.new.list c.requires.few c.requires.within c.insert.ensures
