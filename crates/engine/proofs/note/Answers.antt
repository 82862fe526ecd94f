use Rattle.std.proofs.Common.{sym}
use Rattle.std.proofs.lemmas.List.{set_past}
use Rattle.engine.proofs.note.Goals as goal

pub returns-else-n-list : goal.returns-else-n-list
returns-else-n-list c = sym (set_past _ _ _ c.if-n-list.false)
