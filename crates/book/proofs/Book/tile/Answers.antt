use Rattle.std.proofs.Common.{rules}
use Rattle.std.proofs.lemmas.List.{length-map}
use Rattle.book.proofs.Cuts.{length_cut}
use Rattle.book.proofs.Book.tile.Goals as goal

pub returns-in_err-entry : goal.returns-in_err-entry
returns-in_err-entry g c = simp (length_cut, length-map) (search rules)

pub returns-in_err-tiles_in : goal.returns-in_err-tiles_in
returns-in_err-tiles_in g c = simp (length_cut, length-map) (search rules)
