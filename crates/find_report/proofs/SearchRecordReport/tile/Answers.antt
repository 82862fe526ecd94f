use Rattle.std.proofs.Common.{◌≡◌, [], ◌∷◌, ◌++◌, sym, ap, ◌∙◌, ap₂, subst}
use Rattle.reports.specs.Tiles.{body_tile}
use Rattle.reports.proofs.Cells.{body_tile_valid}
use Rattle.find_report.specs.declared.Size.{Size}
use Rattle.find_report.specs.Kept.{cut, Kept}
use Rattle.find_report.proofs.Keeping.{kept_push, cut_push}
use Rattle.find_report.proofs.SearchRecordReport.tile.Goals as goal

pub invariant_of-self-2-clause-kept : goal.invariant_of-self-2-clause-kept
invariant_of-self-2-clause-kept g c =
    let r = g.C.Cell.reading in
    let s = c.args.self.now in
    let b = c.args.tile.now.body in
    let y : Size = record { rows = b.rows; cols = b.cols } in
    let xs = (body_tile r b).cells in
    let zs : c.push_reserved.new.self.items ≡ s.sizes.items ++ y ∷ [] = c.push_reserved.ensures.items ∙ ap (λ l. l ++ y ∷ []) c.reserve.ensures.items in
    let k = kept_push y xs (body_tile_valid r b c.args.tile.now.sound) s.sizes.items s.cells.items s.kept in
    subst (λ l. Kept l c.read_to.new.cells.items) (sym zs) (subst (Kept (s.sizes.items ++ y ∷ [])) (sym c.in_ok-read_to.ensures) k)

pub returns-clause-state : goal.returns-clause-state
returns-clause-state g c =
    let r = g.C.Cell.reading in
    let s = c.args.self.now in
    let b = c.args.tile.now.body in
    let y : Size = record { rows = b.rows; cols = b.cols } in
    let xs = (body_tile r b).cells in
    let zs : c.push_reserved.new.self.items ≡ s.sizes.items ++ y ∷ [] = c.push_reserved.ensures.items ∙ ap (λ l. l ++ y ∷ []) c.reserve.ensures.items in
    ap₂ cut zs c.in_ok-read_to.ensures ∙ cut_push y xs (body_tile_valid r b c.args.tile.now.sound) s.sizes.items s.cells.items s.kept
