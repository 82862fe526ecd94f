use Rattle.std.proofs.Common.{◌++◌, sym, ap, ◌∙◌, subst}
use Rattle.grids.specs.Grids.{Valid, tile}
use Rattle.reports.specs.Tiles.{body_tile}
use Rattle.reports.proofs.Cells.{body_tile_valid}
use Rattle.reports.proofs.file_tile.FileTile.read.Goals as goal

pub invariant_of-result : goal.invariant_of-result
invariant_of-result g c =
    let r = g.C.Cell.reading in
    let b = c.args.tile.now.body in
    let items = c.in_ok-read_to.ensures ∙ ap (λ xs. xs ++ (body_tile r b).cells) c.new-cells.ensures.items in
    record { valid = subst (λ xs. Valid (tile b.rows b.cols xs)) (sym items) (body_tile_valid r b c.args.tile.now.sound) }
