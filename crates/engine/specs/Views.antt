-- A lent tile. Assumes nothing.
use Rattle.grids.specs.Grids.{Tile, tile}
use Rattle.engine.specs.declared.TileView.{TileView}

-- the tile that a view shows
abbrev pub viewed : {C : Type 0} → TileView C → Tile C
viewed v = tile v.rows v.cols v.cells.now
