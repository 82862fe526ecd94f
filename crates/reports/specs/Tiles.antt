-- The tile of a file. Assumes nothing.
use Rattle.grids.specs.Grids.{Tile, tile}
use Rattle.cells.specs.Readings.{Reading}
use Rattle.records.specs.declared.Body.{Body}
use Rattle.records.specs.Marks.{tile as tile_mark}
use Rattle.records.specs.Entries.{entry_of}
use Rattle.reports.specs.declared.file_tile.FileTile.{FileTile}
use Rattle.reports.specs.Reports.{entry_tile}

-- the tile that a tile record's bytes read as
abbrev pub body_tile : {C : Type 0} → Reading C → Body → Tile C
body_tile r b = entry_tile r (entry_of tile_mark b)

-- the tile that was read
abbrev pub shown : {C : Type 0} → FileTile C → Tile C
shown t = tile t.rows t.cols t.cells.items
