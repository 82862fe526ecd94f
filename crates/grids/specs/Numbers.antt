-- The numbers of the refusals. Assumes nothing.
use Rattle.std.specs.Prelude.{ℕ}
use Rattle.grids.specs.declared.Refusal.{Refusal}
use Rattle.grids.specs.declared.Refusal.TheVariants.{TileSize, TileLength, TileHeld, BookFull, NoSuchTile, NotTrimmed, ShortStore, ShortWork, DraftSize, DraftLength, LoomRange, WindowEdge, UnknownMark, CutShort, NoCell}

-- the number by which users know a refusal; a draft that cannot be made has one number for its four reasons
abbrev pub number : Refusal → ℕ
number TileSize = 1
number TileLength = 2
number TileHeld = 3
number BookFull = 4
number NoSuchTile = 5
number NotTrimmed = 6
number ShortStore = 7
number ShortWork = 8
number DraftSize = 9
number DraftLength = 9
number LoomRange = 9
number WindowEdge = 9
number UnknownMark = 10
number CutShort = 11
number NoCell = 12
