-- Looking rules. Assumes nothing.
use Rattle.std.specs.Prelude.{ℕ, ◌+◌, ◌*◌, ◌≤◌}
use Rattle.grids.specs.Grids.{Grid, Tile, Drawn, Valid, laid}
use Rattle.grids.specs.Places.{alignments}

-- how many looks an engine takes, for each draft's cells and each tile: for a tile of n cells at most n + 2 at each alignment
pub record Rule (C : Type 0) : Type 0 where
  pub looks : Grid C → Grid C → ℕ
  pub bound : (g : Grid C) (t : Tile C) → Drawn g → Valid t → looks g (laid t) ≤ alignments g (laid t) * (t.rows * t.cols + 2)
