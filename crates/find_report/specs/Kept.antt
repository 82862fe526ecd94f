-- Tiles that are kept as their sizes and their cells, one tile after another. Only the private search uses this. Assumes nothing.
use Rattle.std.specs.Prelude.{◌≡◌, ℕ, ◌*◌, List, [], ◌∷◌, length, take, drop}
use Rattle.std.proofs.Props.{props}
use mathlib.Core.HLevel.{×_prop}
use Rattle.grids.specs.Grids.{Tile, Valid, tile}
use Rattle.find_report.specs.declared.Size.{Size}

-- how many cells a tile of a size has
abbrev pub area : Size → ℕ
area z = z.rows * z.cols

module _ {C : Type 0} where
  -- the tile of a size whose cells are at the front of a list
  abbrev pub cut_one : Size → List C → Tile C
  cut_one z cs = tile z.rows z.cols (take (area z) cs)

  -- the tiles of some sizes whose cells follow one another in a list
  abbrev pub cut : List Size → List C → List (Tile C)
  cut [] cs = []
  cut (z ∷ zs) cs = cut_one z cs ∷ cut zs (drop (area z) cs)

  -- they are valid, and no cell is left over
  abbrev pub Kept : List Size → List C → Type 0
  Kept [] cs = length cs ≡ 0
  Kept (z ∷ zs) cs = Valid (cut_one z cs) × Kept zs (drop (area z) cs)

  -- which is one fact, as a ghost field asks
  pub kept_prop : (zs : List Size) (cs : List C) → IsProp (Kept zs cs)
  kept_prop [] cs = Prim.hlevel props
  kept_prop (z ∷ zs) cs = ×_prop (Prim.hlevel props) (kept_prop zs (drop (area z) cs))
