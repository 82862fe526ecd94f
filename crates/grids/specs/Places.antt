-- The places of a tile in a grid. Assumes nothing.
use Rattle.std.specs.Prelude.{◌≡◌, ℕ, zero, suc, ◌+◌, ◌-◌, ◌*◌, ◌/◌, ◌%◌, ◌<◌, ◌≤◌, Bool, true, false, ◌&&◌, ◌⊎◌, List, [], ◌∷◌, map, length, Some, None, Decides, filter, Option, nat_lt}
use Rattle.std.specs.List.{range_with_len, ContainsAt as Has, flat_map, AllByRecursion}
use Rattle.grids.specs.declared.Position.{Position}
use Rattle.grids.specs.Kinds.{Kind}
use Rattle.grids.specs.Grids.{Grid, Tile, laid}

-- the positions of one row with n columns, by rising column
abbrev pub row_spots : ℕ → ℕ → List Position
row_spots n r = map (λ c. record { row = r; col = c }) (range_with_len 0 n)

-- the positions of m rows and n columns, in reading order
abbrev pub spots : ℕ → ℕ → List Position
spots m n = flat_map (row_spots n) (range_with_len 0 m)

-- p holds of each of the n numbers from i on
abbrev pub all_from : (ℕ → Bool) → ℕ → ℕ → Bool
all_from p i zero = true
all_from p i (suc n) = p i && all_from p (i + 1) n

-- p comes before q in reading order
abbrev pub Earlier : Position → Position → Type 0
Earlier p q = (p.row < q.row) ⊎ ((p.row ≡ q.row) × (p.col < q.col))

-- each position comes before all that follow it, so none is listed twice
abbrev pub InOrder : List Position → Type 0
InOrder [] = Unit {0}
InOrder (p ∷ ps) = AllByRecursion (Earlier p) ps × InOrder ps

module _ {C : Type 0} where
  -- laid over g with its corner at (r, c), t stays inside g and every cell agrees
  pub record Place (g t : Grid C) (r c : ℕ) : Type 0 where
    pub row_fits : r + t.rows ≤ g.rows
    pub col_fits : c + t.cols ≤ g.cols
    pub agree : (i j : ℕ) → i < t.rows → j < t.cols → g.at (r + i) (c + j) ≡ t.at i j

  -- at how many rows t can be laid inside g
  abbrev pub heights : Grid C → Grid C → ℕ
  heights g t = g.rows + 1 - t.rows

  -- at how many columns t can be laid inside g
  abbrev pub widths : Grid C → Grid C → ℕ
  widths g t = g.cols + 1 - t.cols

  -- at how many positions t can be laid inside g; 0 where it is larger either way
  abbrev pub alignments : Grid C → Grid C → ℕ
  alignments g t = heights g t * widths g t

  -- two cells are there and are the same
  abbrev pub alike : Kind C → Option C → Option C → Bool
  alike k None y = false
  alike k (Some x) None = false
  alike k (Some x) (Some y) = k.same x y

  -- g and t laid at q agree in the cell number n of t
  abbrev pub agree_at : Kind C → Grid C → Grid C → Position → ℕ → Bool
  agree_at k g t q n = alike k (g.at (q.row + n / t.cols) (q.col + n % t.cols)) (t.at (n / t.cols) (n % t.cols))

  -- g and t laid at q agree in every cell of t
  abbrev pub lies : Kind C → Grid C → Grid C → Position → Bool
  lies k g t q = all_from (agree_at k g t q) 0 (t.rows * t.cols)

  -- all places of t in g, in reading order
  abbrev pub places : Kind C → Grid C → Grid C → List Position
  places k g t = filter (lies k g t) (spots (heights g t) (widths g t))

  -- t has a place in g
  abbrev pub has_place : Kind C → Grid C → Grid C → Bool
  has_place k g t = nat_lt 0 (length (places k g t))

  -- `places` holds exactly the places of the tile, each once, in reading order, and `has_place` tells whether there is one
  pub record Exact (k : Kind C) (g : Grid C) (t : Tile C) : Type 0 where
    pub sound : AllByRecursion (λ q. Place g (laid t) q.row q.col) (places k g (laid t))
    pub complete : (r c : ℕ) → Place g (laid t) r c → Has (places k g (laid t)) (record { row = r; col = c })
    pub ordered : InOrder (places k g (laid t))
    pub decided : Decides (has_place k g (laid t)) ((r : ℕ) × (c : ℕ) × Place g (laid t) r c)
