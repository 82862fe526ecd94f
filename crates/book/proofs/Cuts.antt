-- Tiles whose cells lie one after another in a store.
use Rattle.std.proofs.Common.{◌≡◌, ℕ, zero, suc, ◌+◌, ◌<◌, ◌≤◌, List, [], ◌∷◌, ◌++◌, map, length, get_or, take, drop, sum_by, sym, refl, ap, ◌∙◌, ap₂, append_assoc, arith}
use Rattle.std.specs.List.{AllByRecursion}
use Rattle.std.proofs.Math.Seq.{take-add}
use Rattle.std.proofs.lemmas.List.{length-take-le, length-drop, drop-drop, take_at, drop_at}
use Rattle.std.proofs.lemmas.List.Sums.{sum_by-cons}
use Rattle.grids.specs.Grids.{Tile, tile}
use Rattle.book.specs.Table.{area}
use Rattle.book.specs.Models.{cut, tile_area, cells_held}
use Rattle.book.specs.Entering.{all_cells}

module _ {C : Type 0} where
  -- a tile with as many cells as its size has
  abbrev pub Whole : Tile C → Type 0
  Whole t = length t.cells ≡ tile_area t

  abbrev pub tile_size : Tile C → ℕ × ℕ
  tile_size t = (t.rows, t.cols)

  pub length_cut : (ss : List (ℕ × ℕ)) (cs : List C) → length (cut ss cs) ≡ length ss
  length_cut [] cs = refl
  length_cut (s ∷ ss) cs = ap suc (length_cut ss (drop (area s) cs))

  pub cut_at : (ss : List (ℕ × ℕ)) (cs : List C) (n : ℕ) (d : Tile C) (e : ℕ × ℕ) → n < length ss → get_or (cut ss cs) n d ≡ tile (get_or ss n e).0 (get_or ss n e).1 (take (area (get_or ss n e)) (drop (sum_by area (take n ss)) cs))
  cut_at [] cs n d e h = absurd (omega arith)
  cut_at (s ∷ ss) cs zero d e h = refl
  cut_at (s ∷ ss) cs (suc n) d e h =
      cut_at ss (drop (area s) cs) n d e (omega arith)
      ∙ ap (λ xs. tile (get_or ss n e).0 (get_or ss n e).1 (take (area (get_or ss n e)) xs)) (drop-drop (sum_by area (take n ss)) (area s) cs ∙ ap (λ i. drop i cs) (sym (sum_by-cons area s (take n ss))))

  pub cells_cut : (ss : List (ℕ × ℕ)) (cs : List C) → cells_held (cut ss cs) ≡ sum_by area ss
  cells_cut [] cs = refl
  cells_cut (s ∷ ss) cs = sum_by-cons tile_area (tile s.0 s.1 (take (area s) cs)) (cut ss (drop (area s) cs)) ∙ (ap (λ n. area s + n) (cells_cut ss (drop (area s) cs)) ∙ sym (sum_by-cons area s ss))

  pub sizes-cut : (ss : List (ℕ × ℕ)) (cs : List C) → map tile_size (cut ss cs) ≡ ss
  sizes-cut [] cs = refl
  sizes-cut (s ∷ ss) cs = ap (λ xs. s ∷ xs) (sizes-cut ss (drop (area s) cs))

  -- a store that is long enough has all cells of each tile
  pub whole_cut : (ss : List (ℕ × ℕ)) (cs : List C) → sum_by area ss ≤ length cs → AllByRecursion Whole (cut ss cs)
  whole_cut [] cs h = tt
  whole_cut (s ∷ ss) cs h =
      let n = sum_by-cons area s ss in
      (length-take-le (area s) cs (omega (arith, n)), whole_cut ss (drop (area s) cs) (omega (arith, n, length-drop (area s) cs)))

  -- the cells of the tiles are the front of the store
  pub joined_cut : (ss : List (ℕ × ℕ)) (cs : List C) → all_cells (cut ss cs) ≡ take (sum_by area ss) cs
  joined_cut [] cs = refl
  joined_cut (s ∷ ss) cs =
      ap (λ xs. take (area s) cs ++ xs) (joined_cut ss (drop (area s) cs))
      ∙ (sym (take-add (area s) (sum_by area ss) cs) ∙ ap (λ n. take n cs) (sym (sum_by-cons area s ss)))

  pub take-cut : (n : ℕ) (ss : List (ℕ × ℕ)) (cs : List C) → take n (cut ss cs) ≡ cut (take n ss) cs
  take-cut zero ss cs = refl
  take-cut (suc n) [] cs = refl
  take-cut (suc n) (s ∷ ss) cs = ap (λ xs. tile s.0 s.1 (take (area s) cs) ∷ xs) (take-cut n ss (drop (area s) cs))

  pub drop-cut : (n : ℕ) (ss : List (ℕ × ℕ)) (cs : List C) → drop n (cut ss cs) ≡ cut (drop n ss) (drop (sum_by area (take n ss)) cs)
  drop-cut zero ss cs = refl
  drop-cut (suc n) [] cs = refl
  drop-cut (suc n) (s ∷ ss) cs =
      drop-cut n ss (drop (area s) cs)
      ∙ ap (cut (drop n ss)) (drop-drop (sum_by area (take n ss)) (area s) cs ∙ ap (λ i. drop i cs) (sym (sum_by-cons area s (take n ss))))

  -- whole tiles, laid one after another, are cut out again
  pub cut_joined : (ts : List (Tile C)) (rest : List C) → AllByRecursion Whole ts → cut (map tile_size ts) (all_cells ts ++ rest) ≡ ts
  cut_joined [] rest h = refl
  cut_joined (t ∷ ts) rest h =
      let e = append_assoc t.cells (all_cells ts) rest in
      let a : take (tile_area t) ((t.cells ++ all_cells ts) ++ rest) ≡ t.cells = ap (take (tile_area t)) e ∙ take_at t.cells (all_cells ts ++ rest) (tile_area t) h.0 in
      let b : drop (tile_area t) ((t.cells ++ all_cells ts) ++ rest) ≡ all_cells ts ++ rest = ap (drop (tile_area t)) e ∙ drop_at t.cells (all_cells ts ++ rest) (tile_area t) h.0 in
      ap₂ (λ x xs. tile t.rows t.cols x ∷ xs) a (ap (cut (map tile_size ts)) b ∙ cut_joined ts rest h.1)
