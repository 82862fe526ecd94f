-- A tile put into table and store.
use Rattle.std.proofs.Common.{◌≡◌, ℕ, ◌+◌, ◌-◌, ◌≤◌, false, List, ◌∷◌, ◌++◌, map, length, take, drop, sum_by, sym, ap, ◌∙◌, ap₂, append_assoc, arith}
use Rattle.std.specs.List.{insert}
use Rattle.std.proofs.lemmas.Grind.{flat_map-append}
use Rattle.std.proofs.lemmas.List.{length-take-le, length-drop, length-append, take_all}
use Rattle.std.proofs.lemmas.List.Sums.{sum_by-take-le, sum_by-take-drop}
use Rattle.grids.specs.Grids.{Tile}
use Rattle.grids.specs.Listed.{listed}
use Rattle.book.specs.declared.Book.{Book}
use Rattle.book.specs.declared.TableEntry.{TableEntry}
use Rattle.book.specs.Table.{area, size_of}
use Rattle.book.specs.Models.{entries_held, sizes, is_trimmed, held, cut, tile_area}
use Rattle.book.specs.Entering.{all_cells, entered_at}
use Rattle.book.proofs.Cuts.{Whole, tile_size, sizes-cut, whole_cut, joined_cut, take-cut, drop-cut, cut_joined}
use Rattle.book.proofs.Inserts.{put_items, all_inserted, map_inserted}

module _ {C : Type 0} where
  -- the tile t goes in at number n among tiles of the sizes ss, whose cells are in cs
  module _ (ss : List (ℕ × ℕ)) (cs : List C) (n : ℕ) (t : Tile C) (whole : Whole t) (room : sum_by area ss + tile_area t ≤ length cs) where
    -- the cells of the new list of tiles
    cells_inserted : all_cells (insert (cut ss cs) n t) ≡ take (sum_by area (take n ss)) cs ++ (t.cells ++ take (sum_by area ss - sum_by area (take n ss)) (drop (sum_by area (take n ss)) cs))
    cells_inserted =
        let at = sum_by area (take n ss) in
        let rest : sum_by area (drop n ss) ≡ sum_by area ss - at = omega (arith, sum_by-take-drop area ss n) in
        flat_map-append (λ u. u.cells) (take n (cut ss cs)) (t ∷ drop n (cut ss cs))
        ∙ ap₂ (λ xs ys. xs ++ (t.cells ++ ys))
        (ap all_cells (take-cut n ss cs) ∙ joined_cut (take n ss) cs)
        (ap all_cells (drop-cut n ss cs) ∙ (joined_cut (drop n ss) (drop at cs) ∙ ap (λ i. take i (drop at cs)) rest))

    length_inserted_cells : length (all_cells (insert (cut ss cs) n t)) ≡ sum_by area ss + length t.cells
    length_inserted_cells =
        let at = sum_by area (take n ss) in
        let few = sum_by-take-le area ss n in
        let middle = take (sum_by area ss - at) (drop at cs) in
        omega (arith, ap length cells_inserted, length-append (take at cs) (t.cells ++ middle), length-append t.cells middle, length-take-le at cs (omega (arith, few)), length-take-le (sum_by area ss - at) (drop at cs) (omega (arith, few, length-drop at cs)))

    -- the cells fill the front of the store
    put_front : put_items cs (sum_by area (take n ss)) (sum_by area ss) t.cells ≡ all_cells (insert (cut ss cs) n t) ++ drop (sum_by area ss + length t.cells) cs
    put_front =
        let at = sum_by area (take n ss) in
        let middle = take (sum_by area ss - at) (drop at cs) in
        let end = drop (sum_by area ss + length t.cells) cs in
        sym (ap (λ xs. xs ++ end) cells_inserted ∙ (append_assoc (take at cs) (t.cells ++ middle) end ∙ ap (λ xs. take at cs ++ xs) (append_assoc t.cells middle end)))

    pub put_listed : put_items cs (sum_by area (take n ss)) (sum_by area ss) t.cells ≡ listed (all_cells (insert (cut ss cs) n t)) cs
    put_listed =
        put_front
        ∙ ap₂ (λ xs i. xs ++ drop i cs) (sym (take_all (length cs) (all_cells (insert (cut ss cs) n t)) (omega (arith, length_inserted_cells, whole, room)))) (sym length_inserted_cells)

    -- and the new tiles are cut out of it
    pub put_tiles : cut (insert ss n (tile_size t)) (put_items cs (sum_by area (take n ss)) (sum_by area ss) t.cells) ≡ insert (cut ss cs) n t
    put_tiles =
        let us = insert (cut ss cs) n t in
        let e : map tile_size us ≡ insert ss n (tile_size t) = map_inserted tile_size (cut ss cs) n t ∙ ap (λ xs. insert xs n (tile_size t)) (sizes-cut ss cs) in
        ap₂ cut (sym e) put_front
        ∙ cut_joined us (drop (sum_by area ss + length t.cells) cs) (all_inserted Whole (cut ss cs) n t whole (whole_cut ss cs (omega arith)))

  -- the entry of a tile that is new in the table
  abbrev pub entry_of : Tile C → TableEntry
  entry_of t = record { rows = t.rows; cols = t.cols; stops = 0 }

  -- the model after it, where d has one entry more than b
  pub held-entered : (b d : Book) (cs ds : List C) (n m i j : ℕ) (t : Tile C) → Whole t → sum_by area (sizes b) + tile_area t ≤ length cs → i ≡ sum_by area (take n (sizes b)) → j ≡ sum_by area (sizes b) → entries_held d ≡ insert (entries_held b) n (entry_of t) → is_trimmed d ≡ false → ds ≡ put_items cs i j t.cells → n ≡ m → held d ds ≡ entered_at m (held b cs) t
  held-entered b d cs ds n m i j t w r p q es f c number =
      let sized = ap (map size_of) es ∙ map_inserted size_of (entries_held b) n (entry_of t) in
      let stops = ap (map (λ x. x.stops)) es ∙ map_inserted (λ x. x.stops) (entries_held b) n (entry_of t) in
      let put : ds ≡ put_items cs (sum_by area (take n (sizes b))) (sum_by area (sizes b)) t.cells = c ∙ ap₂ (λ l m. put_items cs l m t.cells) p q in
      let g = ap₂ cut sized put ∙ put_tiles (sizes b) cs n t w r in
      let h = put ∙ put_listed (sizes b) cs n t w r in
      (λ l. record { tiles = g l; stops = stops l; trimmed = f l; store = h l }) ∙ ap (λ l. entered_at l (held b cs) t) number
