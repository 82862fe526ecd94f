-- The positions that a search goes through, one more at a time.
use Rattle.std.proofs.Common.{◌≡◌, ℕ, zero, suc, ◌+◌, ◌*◌, ◌<◌, ◌⊎◌, [], ◌∷◌, ◌++◌, length, sym, ap, ◌∙◌, ⊎_elim, suc-mul, mul-zero, zero-mul, add-one, arith, length-append}
use Rattle.std.specs.List.{range_with_len, flat_map}
use Rattle.std.proofs.lemmas.List.FromFn.{map-range_with_len_more, length-map-range_with_len}
use Rattle.std.proofs.lemmas.List.{map-id, flat_map_more}
use Rattle.grids.specs.Grids.{Grid}
use Rattle.grids.specs.Places.{row_spots, spots, heights, widths, alignments}

pub row_spots_more : (n r : ℕ) → row_spots (n + 1) r ≡ row_spots n r ++ (record { row = r; col = n }) ∷ []
row_spots_more n r = map-range_with_len_more (λ c. record { row = r; col = c }) 0 n n (omega arith)

pub length-row_spots : (n r : ℕ) → length (row_spots n r) ≡ n
length-row_spots n r = length-map-range_with_len (λ c. record { row = r; col = c }) 0 n

counting_more : (n : ℕ) → range_with_len 0 (n + 1) ≡ range_with_len 0 n ++ n ∷ []
counting_more n = sym (map-id (range_with_len 0 (n + 1))) ∙ (map-range_with_len_more (λ x. x) 0 n n (omega arith) ∙ ap (λ xs. xs ++ n ∷ []) (map-id (range_with_len 0 n)))

pub spots_more : (m n : ℕ) → spots (m + 1) n ≡ spots m n ++ row_spots n m
spots_more m n = ap (flat_map (row_spots n)) (counting_more m) ∙ sym (flat_map_more (row_spots n) [] (range_with_len 0 m) m)

pub length-spots : (m n : ℕ) → length (spots m n) ≡ m * n
length-spots zero n = omega arith
length-spots (suc m) n =
    ap (λ k. length (spots k n)) (sym (add-one m)) ∙ (ap length (spots_more m n) ∙ (length-append (spots m n) (row_spots n m) ∙ omega (arith, length-spots m n, length-row_spots n m, suc-mul m n)))

-- a tile that is larger than the grid, either way, has no alignment
pub alignments_none : {C : Type 0} (g t : Grid C) → (g.rows < t.rows) ⊎ (g.cols < t.cols) → alignments g t ≡ 0
alignments_none g t h =
    ⊎_elim
    (λ l. let e : heights g t ≡ 0 = omega arith in ap (λ k. k * widths g t) e ∙ zero-mul (widths g t))
    (λ l. let e : widths g t ≡ 0 = omega arith in ap (λ k. heights g t * k) e ∙ mul-zero (heights g t))
    h
