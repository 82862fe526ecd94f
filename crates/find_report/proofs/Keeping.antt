-- Tiles that are kept as their sizes and their cells.
use Rattle.std.proofs.Common.{◌≡◌, ℕ, suc, ◌+◌, ◌<◌, ◌≤◌, List, [], ◌∷◌, ◌++◌, length, get_or, take, drop, sym, refl, ap, ◌∙◌, ap₂, subst, arith}
use Rattle.std.proofs.lemmas.List.{nil_from_length, take_all, take-append-le, drop-append-le, drop_more, length-take, get_or-drop}
use Rattle.std.proofs.Math.ListN.{drop_of_length-le}
use Rattle.grids.specs.Grids.{Tile, Valid, tile}
use Rattle.find_report.specs.declared.Size.{Size}
use Rattle.find_report.specs.Kept.{area, cut_one, cut, Kept}

module _ {C : Type 0} where
  -- all cells of the first of them are there
  pub first_whole : (z : Size) (cs : List C) → Valid (cut_one z cs) → area z ≤ length cs
  first_whole z cs v = omega (arith, v.whole, length-take (area z) cs)

  pub length_cut : (zs : List Size) (cs : List C) → length (cut zs cs) ≡ length zs
  length_cut [] cs = refl
  length_cut (z ∷ zs) cs = ap suc (length_cut zs (drop (area z) cs))

  -- one more, its cells xs at the end of all cells
  module _ (y : Size) (xs : List C) (v : Valid (tile y.rows y.cols xs)) where
    all_of_it : take (area y) xs ≡ xs
    all_of_it = take_all (area y) xs (omega (arith, v.whole))

    pub kept_push : (zs : List Size) (cs : List C) → Kept zs cs → Kept (zs ++ y ∷ []) (cs ++ xs)
    kept_push [] cs k =
        let e : cs ++ xs ≡ xs = ap (λ l. l ++ xs) (nil_from_length cs k) in
        (subst (λ l. Valid (tile y.rows y.cols l)) (sym (ap (take (area y)) e ∙ all_of_it)) v, ap length (ap (drop (area y)) e ∙ drop_of_length-le xs (omega (arith, v.whole))))
    kept_push (z ∷ zs) cs k =
        let l = first_whole z cs k.0 in
        (subst (λ m. Valid (tile z.rows z.cols m)) (sym (take-append-le (area z) cs xs l)) k.0, subst (λ m. Kept (zs ++ y ∷ []) m) (sym (drop-append-le (area z) cs xs l)) (kept_push zs (drop (area z) cs) k.1))

    pub cut_push : (zs : List Size) (cs : List C) → Kept zs cs → cut (zs ++ y ∷ []) (cs ++ xs) ≡ cut zs cs ++ tile y.rows y.cols xs ∷ []
    cut_push [] cs k = ap (λ l. tile y.rows y.cols l ∷ []) (ap (λ l. take (area y) (l ++ xs)) (nil_from_length cs k) ∙ all_of_it)
    cut_push (z ∷ zs) cs k =
        let l = first_whole z cs k.0 in
        ap₂ (λ m ts. tile z.rows z.cols m ∷ ts) (take-append-le (area z) cs xs l) (ap (cut (zs ++ y ∷ [])) (drop-append-le (area z) cs xs l) ∙ cut_push zs (drop (area z) cs) k.1)

  -- of the kept tiles, the first n were taken; the cells of the others are the rest
  pub record Left (zs : List Size) (cs : List C) (n : ℕ) (rest : List C) : Type 0 where
    pub kept : Kept (drop n zs) rest
    pub tiles : drop n (cut zs cs) ≡ cut (drop n zs) rest

  module _ (zs : List Size) (cs : List C) (n : ℕ) (rest : List C) (s : Left zs cs n rest) (z d : Size) (l : n < length zs) (e : z ≡ get_or zs n d) where
    split : drop n zs ≡ z ∷ drop (n + 1) zs
    split = drop_more zs n d l ∙ ap (λ x. x ∷ drop (n + 1) zs) (sym e)

    here : Kept (z ∷ drop (n + 1) zs) rest
    here = subst (λ ys. Kept ys rest) split s.kept

    pub next_valid : Valid (cut_one z rest)
    next_valid = here.0

    both : drop n (cut zs cs) ≡ cut_one z rest ∷ cut (drop (n + 1) zs) (drop (area z) rest)
    both = s.tiles ∙ ap (λ ys. cut ys rest) split

    pub next_is : (u : Tile C) → cut_one z rest ≡ get_or (cut zs cs) n u
    next_is u = sym (ap (λ ts. get_or ts 0 u) both) ∙ (get_or-drop n (cut zs cs) 0 u ∙ ap (λ i. get_or (cut zs cs) i u) (omega arith))

    pub next_left : Left zs cs (n + 1) (drop (area z) rest)
    next_left =
        let ts = cut zs cs in
        let m : n < length ts = omega (arith, l, length_cut zs cs) in
        record { kept = here.1; tiles = ap (drop 1) (sym (drop_more ts n (cut_one z rest) m) ∙ both) }
