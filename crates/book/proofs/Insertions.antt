-- Where a tile goes in, and whether it is held already.
use Rattle.std.proofs.Common.{◌≡◌, ℕ, ◌+◌, ◌<◌, ◌≤◌, Bool, true, false, cond, not, ◌||◌, eqb, ltb, List, [], ◌∷◌, map, length, get_or, take, Some, None, Option, sum_by, count_by, sym, refl, ap, ◌∙◌, arith}
use Rattle.std.specs.List.{prefix_len, position_or_len, list_any, range_with_len}
use Rattle.std.specs.Option.{unwrap_or}
use Rattle.std.proofs.ByRecursion.{All-from_get_or}
use Rattle.std.proofs.lemmas.Option.{get_or_from_slice_get, slice_get_within}
use Rattle.std.proofs.lemmas.List.{length-take-le, get_or-take}
use Rattle.std.proofs.lemmas.List.FromFn.{fill_by_all, length-range_with_len}
use Rattle.std.proofs.lemmas.List.Sums.{sum_by-cons, prefix_len-le-length, prefix_len_passes, prefix_len_stops}
use Rattle.std.proofs.lemmas.Bool.{cond_both, ne_eqb, ltb-false}
use Rattle.grids.specs.Kinds.{Kind}
use Rattle.grids.specs.Grids.{Tile}
use Rattle.book_order.specs.Orders.{tiles}
use Rattle.book.specs.declared.Book.{Book}
use Rattle.book.specs.Table.{area}
use Rattle.book.specs.Models.{sizes, held, no_tile, tile_area}
use Rattle.book.specs.Entering.{times_held, insertion_point, enter_refusal, InsertionPoint}
use Rattle.book.proofs.Cuts.{cells_cut}
use Rattle.book.proofs.Tables.{tiles_counted}
use Rattle.book.proofs.Accepting.{accepted}

-- what `position` answers of a list of length l whose first element to pass is number m
abbrev pub found_at : ℕ → ℕ → Option ℕ
found_at m l = cond (ltb m l) (Some m) None

module _ {C : Type 0} (k : Kind C) (t : Tile C) (ts : List (Tile C)) where
  pub insertion_point_is : InsertionPoint k t ts (insertion_point k t ts)
  insertion_point_is =
      let p : Tile C → Bool = λ u. (tiles k).before u t in
      let few = prefix_len-le-length p ts in
      record {
        few = few;
        earlier = All-from_get_or (λ u. p u ≡ true) (take (prefix_len p ts) ts) no_tile (λ i l. let m : i < prefix_len p ts = omega (arith, l, length-take-le (prefix_len p ts) ts few) in ap p (get_or-take (prefix_len p ts) ts i no_tile m) ∙ prefix_len_passes p ts i no_tile m);
        next = λ u h. ap p (sym (get_or_from_slice_get ts (prefix_len p ts) u no_tile h)) ∙ prefix_len_stops p ts no_tile (slice_get_within ts (prefix_len p ts) u h);
      }

list_any-map : {X Y : Type 0} (p : Y → Bool) (f : X → Y) (xs : List X) → list_any p (map f xs) ≡ list_any (λ x. p (f x)) xs
list_any-map p f [] = refl
list_any-map p f (x ∷ xs) = ap (λ b. p (f x) || b) (list_any-map p f xs)

prefix_len-map : {X Y : Type 0} (p : Y → Bool) (f : X → Y) (xs : List X) → prefix_len p (map f xs) ≡ prefix_len (λ x. p (f x)) xs
prefix_len-map p f [] = refl
prefix_len-map p f (x ∷ xs) = ap (λ n. cond (p (f x)) (1 + n) 0) (prefix_len-map p f xs)

any_counted : {X : Type 0} (p : X → Bool) (xs : List X) → list_any p xs ≡ not (eqb (count_by p xs) 0)
any_counted p [] = refl
any_counted p (x ∷ xs) = rw (sum_by-cons (λ y. cond (p y) 1 0) x xs) (any_first (p x) (count_by p xs) (any_counted p xs))
  where
    any_first : (b : Bool) {c : Bool} (n : ℕ) → c ≡ not (eqb n 0) → (b || c) ≡ not (eqb (cond b 1 0 + n) 0)
    any_first true n e = ap not (sym (ne_eqb (1 + n) 0 (λ h. omega arith)))
    any_first false n e = e ∙ ap (λ m. not (eqb m 0)) (omega arith)

not_twice : (b : Bool) → not (not b) ≡ b
not_twice true = refl
not_twice false = refl

-- what a search through the numbers of the tiles answers
module _ {C : Type 0} (k : Kind C) (t : Tile C) (ts : List (Tile C)) (n : ℕ) (h : length ts ≡ n) where
  numbered : map (λ i. get_or ts i no_tile) (range_with_len 0 n) ≡ ts
  numbered = sym (fill_by_all (λ i. get_or ts i no_tile) ts n no_tile h (λ i l. refl))

  pub any_held : (b : Bool) → b ≡ list_any (λ i. (tiles k).same (get_or ts i no_tile) t) (range_with_len 0 n) → b ≡ not (eqb (times_held k t ts) 0)
  any_held b e = e ∙ (sym (list_any-map (λ u. (tiles k).same u t) _ (range_with_len 0 n)) ∙ (ap (list_any (λ u. (tiles k).same u t)) numbered ∙ any_counted (λ u. (tiles k).same u t) ts))

  first_point : position_or_len (λ i. not ((tiles k).before (get_or ts i no_tile) t)) (range_with_len 0 n) ≡ insertion_point k t ts
  first_point =
      (λ j. prefix_len (λ i. not_twice ((tiles k).before (get_or ts i no_tile) t) j) (range_with_len 0 n))
      ∙ (sym (prefix_len-map (λ u. (tiles k).before u t) _ (range_with_len 0 n)) ∙ ap (prefix_len (λ u. (tiles k).before u t)) numbered)

  pub first_found : (o : Option ℕ) → o ≡ found_at (position_or_len (λ i. not ((tiles k).before (get_or ts i no_tile) t)) (range_with_len 0 n)) (length (range_with_len 0 n)) → unwrap_or o n ≡ insertion_point k t ts
  first_found o e = ap (λ q. unwrap_or q n) e ∙ (at_or (position_or_len (λ i. not ((tiles k).before (get_or ts i no_tile) t)) (range_with_len 0 n)) (length (range_with_len 0 n)) (length-range_with_len 0 n) (prefix_len-le-length _ (range_with_len 0 n)) ∙ first_point)
    where
      at_or : (m l : ℕ) → l ≡ n → m ≤ l → unwrap_or (found_at m l) n ≡ m
      at_or m l f g = cond_both (ltb m l) (Some m) None (λ q. unwrap_or q n ≡ m) (λ _. refl) (λ e. omega (arith, ltb-false m l e))

-- what a tile that is not refused finds in the table and the store
pub taken_in : {C : Type 0} (k : Kind C) (b : Book) (cs : List C) (t : Tile C) (n : ℕ) → enter_refusal k (held b cs) t ≡ None → n ≡ insertion_point k t (held b cs).tiles → (n ≤ b.count) × (b.count < 32) × (length t.cells ≡ tile_area t) × (sum_by area (sizes b) + tile_area t ≤ length cs)
taken_in k b cs t n none e =
    let a = accepted k (held b cs) t none in
    let counted = tiles_counted b cs 0 in
    (omega (arith, e, (insertion_point_is k t (held b cs).tiles).few, counted), omega (arith, a.1, counted), a.0.whole, omega (arith, a.2, cells_cut (sizes b) cs))
