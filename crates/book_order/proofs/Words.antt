-- The tests of book order say what the words do.
use Rattle.std.proofs.Common.{◌≡◌, ℕ, zero, suc, Bool, true, false, cond, ◌⊎◌, List, [], ◌∷◌, length, take, Some, Decides, refl, subst, inl, inr, ⊎_elim, arith}
use Rattle.std.specs.List.{slice_get}
use Rattle.std.proofs.lemmas.Bool.{both_ways}
use Rattle.std.proofs.lemmas.Bool.Decides.{Decides-eqb, Decides-ltb, Decides-like}
use Rattle.grids.specs.Kinds.{Kind, Lawful}
use Rattle.grids.specs.Grids.{Tile, Valid}
use Rattle.book_order.specs.Orders.{before_lists, tiles}
use Rattle.book_order.specs.Words.{EarlierCell, Before}
use Rattle.book_order.proofs.Orders.{same_decides}

-- a test of what comes first, and then, where that is equal, of the rest
first_then : (s b r : Bool) {E L P : Type 0} → Decides s E → Decides b L → (E → L → ⊥) → (E → Decides r P) → Decides (cond s r b) (L ⊎ (E × P))
first_then true b r same before apart rest = (λ h. inr (same.0 refl, (rest (same.0 refl)).0 h), λ z. ⊎_elim (λ l. absurd (apart (same.0 refl) l)) (λ q. (rest q.0).1 q.1) z)
first_then false b r same before apart rest = (λ h. inl (before.0 h), λ z. ⊎_elim (λ l. before.1 l) (λ q. absurd (both_ways _ refl (same.1 q.0))) z)

module _ {C : Type 0} {k : Kind C} (laws : Lawful k) where
  apart : (x y : C) → x ≡ y → k.before x y ≡ true → ⊥
  apart x y e h = both_ways _ (laws.before_itself y) (subst (λ u. k.before u y ≡ true) e h)

  earlier_is : (x y : C) (xs ys : List C) → (k.before x y ≡ true) ⊎ ((x ≡ y) × EarlierCell k xs ys) → EarlierCell k (x ∷ xs) (y ∷ ys)
  earlier_is x y xs ys (inl b) = record { number = 0; x = x; y = y; agree = refl; of_xs = refl; of_ys = refl; earlier = b }
  earlier_is x y xs ys (inr q) =
      let e = q.0 in
      let r = q.1 in
      let a = r.agree in
      record { number = suc r.number; x = r.x; y = r.y; agree = λ i. e i ∷ a i; of_xs = r.of_xs; of_ys = r.of_ys; earlier = r.earlier }

  earlier_at : (x y : C) (xs ys : List C) (n : ℕ) (u v : C) → take n (x ∷ xs) ≡ take n (y ∷ ys) → slice_get (x ∷ xs) n ≡ Some u → slice_get (y ∷ ys) n ≡ Some v → k.before u v ≡ true → (k.before x y ≡ true) ⊎ ((x ≡ y) × EarlierCell k xs ys)
  earlier_at x y xs ys zero u v a p q b =
      let e : u ≡ x = cc in
      let f : v ≡ y = cc in
      inl (subst (λ w. k.before x w ≡ true) f (subst (λ w. k.before w v ≡ true) e b))
  earlier_at x y xs ys (suc n) u v a p q b =
      let e : x ≡ y = cc in
      let t : take n xs ≡ take n ys = cc in
      inr (e, record { number = n; x = u; y = v; agree = t; of_xs = p; of_ys = q; earlier = b })

  earlier : (xs ys : List C) → length xs ≡ length ys → Decides (before_lists k xs ys) (EarlierCell k xs ys)
  earlier [] [] l = (λ h. absurd (both_ways _ refl h), λ e. let p = e.of_xs in absurd cc)
  earlier [] (y ∷ ys) l = absurd (omega arith)
  earlier (x ∷ xs) [] l = absurd (omega arith)
  earlier (x ∷ xs) (y ∷ ys) l =
      Decides-like _ (earlier_is x y xs ys) (λ e. earlier_at x y xs ys e.number e.x e.y e.agree e.of_xs e.of_ys e.earlier)
      (first_then _ _ _ (same_decides laws x y) (λ h. h, λ h. h) (apart x y) (λ _. earlier xs ys (omega arith)))

  -- valid tiles are before one another just where the words say so
  pub before_words : (s t : Tile C) → Valid s → Valid t → Decides ((tiles k).before s t) (Before k s t)
  before_words s t v w =
      first_then _ _ _ (Decides-eqb s.rows t.rows) (Decides-ltb s.rows t.rows) (λ e h. omega arith)
      (λ e. first_then _ _ _ (Decides-eqb s.cols t.cols) (Decides-ltb s.cols t.cols) (λ f h. omega arith)
      (λ f. earlier s.cells t.cells (cc (v.whole, w.whole))))
