-- `places` lists exactly the places of a tile, each once, in reading order.
use Rattle.std.proofs.Common.{◌≡◌, ℕ, zero, suc, ◌<◌, Bool, true, false, ltb, List, [], ◌∷◌, ◌++◌, length, filter, sym, refl, ap, ◌∙◌, subst, inl, inr, ⊎_elim, add-one, arith}
use Rattle.std.specs.List.{ContainsAt as Has, AllByRecursion}
use Rattle.std.proofs.lemmas.Bool.{cond_both, cond-true, cases_lt, both_ways, lt-ltb}
use Rattle.std.proofs.ByRecursion.{All-append, All-weaker, All-push, all-has, has_get_or, has_append_left, has_append_right, has_push, all_kept_by, kept_by_passes}
use Rattle.std.proofs.lemmas.List.FromFn.{get_or-map-range_with_len}
use Rattle.grids.specs.declared.Position.{Position}
use Rattle.grids.specs.Kinds.{Kind, Lawful}
use Rattle.grids.specs.Grids.{Grid, Tile, Valid, laid}
use Rattle.grids.specs.Places.{Place, Earlier, InOrder, Exact, lies, places, row_spots, spots, heights, widths}
use Rattle.grids.proofs.Spots.{row_spots_more, spots_more, length-row_spots}
use Rattle.grids.proofs.Testing.{lies_tells, lies_made}

-- the alignments, in reading order
order_append : (xs ys : List Position) → InOrder xs → InOrder ys → AllByRecursion (λ x. AllByRecursion (Earlier x) ys) xs → InOrder (xs ++ ys)
order_append [] ys a b c = b
order_append (x ∷ xs) ys a b c = (All-append (Earlier x) xs ys a.0 c.0, order_append xs ys a.1 b c.1)

order_kept : (p : Position → Bool) (xs : List Position) → InOrder xs → InOrder (filter p xs)
order_kept p [] a = tt
order_kept p (x ∷ xs) a = cond_both (p x) (x ∷ filter p xs) (filter p xs) InOrder (λ _. (all_kept_by p (Earlier x) xs a.0, order_kept p xs a.1)) (λ _. order_kept p xs a.1)

row_all : (n r : ℕ) → AllByRecursion (λ q. (q.row ≡ r) × (q.col < n)) (row_spots n r)
row_all zero r = tt
row_all (suc n) r =
    let P : ℕ → List Position → Type 0 = λ m xs. AllByRecursion (λ q. (q.row ≡ r) × (q.col < m)) xs in
    let h : P (suc n) (row_spots n r) = All-weaker (λ q. (q.row ≡ r) × (q.col < n)) (λ q. (q.row ≡ r) × (q.col < suc n)) (λ q a. (a.0, omega (arith, a.1))) (row_spots n r) (row_all n r) in
    let k : P (suc n) (row_spots n r ++ (record { row = r; col = n }) ∷ []) = All-push (λ q. (q.row ≡ r) × (q.col < suc n)) (row_spots n r) (record { row = r; col = n }) h (refl, omega arith) in
    subst (P (suc n)) (sym (row_spots_more n r) ∙ ap (λ m. row_spots m r) (add-one n)) k

row_order : (n r : ℕ) → InOrder (row_spots n r)
row_order zero r = tt
row_order (suc n) r =
    subst InOrder (sym (row_spots_more n r) ∙ ap (λ m. row_spots m r) (add-one n))
    (order_append (row_spots n r) ((record { row = r; col = n }) ∷ []) (row_order n r) (tt, tt) (All-weaker (λ q. (q.row ≡ r) × (q.col < n)) (λ q. AllByRecursion (Earlier q) ((record { row = r; col = n }) ∷ [])) (λ q a. (inr a, tt)) (row_spots n r) (row_all n r)))

spots_all : (m n : ℕ) → AllByRecursion (λ q. (q.row < m) × (q.col < n)) (spots m n)
spots_all zero n = tt
spots_all (suc m) n =
    let P : List Position → Type 0 = λ xs. AllByRecursion (λ q. (q.row < suc m) × (q.col < n)) xs in
    subst P (sym (spots_more m n) ∙ ap (λ i. spots i n) (add-one m))
    (All-append (λ q. (q.row < suc m) × (q.col < n)) (spots m n) (row_spots n m)
    (All-weaker (λ q. (q.row < m) × (q.col < n)) (λ q. (q.row < suc m) × (q.col < n)) (λ q a. (omega (arith, a.0), a.1)) (spots m n) (spots_all m n))
    (All-weaker (λ q. (q.row ≡ m) × (q.col < n)) (λ q. (q.row < suc m) × (q.col < n)) (λ q a. (omega (arith, a.0), a.1)) (row_spots n m) (row_all n m)))

spots_order : (m n : ℕ) → InOrder (spots m n)
spots_order zero n = tt
spots_order (suc m) n =
    subst InOrder (sym (spots_more m n) ∙ ap (λ i. spots i n) (add-one m))
    (order_append (spots m n) (row_spots n m) (spots_order m n) (row_order n m)
    (All-weaker (λ q. (q.row < m) × (q.col < n)) (λ q. AllByRecursion (Earlier q) (row_spots n m))
    (λ q a. All-weaker (λ p. (p.row ≡ m) × (p.col < n)) (Earlier q) (λ p b. inl (omega (arith, a.0, b.0))) (row_spots n m) (row_all n m))
    (spots m n) (spots_all m n)))

has_row : (n r c : ℕ) → c < n → Has (row_spots n r) (record { row = r; col = c })
has_row n r c h =
    let f : ℕ → Position = λ i. record { row = r; col = i } in
    subst (λ q. Has (row_spots n r) q) (get_or-map-range_with_len f 0 n c c (f 0) h (omega arith)) (has_get_or (row_spots n r) c (f 0) (omega (arith, length-row_spots n r)))

has_spots : (m n r c : ℕ) → r < m → c < n → Has (spots m n) (record { row = r; col = c })
has_spots zero n r c h k = absurd (omega arith)
has_spots (suc m) n r c h k =
    let q : Position = record { row = r; col = c } in
    let P : List Position → Type 0 = λ xs. Has xs q in
    subst P (sym (spots_more m n) ∙ ap (λ i. spots i n) (add-one m))
    (⊎_elim
    (λ l. has_append_left (spots m n) (row_spots n m) q (has_spots m n r c l k))
    (λ l. let e : r ≡ m = omega arith in has_append_right (spots m n) (row_spots n m) q (subst (λ i. Has (row_spots n i) q) e (has_row n r c k)))
    (cases_lt r m))

-- a filter keeps what passes
module _ {X : Type 0} (p : X → Bool) where
  has_kept_all : (xs : List X) → AllByRecursion (λ y. p y ≡ true → Has (filter p xs) y) xs
  has_kept_all [] = tt
  has_kept_all (x ∷ xs) = (
    (λ e. subst (λ ys. Has ys x) (sym (cond-true (p x) (x ∷ filter p xs) (filter p xs) e)) (has_append_left (x ∷ []) (filter p xs) x (has_push [] x))),
    All-weaker (λ y. p y ≡ true → Has (filter p xs) y) (λ y. p y ≡ true → Has (filter p (x ∷ xs)) y) (λ y f e. cond_both (p x) (x ∷ filter p xs) (filter p xs) (λ ys. Has ys y) (λ _. has_append_right (x ∷ []) (filter p xs) y (f e)) (λ _. f e)) xs (has_kept_all xs),
  )

  has_kept : (xs : List X) (x : X) → Has xs x → p x ≡ true → Has (filter p xs) x
  has_kept xs x h = all-has (λ y. p y ≡ true → Has (filter p xs) y) xs x (has_kept_all xs) h

all_both : {X : Type 0} (P Q R : X → Type 0) → ((x : X) → P x → Q x → R x) → (xs : List X) → AllByRecursion P xs → AllByRecursion Q xs → AllByRecursion R xs
all_both P Q R f [] a b = tt
all_both P Q R f (x ∷ xs) a b = (f x a.0 b.0, all_both P Q R f xs a.1 b.1)

-- a list of positions is not empty just where something of it can be had
some_from : (P : ℕ → ℕ → Type 0) (xs : List Position) → AllByRecursion (λ q. P q.row q.col) xs → ltb 0 (length xs) ≡ true → (r : ℕ) × (c : ℕ) × P r c
some_from P [] a h = absurd (both_ways false refl h)
some_from P (q ∷ xs) a h = (q.row, q.col, a.0)

some_length : (xs : List Position) (q : Position) → Has xs q → ltb 0 (length xs) ≡ true
some_length xs q h = lt-ltb 0 (length xs) (omega (arith, h.1))

pub exactly : {C : Type 0} (k : Kind C) → Lawful k → (g : Grid C) (t : Tile C) → Valid t → Exact k g t
exactly {C} k lawful g t v =
    let m : ℕ = heights g (laid t) in
    let n : ℕ = widths g (laid t) in
    let p : Position → Bool = lies k g (laid t) in
    let sound : AllByRecursion (λ q. Place g (laid t) q.row q.col) (places k g (laid t)) =
    all_both (λ q. (q.row < m) × (q.col < n)) (λ q. p q ≡ true) (λ q. Place g (laid t) q.row q.col)
    (λ q a e. record { row_fits = omega (arith, a.0); col_fits = omega (arith, a.1); agree = lies_tells k lawful g t v q e })
    (filter p (spots m n)) (all_kept_by p (λ q. (q.row < m) × (q.col < n)) (spots m n) (spots_all m n)) (kept_by_passes p (spots m n)) in
    let complete : (r c : ℕ) → Place g (laid t) r c → Has (places k g (laid t)) (record { row = r; col = c }) =
    λ r c h. has_kept p (spots m n) (record { row = r; col = c }) (has_spots m n r c (omega (arith, h.row_fits)) (omega (arith, h.col_fits))) (lies_made k lawful g t v (record { row = r; col = c }) h.agree) in
    record {
      sound = sound;
      complete = complete;
      ordered = order_kept p (spots m n) (spots_order m n);
      decided = (
        some_from (λ r c. Place g (laid t) r c) (places k g (laid t)) sound,
        (λ h. some_length (places k g (laid t)) (record { row = h.0; col = h.1 }) (complete h.0 h.1 h.2)),
      );
    }
