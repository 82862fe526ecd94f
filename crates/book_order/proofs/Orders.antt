-- Tiles of a lawful kind are told apart and put in order, as the comparisons that the language derives do.
use Rattle.std.proofs.Common.{◌≡◌, ℕ, Bool, true, false, cond, ◌&&◌, eqb, ltb, List, [], ◌∷◌, Some, Option, Decides, sym, refl, ap, ◌∙◌, arith}
use Rattle.std.proofs.lemmas.Bool.{both_ways}
use Rattle.std.proofs.lemmas.Bool.Decides.{Decides-eqb, Decides-and, Decides-like, nat_tests}
use Rattle.std.proofs.lemmas.Cmp.{nat_cmp_total, lists_total, on_total, then_total, tied_itself}
use Rattle.std.specs.declared.cmp.Ordering.{Ordering}
use Rattle.std.specs.declared.cmp.Ordering.TheVariants.{Less, Equal, Greater}
use Rattle.std.specs.Cmp.{IsTotalOrder, Agrees, both_tied, unsigned_ties, Some-then}
use Rattle.std.specs.Cmp.Lexicographic.{pointwise, slice_cmp, slice_partial_cmp, pointwise_decides, lists_agrees, lists_ties}
use Rattle.std.specs.Ordering.{is_lt, is_eq, eq_by_cmp, is_some_and, nat_cmp, on, then_cmp, ordering_then, ordering_reverse, partial_ordering_then}
use Rattle.grids.specs.Kinds.{Kind, Lawful}
use Rattle.grids.specs.Grids.{Tile}
use Rattle.cells.specs.Ordered.{TestedBy}
use Rattle.book_order.specs.Orders.{before_lists, tiles}

-- one comparison, and then another
then_lt : (o r : Ordering) → is_lt (ordering_then o r) ≡ cond (is_eq o) (is_lt r) (is_lt o)
then_lt Less r = refl
then_lt Equal r = refl
then_lt Greater r = refl

neither : (o r : Ordering) → o ≡ ordering_reverse r → is_lt o ≡ false → is_lt r ≡ false → is_eq o ≡ true
neither Less r e h i = absurd (both_ways _ h refl)
neither Equal r e h i = refl
neither Greater Less e h i = absurd (both_ways _ i refl)
neither Greater Equal e h i = ap is_eq e
neither Greater Greater e h i = absurd (both_ways _ refl (ap is_lt e))

less : (o : Ordering) → is_lt o ≡ true → o ≡ Less
less Less h = refl
less Equal h = absurd (both_ways _ refl h)
less Greater h = absurd (both_ways _ refl h)

numbers_before : (m n : ℕ) → is_lt (nat_cmp m n) ≡ ltb m n
numbers_before m n = grind (arith, nat_tests)

-- a kind whose tests are those of a total order, and tell equal things, is lawful
pub lawful_by : {A : Type 0} (k : Kind A) (R : A → A → Ordering) → TestedBy k (eq_by_cmp R) R → IsTotalOrder R → ((x y : A) → Decides (k.same x y) (x ≡ y)) → Lawful k
lawful_by k R tested total decides = record {
  same_equal = λ x y. (decides x y).0;
  same_itself = λ x. (decides x x).1 refl;
  before_itself = λ x. sym (tested.before x x) ∙ ap is_lt (tied_itself total x);
  before_trans = λ x y z h i. sym (tested.before x z) ∙ ap is_lt (total.trans x y z (less (R x y) (tested.before x y ∙ h)) (less (R y z) (tested.before y z ∙ i)));
  before_total = λ x y h i. (decides x y).0 (sym (tested.same x y) ∙ neither (R x y) (R y x) (total.antisymm x y) (tested.before x y ∙ h) (tested.before y x ∙ i));
}

-- `==` and `<` of tiles as the language derives them
abbrev pub derived_same : {A : Type 0} → (A → A → Bool) → Tile A → Tile A → Bool
derived_same E s t = eqb s.rows t.rows && (eqb s.cols t.cols && pointwise E s.cells t.cells)

abbrev pub derived_before : {A : Type 0} → (A → A → Option Ordering) → Tile A → Tile A → Bool
derived_before P s t =
    is_some_and is_lt (partial_ordering_then (Some (nat_cmp s.rows t.rows)) (partial_ordering_then (Some (nat_cmp s.cols t.cols)) (slice_partial_cmp P s.cells t.cells)))

-- tiles by rows, then by columns, then by their cells
abbrev pub tile_cmp : {A : Type 0} → (A → A → Ordering) → Tile A → Tile A → Ordering
tile_cmp R = then_cmp (on (λ t. t.rows) nat_cmp) (then_cmp (on (λ t. t.cols) nat_cmp) (on (λ t. t.cells) (slice_cmp R)))

module _ {A : Type 0} {k : Kind A} (laws : Lawful k) where
  pub same_decides : (x y : A) → Decides (k.same x y) (x ≡ y)
  same_decides x y = (laws.same_equal x y, λ e. rw e (laws.same_itself y))

  pub tiles_decide : (s t : Tile A) → Decides ((tiles k).same s t) (s ≡ t)
  tiles_decide s t =
      Decides-like ((tiles k).same s t)
      (λ e. let p = e.0 in let q = e.1.0 in let r = e.1.1 in λ i. record { rows = p i; cols = q i; cells = r i })
      (λ e. (ap (λ u. u.rows) e, (ap (λ u. u.cols) e, ap (λ u. u.cells) e)))
      (Decides-and _ _ (Decides-eqb s.rows t.rows) (Decides-and _ _ (Decides-eqb s.cols t.cols) (pointwise_decides same_decides s.cells t.cells)))

  module _ {E : A → A → Bool} {R : A → A → Ordering} (tested : TestedBy k E R) (ties : (x y : A) → E x y ≡ eq_by_cmp R x y) where
    tied_same : (x y : A) → eq_by_cmp R x y ≡ k.same x y
    tied_same x y = sym (ties x y) ∙ tested.same x y

    lists_before : (xs ys : List A) → is_lt (slice_cmp R xs ys) ≡ before_lists k xs ys
    lists_before [] [] = refl
    lists_before [] (y ∷ ys) = refl
    lists_before (x ∷ xs) [] = refl
    lists_before (x ∷ xs) (y ∷ ys) = then_lt (R x y) (slice_cmp R xs ys) ∙ λ i. cond (tied_same x y i) (lists_before xs ys i) (tested.before x y i)

    tiles_tested : TestedBy (tiles k) (eq_by_cmp (tile_cmp R)) (tile_cmp R)
    tiles_tested = record {
      same = λ s t. sym (both_tied _ _ _ _ (unsigned_ties s.rows t.rows) (both_tied _ _ _ _ (unsigned_ties s.cols t.cols) (lists_ties R (λ x y. sym (tied_same x y)) s.cells t.cells)));
      before = λ s t. then_lt _ _ ∙ λ i. cond (sym (unsigned_ties s.rows t.rows) i) ((then_lt _ _ ∙ λ j. cond (sym (unsigned_ties s.cols t.cols) j) (lists_before s.cells t.cells j) (numbers_before s.cols t.cols j)) i) (numbers_before s.rows t.rows i);
    }

    pub tiles_lawful : IsTotalOrder R → Lawful (tiles k)
    tiles_lawful total =
        let order = then_total (on_total (λ (t : Tile A). t.rows) nat_cmp_total) (then_total (on_total (λ (t : Tile A). t.cols) nat_cmp_total) (on_total (λ (t : Tile A). t.cells) (lists_total total))) in
        lawful_by (tiles k) (tile_cmp R) tiles_tested order tiles_decide

    -- what the derived tests of tiles answer
    pub answers_same : (s t : Tile A) (b : Bool) → b ≡ derived_same E s t → b ≡ (tiles k).same s t
    answers_same s t b h = h ∙ λ i. eqb s.rows t.rows && (eqb s.cols t.cols && pointwise (λ x y. tested.same x y i) s.cells t.cells)

    pub answers_before : {P : A → A → Option Ordering} → Agrees P R → (s t : Tile A) (b : Bool) → b ≡ derived_before P s t → b ≡ (tiles k).before s t
    answers_before {P} agrees s t b h =
        let cells = lists_agrees agrees s.cells t.cells in
        h ∙ (ap (is_some_and is_lt) (ap (partial_ordering_then (Some (nat_cmp s.rows t.rows))) (ap (partial_ordering_then (Some (nat_cmp s.cols t.cols))) cells ∙ Some-then _ _) ∙ Some-then _ _) ∙ tiles_tested.before s t)
