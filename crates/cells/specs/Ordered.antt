-- How a kind's two tests go with the language's comparisons. Assumes nothing.
use Rattle.std.specs.Prelude.{◌≡◌, Bool}
use Rattle.std.specs.Ordering.{is_lt}
use Rattle.std.specs.declared.cmp.Ordering.{Ordering}
use Rattle.grids.specs.Kinds.{Kind}

-- the kind's equality is `==`, and its order is `<`
pub record TestedBy {A : Type 0} (k : Kind A) (eq : A → A → Bool) (cmp : A → A → Ordering) : Type 0 where
  pub same : (x y : A) → eq x y ≡ k.same x y
  pub before : (x y : A) → is_lt (cmp x y) ≡ k.before x y
