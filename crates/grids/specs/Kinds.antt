-- Kinds of things that can be told apart and put in order. Assumes nothing.
use Rattle.std.specs.Prelude.{◌≡◌, Bool, true, false}

-- the two tests of a kind: that two things are the same, and that one is before another
pub record Kind (A : Type 0) : Type 0 where
  pub same : A → A → Bool
  pub before : A → A → Bool

-- `same` tells equal things, and `before` is a strict total order
pub record Lawful {A : Type 0} (k : Kind A) : Type 0 where
  pub same_equal : (x y : A) → k.same x y ≡ true → x ≡ y
  pub same_itself : (x : A) → k.same x x ≡ true
  pub before_itself : (x : A) → k.before x x ≡ false
  pub before_trans : (x y z : A) → k.before x y ≡ true → k.before y z ≡ true → k.before x z ≡ true
  pub before_total : (x y : A) → k.before x y ≡ false → k.before y x ≡ false → x ≡ y
