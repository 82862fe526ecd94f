-- An answer once it is known whether there is a refusal.
use Rattle.std.proofs.Common.{◌≡◌, ℕ, Bool, true, false, List, [], ◌∷◌, ◌++◌, Some, None, Ok, Err, Option, refl, ap}
use Rattle.grids.specs.Refusals.{first_failed, unless}

module _ {X : Type 0} (o : Option ℕ) where
  pub unless_none : (x y : X) → o ≡ None → x ≡ y → Ok x ≡ unless o y
  unless_none x y e f = rw e (ap Ok f)

  pub unless_some : (n : ℕ) (y : X) → o ≡ Some n → Err n ≡ unless o y
  unless_some n y e = rw e refl

-- where no check fails, the first passes, and none of the others fails
pub passed : (b : Bool) (n : ℕ) (others : List (Bool × ℕ)) → first_failed ((b, n) ∷ others) ≡ None → (b ≡ true) × (first_failed others ≡ None)
passed true n others h = (refl, h)
passed false n others h = absurd cc

-- checks after other checks: the first that fails decides
pub failed_first : (xs ys : List (Bool × ℕ)) (n : ℕ) → first_failed xs ≡ Some n → first_failed (xs ++ ys) ≡ Some n
failed_first [] ys n h = absurd cc
failed_first ((true, m) ∷ xs) ys n h = failed_first xs ys n h
failed_first ((false, m) ∷ xs) ys n h = h

pub failed_then : (xs ys : List (Bool × ℕ)) → first_failed xs ≡ None → first_failed (xs ++ ys) ≡ first_failed ys
failed_then [] ys h = refl
failed_then ((true, m) ∷ xs) ys h = failed_then xs ys h
failed_then ((false, m) ∷ xs) ys h = absurd cc

pub passed_both : (xs ys : List (Bool × ℕ)) → first_failed (xs ++ ys) ≡ None → (first_failed xs ≡ None) × (first_failed ys ≡ None)
passed_both [] ys h = (refl, h)
passed_both ((true, m) ∷ xs) ys h = passed_both xs ys h
passed_both ((false, m) ∷ xs) ys h = absurd cc

-- what an answer tells of the refusal
pub unless_ok : {X : Type 0} (o : Option ℕ) (x y : X) → Ok y ≡ unless o x → (o ≡ None) × (y ≡ x)
unless_ok None x y h = (refl, cc)
unless_ok (Some n) x y h = absurd cc

pub unless_err : {X : Type 0} (o : Option ℕ) (x : X) (n : ℕ) → Err n ≡ unless o x → o ≡ Some n
unless_err None x n h = absurd cc
unless_err (Some m) x n h = let e : m ≡ n = cc in ap Some e
