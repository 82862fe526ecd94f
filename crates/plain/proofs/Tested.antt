-- A test of one number after another that stops at the first failure.
use Rattle.std.proofs.Common.{◌≡◌, ℕ, suc, ◌+◌, ◌-◌, ◌<◌, ◌≤◌, Bool, true, false, arith}
use Rattle.grids.specs.Places.{all_from}
use Rattle.plain.specs.Looks.{tested_from}

-- the first k of the numbers below n passed
pub record Going (p : ℕ → Bool) (n k : ℕ) : Type 0 where
  pub all : all_from p k (n - k) ≡ all_from p 0 n
  pub tested : k + tested_from p k (n - k) ≡ tested_from p 0 n

-- a is whether all numbers below n pass, and k is how many of them are tested
pub record Ended (p : ℕ → Bool) (n : ℕ) (a : Bool) (k : ℕ) : Type 0 where
  pub all : a ≡ all_from p 0 n
  pub tested : k ≡ tested_from p 0 n

module _ (p : ℕ → Bool) where
  pub going_more : (n k : ℕ) → k < n → p k ≡ true → Going p n k → Going p n (k + 1)
  going_more n k h y g =
      let e : n - k ≡ suc (n - (k + 1)) = omega arith in
      record {
        all = rw (e, y) at g.all;
        tested = omega (arith, rw (e, y) at g.tested);
      }

  pub going_stop : (n k : ℕ) → k < n → p k ≡ false → Going p n k → Ended p n false (k + 1)
  going_stop n k h y g =
      let e : n - k ≡ suc (n - (k + 1)) = omega arith in
      record {
        all = rw (e, y) at g.all;
        tested = omega (arith, rw (e, y) at g.tested);
      }

  pub going_all : (n k : ℕ) → n ≤ k → Going p n k → Ended p n true k
  going_all n k h g =
      let e : n - k ≡ 0 = omega arith in
      record {
        all = rw e at g.all;
        tested = omega (arith, rw e at g.tested);
      }
