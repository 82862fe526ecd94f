-- Which refusal a call answers, by an ordered list of its checks. Assumes nothing.
use Rattle.std.specs.Prelude.{ℕ, Bool, cond, ◌&&◌, List, [], ◌∷◌, Some, None, Ok, Err, Option, Result, nat_le}
use Rattle.grids.specs.declared.Refusal.{Refusal}
use Rattle.grids.specs.Numbers.{number}

-- the number beside the first check that fails
abbrev pub first_failed : List (Bool × ℕ) → Option ℕ
first_failed [] = None
first_failed (x ∷ xs) = cond x.0 (first_failed xs) (Some x.1)

-- n is from a to b
abbrev pub between : ℕ → ℕ → ℕ → Bool
between a b n = nat_le a n && nat_le n b

-- the refusal's number, or else the answer
abbrev pub unless : {X : Type 0} → Option ℕ → X → Result X ℕ
unless None x = Ok x
unless (Some n) x = Err n

-- what was there before where there is a refusal, else what the call makes of it
abbrev pub kept_or : {X : Type 0} → Option ℕ → X → X → X
kept_or None was new = new
kept_or (Some n) was new = was

-- an answer with its refusal as a number, and with what it holds under f
abbrev pub numbered_by : {X Y : Type 0} → (X → Y) → Result X Refusal → Result Y ℕ
numbered_by f (Ok x) = Ok (f x)
numbered_by f (Err e) = Err (number e)

-- an answer with its refusal as a number
abbrev pub numbered : {X : Type 0} → Result X Refusal → Result X ℕ
numbered r = numbered_by (λ x. x) r
