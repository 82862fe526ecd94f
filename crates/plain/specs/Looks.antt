-- How many looks the plain engine takes. Assumes nothing.
use Rattle.std.specs.Prelude.{ℕ, zero, suc, ◌+◌, ◌*◌, ◌≤◌, Bool, cond, List, [], ◌∷◌, sum_by}
use Rattle.std.proofs.Common.{arith}
use Rattle.std.specs.List.{AllByRecursion}
use Rattle.std.proofs.ByRecursion.{sum_by_le}
use Rattle.std.proofs.lemmas.Bool.{cond_both}
use Rattle.grids.specs.declared.Position.{Position}
use Rattle.grids.specs.Kinds.{Kind}
use Rattle.grids.specs.Grids.{Grid, Tile, laid}
use Rattle.grids.specs.Places.{agree_at, spots, heights, widths, alignments}
use Rattle.grids.proofs.Spots.{length-spots}
use Rattle.engine.specs.Rules.{Rule}

-- how many of the n numbers from i on are tested, up to the first at which p fails
abbrev pub tested_from : (ℕ → Bool) → ℕ → ℕ → ℕ
tested_from p i zero = 0
tested_from p i (suc n) = 1 + cond (p i) (tested_from p (i + 1) n) 0

-- how many cells of t, laid over g at q, are compared, up to the first that differs
abbrev pub compared : {C : Type 0} → Kind C → Grid C → Grid C → Position → ℕ
compared k g t q = tested_from (agree_at k g t q) 0 (t.rows * t.cols)

-- how many cells are compared at all alignments together; each is one look
abbrev pub plain_looks : {C : Type 0} → Kind C → Grid C → Grid C → ℕ
plain_looks k g t = sum_by (compared k g t) (spots (heights g t) (widths g t))

-- a rule carries the proof of its bound, so these lemmas stand here
pub tested_le : (p : ℕ → Bool) (i n : ℕ) → tested_from p i n ≤ n
tested_le p i zero = omega arith
tested_le p i (suc n) = cond_both (p i) (tested_from p (i + 1) n) 0 (λ m. 1 + m ≤ suc n) (λ _. omega (arith, tested_le p (i + 1) n)) (λ _. omega arith)

all_each : {X : Type 0} (P : X → Type 0) → ((x : X) → P x) → (xs : List X) → AllByRecursion P xs
all_each P f [] = tt
all_each P f (x ∷ xs) = (f x, all_each P f xs)

pub sum_le : (f : Position → ℕ) (m n b : ℕ) → ((q : Position) → f q ≤ b) → sum_by f (spots m n) ≤ m * n * b
sum_le f m n b h = rw length-spots at (sum_by_le f b (spots m n) (all_each (λ q. f q ≤ b) h (spots m n)))

pub plain_bound : {C : Type 0} (k : Kind C) (g : Grid C) (t : Tile C) → plain_looks k g (laid t) ≤ alignments g (laid t) * (t.rows * t.cols + 2)
plain_bound k g t =
    sum_le (compared k g (laid t)) (heights g (laid t)) (widths g (laid t)) (t.rows * t.cols + 2)
    (λ q. omega (arith, tested_le (agree_at k g (laid t) q) 0 (t.rows * t.cols)))

-- the looking rule of the plain engine
abbrev pub plain_rule : {C : Type 0} → Kind C → Rule C
plain_rule k = record { looks = plain_looks k; bound = λ g t drawn valid. plain_bound k g t }
