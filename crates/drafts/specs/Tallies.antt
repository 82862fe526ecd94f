-- How looks are counted. Assumes nothing.
use Rattle.std.specs.Prelude.{ℕ, ◌+◌, ◌%◌, ◌^◌, cond}
use Rattle.grids.specs.Grids.{Grid, inside}

-- the tally u after n more looks inside
abbrev pub raised : ℕ → ℕ → ℕ
raised u n = (u + n) % 2 ^ 64

-- the tally u after a look at (r, c): a look outside is not counted
abbrev pub counted : {C : Type 0} → Grid C → ℕ → ℕ → ℕ → ℕ
counted g r c u = cond (inside g r c) (raised u 1) u
