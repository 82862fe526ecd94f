-- A list of entries over the front of another. Assumes nothing.
use Rattle.std.specs.Prelude.{ℕ, ◌+◌, List, [], ◌∷◌, ◌++◌, length, take, drop, slice_set}

-- the first of xs, as many as old has room for; past them old keeps what it held
abbrev pub listed : {X : Type 0} → List X → List X → List X
listed xs old = take (length old) xs ++ drop (length xs) old

-- old with xs written one after another from place n on; what finds no room is not written
abbrev pub filled : {X : Type 0} → ℕ → List X → List X → List X
filled n [] old = old
filled n (x ∷ xs) old = filled (n + 1) xs (slice_set old n x)
