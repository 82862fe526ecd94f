-- The marks of records, and what each asks of a size. Assumes nothing.
use Rattle.std.specs.Prelude.{ℕ, Bool, true, false, cond, ◌&&◌, ◌==◌}

-- what the first two bytes of a record say
pub data Mark : Type 0 where
  draft : Mark
  tile : Mark
  unknown : Mark

-- DR marks a draft, TL a tile
abbrev pub mark : ℕ → ℕ → Mark
mark a b = cond (a == 68 && b == 82) draft (cond (a == 84 && b == 76) tile unknown)

-- the mark is one of the two
abbrev pub known : Mark → Bool
known draft = true
known tile = true
known unknown = false

-- the largest number of rows or columns under a mark
abbrev pub limit : Mark → ℕ
limit draft = 2048
limit tile = 32
limit unknown = 0

-- the number of a size outside the limits
abbrev pub size_number : Mark → ℕ
size_number draft = 9
size_number tile = 1
size_number unknown = 10
