-- The cell kind of lifts. Assumes nothing.
use Rattle.std.specs.Prelude.{ℕ, Bool, true, false, cond, List, [], ◌∷◌, Some, None, Option, ◌==◌}
use Rattle.cells.specs.declared.lift.Lift.{Lift}
use Rattle.cells.specs.declared.lift.Lift.TheVariants.{Sunk, Raised}

-- equal lifts
abbrev pub same_lift : Lift → Lift → Bool
same_lift Sunk Sunk = true
same_lift Sunk Raised = false
same_lift Raised Sunk = false
same_lift Raised Raised = true

-- sunk is before raised
abbrev pub before_lift : Lift → Lift → Bool
before_lift Sunk Sunk = false
before_lift Sunk Raised = true
before_lift Raised Sunk = false
before_lift Raised Raised = false

-- the codes of lifts
abbrev pub lift_code : Lift → ℕ
lift_code Sunk = 0
lift_code Raised = 1

-- '#', which is byte 35, is raised; '.', which is byte 46, is sunk; no other byte is a lift
abbrev pub lift_byte : ℕ → Option Lift
lift_byte b = cond (b == 35) (Some Raised) (cond (b == 46) (Some Sunk) None)

-- one byte reads as a lift
abbrev pub lift_reads : List ℕ → Option Lift
lift_reads [] = None
lift_reads (b ∷ []) = lift_byte b
lift_reads (b ∷ (c ∷ bs)) = None
