-- What a reader of a record file has left to read. Assumes nothing.
use Rattle.std.specs.Prelude.{ℕ, List}

-- the bytes that are not read yet, and the byte where they begin
pub record Unread : Type 0 where
  pub bytes : List ℕ
  pub at : ℕ
