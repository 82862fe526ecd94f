-- How a kind of cells reads from bytes. Assumes nothing.
use Rattle.std.specs.Prelude.{◌≡◌, ℕ, ◌≤◌, List, length, Some, Option}

-- codes of cells are below this
abbrev pub code_limit : ℕ
code_limit = 64

-- how a kind reads from a file: how many bytes one cell takes, and the cell that some bytes are
pub record Reading (C : Type 0) : Type 0 where
  pub width : ℕ
  pub reads : List ℕ → Option C

-- one cell takes 1 to 16 bytes; fewer or more bytes read as no cell
pub record Readable {C : Type 0} (k : Reading C) : Type 0 where
  pub some : 1 ≤ k.width
  pub few : k.width ≤ 16
  pub exact : (bs : List ℕ) (x : C) → k.reads bs ≡ Some x → length bs ≡ k.width
