-- What is printed of a line. Assumes nothing.
use Rattle.std.specs.Prelude.{ℕ, List, ◌++◌, codes, decimal}
use Rattle.std.specs.List.{flat_map}
use Rattle.lines.specs.declared.Line.{Line}
use Rattle.lines.specs.declared.Line.TheVariants.{Place, Tile, Draft, Entered, Refused, Passed, Stopped, Fault, TooLong}

-- the bytes of a line: one space parts fields, and byte 10 ends it
abbrev pub rendered : Line → List ℕ
rendered (Place tile row col) = decimal tile ++ (codes " " ++ (decimal row ++ (codes " " ++ (decimal col ++ codes "\n"))))
rendered (Tile tile places looks) = codes "tile " ++ (decimal tile ++ (codes " places " ++ (decimal places ++ (codes " looks " ++ (decimal looks ++ codes "\n")))))
rendered (Draft rows cols tiles) = codes "draft " ++ (decimal rows ++ (codes " " ++ (decimal cols ++ (codes " tiles " ++ (decimal tiles ++ codes "\n")))))
rendered (Entered rows cols number) = codes "tile " ++ (decimal rows ++ (codes " " ++ (decimal cols ++ (codes " at " ++ (decimal number ++ codes "\n")))))
rendered (Refused number) = codes "refused " ++ (decimal number ++ codes "\n")
rendered (Passed rows cols) = codes "draft " ++ (decimal rows ++ (codes " " ++ (decimal cols ++ codes " passed\n")))
rendered (Stopped rows cols tiles) = codes "draft " ++ (decimal rows ++ (codes " " ++ (decimal cols ++ (codes " stopped " ++ (decimal tiles ++ codes "\n")))))
rendered (Fault number at) = codes "fault " ++ (decimal number ++ (codes " at " ++ (decimal at ++ codes "\n")))
rendered TooLong = codes "too long\n"

-- the bytes of lines, one after another
abbrev pub page : List Line → List ℕ
page ls = flat_map rendered ls
