-- The cell kind of threads. Assumes nothing.
use Rattle.std.specs.Prelude.{ℕ, ◌+◌, ◌*◌, ◌%◌, Bool, cond, ◌&&◌, List, [], ◌∷◌, Some, None, Option, ◌==◌, nat_lt}
use Rattle.cells.specs.declared.thread.Thread.{Thread}

-- equal threads
abbrev pub same_thread : Thread → Thread → Bool
same_thread x y = x.colour == y.colour && x.ply == y.ply

-- the smaller colour is before, then the smaller ply
abbrev pub before_thread : Thread → Thread → Bool
before_thread x y = cond (x.colour == y.colour) (nat_lt x.ply y.ply) (nat_lt x.colour y.colour)

-- the colour modulo 64
abbrev pub thread_code : Thread → ℕ
thread_code x = x.colour % 64

-- three bytes read as a thread: colour, low byte first, then ply
abbrev pub thread_reads : List ℕ → Option Thread
thread_reads [] = None
thread_reads (a ∷ []) = None
thread_reads (a ∷ (b ∷ [])) = None
thread_reads (a ∷ (b ∷ (c ∷ []))) = Some (record { colour = a + b * 256; ply = c })
thread_reads (a ∷ (b ∷ (c ∷ (d ∷ bs)))) = None
