-- The parts of a file that hold one cell each.
use Rattle.std.proofs.Common.{◌≡◌, ℕ, ◌+◌, ◌-◌, ◌*◌, ◌<◌, true, List, take, drop, is_some, Option, sym, refl, ap, ◌∙◌, arith}
use Rattle.grids.specs.Grids.{tile}
use Rattle.grids.proofs.Laid.{place_within, laid_nth}
use Rattle.cells.specs.Readings.{Reading}
use Rattle.readings.specs.CellLists.{cells_read, cells_of}
use Rattle.readings.proofs.InTurn.{nth_cells}
use Rattle.drafts.specs.Making.{sheet}

-- what a sheet over bytes has at a place inside is what the place's own bytes read as
pub seen_at : {C : Type 0} (k : Reading C) (rows cols : ℕ) (bs : List ℕ) (r c w : ℕ) (o : Option C) → is_some (cells_read k (rows * cols) bs) ≡ true → r < rows → c < cols → w ≡ k.width → o ≡ k.reads (take w (drop ((r * cols + c) * w) bs)) → o ≡ (sheet rows cols (cells_of k (rows * cols) bs)).at r c
seen_at k rows cols bs r c w o read h l e is =
    let n = r * cols + c in
    is ∙ ap (λ m. k.reads (take m (drop (n * m) bs))) e
    ∙ sym (laid_nth (tile rows cols (cells_of k (rows * cols) bs)) r c h l ∙ nth_cells k (rows * cols) bs n read (place_within rows cols r c (rows * cols) refl h l))
