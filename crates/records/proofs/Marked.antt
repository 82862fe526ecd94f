-- A record whose mark is known.
use Rattle.std.proofs.Common.{◌≡◌, ℕ, ◌≤◌, true, List, length, refl, ap, ◌∙◌, subst}
use Rattle.std.proofs.lemmas.Bool.{le-leb}
use Rattle.grids.specs.Refusals.{first_failed, unless}
use Rattle.cells.specs.Readings.{Reading}
use Rattle.records.specs.Marks.{Mark, draft, tile, mark, known, limit, size_number}
use Rattle.records.specs.Fronts.{mark_in, after_mark, body_checks, record_fault, parted}

pub mark_draft : (a b : ℕ) → a ≡ 68 → b ≡ 82 → mark a b ≡ draft
mark_draft a b e f = rw (e, f) refl

pub mark_tile : (a b : ℕ) → a ≡ 84 → b ≡ 76 → mark a b ≡ tile
mark_tile a b e f = rw (e, f) refl

-- what is read after a known mark m is what the record is read as
pub marked : {C : Type 0} (k : Reading C) (bs rest : List ℕ) (m : Mark) → 2 ≤ length bs → rest ≡ after_mark bs → mark_in bs ≡ m → known m ≡ true → unless (first_failed (body_checks k (limit m) (size_number m) rest)) (parted k m rest) ≡ unless (record_fault k bs) (parted k (mark_in bs) (after_mark bs))
marked k bs rest m l f e y =
    let P : Mark → Type 0 = λ n. unless (first_failed (body_checks k (limit n) (size_number n) rest)) (parted k n rest) ≡ unless (record_fault k bs) (parted k (mark_in bs) (after_mark bs)) in
    let h = le-leb 2 (length bs) l in
    let z : known (mark_in bs) ≡ true = ap known e ∙ y in
    let b : P (mark_in bs) = rw (f, h, z) refl in
    subst P e b
