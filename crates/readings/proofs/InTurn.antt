-- Cells that are read one after another.
use Rattle.std.proofs.Common.{◌≡◌, ℕ, zero, suc, ◌+◌, ◌*◌, ◌/◌, ◌<◌, ◌≤◌, true, false, List, [], ◌∷◌, ◌++◌, length, take, drop, set, is_some, Some, None, Option, unwrap_or, sym, refl, ap, ◌∙◌, ⊎_elim, suc-mul, zero-mul, add-one, arith, length-append, append_assoc}
use Rattle.std.specs.List.{slice_get}
use Rattle.std.proofs.lemmas.List.{append-nil, length-set, length-take, length-drop, take_at, drop_at, drop-drop, take-take, drop-take}
use Rattle.std.proofs.Math.Nat.{le-div_iff_mul-le}
use Rattle.std.proofs.lemmas.Bool.{both_ways, cases_Bool}
use Rattle.cells.specs.Readings.{Reading, Readable}
use Rattle.grids.specs.Listed.{listed, filled}
use Rattle.grids.proofs.Writing.{filled-listed}
use Rattle.readings.specs.CellLists.{onto, cells_read, cells_of}

module _ {C : Type 0} where
  onto_some : (o : Option C) (p : Option (List C)) → is_some o ≡ true → is_some (onto o p) ≡ is_some p
  onto_some None p h = absurd (both_ways false refl h)
  onto_some (Some x) None h = refl
  onto_some (Some x) (Some xs) h = refl

  onto_none : (o : Option C) (p : Option (List C)) → is_some o ≡ false → is_some (onto o p) ≡ false
  onto_none None p h = refl
  onto_none (Some x) p h = absurd (both_ways true h refl)

  onto_parts : (o : Option C) (p : Option (List C)) → is_some (onto o p) ≡ true → (is_some o ≡ true) × (is_some p ≡ true)
  onto_parts None p h = absurd (both_ways false refl h)
  onto_parts (Some x) None h = absurd (both_ways false refl h)
  onto_parts (Some x) (Some xs) h = (refl, refl)

  onto_value : (o : Option C) (p : Option (List C)) (x : C) → o ≡ Some x → is_some p ≡ true → unwrap_or (onto o p) [] ≡ x ∷ unwrap_or p []
  onto_value o None x e h = absurd (both_ways false refl h)
  onto_value o (Some xs) x e h = rw e refl

  first : (o : Option C) (p : Option (List C)) → is_some (onto o p) ≡ true → slice_get (unwrap_or (onto o p) []) 0 ≡ o
  first None p h = absurd (both_ways false refl h)
  first (Some x) None h = absurd (both_ways false refl h)
  first (Some x) (Some xs) h = refl

  later : (o : Option C) (p : Option (List C)) (i : ℕ) → is_some (onto o p) ≡ true → slice_get (unwrap_or (onto o p) []) (suc i) ≡ slice_get (unwrap_or p []) i
  later None p i h = absurd (both_ways false refl h)
  later (Some x) None i h = absurd (both_ways false refl h)
  later (Some x) (Some xs) i h = refl

-- from rest, which was to give m parts of w bytes, came the part x; more is left, which is to give i parts of v bytes
pub record Step (m w : ℕ) (rest : List ℕ) (i v : ℕ) (more x : List ℕ) : Type 0 where
  pub fewer : i + 1 ≡ m
  pub size : v ≡ w
  pub parts : rest ≡ x ++ more
  pub long : length x ≡ w

module _ {C : Type 0} (k : Reading C) (readable : Readable k) where
  long_read : (bs : List ℕ) (o : Option C) → k.reads (take k.width bs) ≡ o → is_some o ≡ true → k.width ≤ length bs
  long_read bs None e h = absurd (both_ways false refl h)
  long_read bs (Some x) e h = omega (arith, readable.exact (take k.width bs) x e, length-take k.width bs)

  -- cells that read have all their bytes
  pub cells_long : (n : ℕ) (bs : List ℕ) → is_some (cells_read k n bs) ≡ true → n * k.width ≤ length bs
  cells_long zero bs h = omega (arith, zero-mul k.width)
  cells_long (suc n) bs h =
      let p = onto_parts (k.reads (take k.width bs)) (cells_read k n (drop k.width bs)) h in
      omega (arith, suc-mul n k.width, long_read bs (k.reads (take k.width bs)) refl p.0, cells_long n (drop k.width bs) p.1, length-drop k.width bs)

  -- bytes for fewer cells than n do not read as n cells
  pub cells_short : (n w : ℕ) (bs : List ℕ) → w ≡ k.width → length bs / w < n → false ≡ is_some (cells_read k n bs)
  cells_short n w bs e h =
      ⊎_elim
      (λ y.
      let l : n * w ≤ length bs = omega (arith, cells_long n bs y, ap (λ j. n * j) e) in
      let some : 0 < w = omega (arith, e, readable.some) in
      absurd (omega (arith, h, (le-div_iff_mul-le some).1 l)))
      (λ y. sym y)
      (cases_Bool (is_some (cells_read k n bs)))

  -- where no part comes, none was to come
  pub no_more : (m w : ℕ) (rest : List ℕ) → w ≡ k.width → m * w ≤ length rest → (0 < m → length rest < w) → m ≡ 0
  no_more zero w rest e l f = refl
  no_more (suc m) w rest e l f = absurd (omega (arith, suc-mul m w, l, f (omega arith)))

module _ {C : Type 0} (k : Reading C) where
  -- a cell and the cells after it
  cells_step : (m w : ℕ) (rest : List ℕ) (i v : ℕ) (more x : List ℕ) → w ≡ k.width → Step m w rest i v more x → cells_read k m rest ≡ onto (k.reads x) (cells_read k i more)
  cells_step m w rest i v more x e s =
      let l : length x ≡ k.width = s.long ∙ e in
      let z : suc i ≡ m = omega (arith, s.fewer) in
      ap (λ j. cells_read k j rest) (sym z) ∙ (ap (cells_read k (suc i)) s.parts
      ∙ (ap (λ ys. onto (k.reads ys) (cells_read k i (drop k.width (x ++ more)))) (take_at x more k.width l)
      ∙ ap (λ ys. onto (k.reads x) (cells_read k i ys)) (drop_at x more k.width l)))

  step_long : (m w : ℕ) (rest : List ℕ) (i v : ℕ) (more x : List ℕ) → m * w ≤ length rest → Step m w rest i v more x → i * v ≤ length more
  step_long m w rest i v more x l s =
      let z : m * w ≡ suc i * w = ap (λ j. j * w) (sym s.fewer ∙ add-one i) in
      omega (arith, l, z, suc-mul i w, ap (λ j. i * j) s.size, ap length s.parts, length-append x more, s.long)

  -- a check of n cells of bs has come to the last m of them, whose bytes are at the front of rest
  pub record Checked (n : ℕ) (bs : List ℕ) (m w : ℕ) (rest : List ℕ) : Type 0 where
    pub wide : w ≡ k.width
    pub long : m * w ≤ length rest
    pub left : is_some (cells_read k n bs) ≡ is_some (cells_read k m rest)

  pub checked_none : (n : ℕ) (bs : List ℕ) (m w : ℕ) (rest : List ℕ) → m ≡ n → rest ≡ bs → w ≡ k.width → 0 < w → n ≤ length bs / w → Checked n bs m w rest
  checked_none n bs m w rest e f d h l =
      record {
        wide = d;
        long = omega (arith, ap (λ j. j * w) e, ap length f, (le-div_iff_mul-le h).0 l);
        left = ap (λ j. is_some (cells_read k j bs)) (sym e) ∙ ap (λ ys. is_some (cells_read k m ys)) (sym f);
      }

  pub checked_more : (n : ℕ) (bs : List ℕ) (m w : ℕ) (rest : List ℕ) (i v : ℕ) (more x : List ℕ) → Checked n bs m w rest → Step m w rest i v more x → is_some (k.reads x) ≡ true → Checked n bs i v more
  checked_more n bs m w rest i v more x c s y =
      record {
        wide = s.size ∙ c.wide;
        long = step_long m w rest i v more x c.long s;
        left = c.left ∙ (ap is_some (cells_step m w rest i v more x c.wide s) ∙ onto_some (k.reads x) (cells_read k i more) y);
      }

  pub checked_stop : (n : ℕ) (bs : List ℕ) (m w : ℕ) (rest : List ℕ) (i v : ℕ) (more x : List ℕ) → Checked n bs m w rest → Step m w rest i v more x → is_some (k.reads x) ≡ false → false ≡ is_some (cells_read k n bs)
  checked_stop n bs m w rest i v more x c s y = sym (c.left ∙ (ap is_some (cells_step m w rest i v more x c.wide s) ∙ onto_none (k.reads x) (cells_read k i more) y))

  pub checked_all : (n : ℕ) (bs : List ℕ) (m w : ℕ) (rest : List ℕ) → Checked n bs m w rest → m ≡ 0 → true ≡ is_some (cells_read k n bs)
  checked_all n bs m w rest c z = sym (c.left ∙ ap (λ j. is_some (cells_read k j rest)) z)

  -- of n cells of bs, i have been written over old, which gave new; the bytes of the last m are at the front of rest
  pub record Copied (n : ℕ) (bs : List ℕ) (old : List C) (i m w : ℕ) (rest : List ℕ) (new : List C) : Type 0 where
    pub wide : w ≡ k.width
    pub count : i + m ≡ n
    pub as_long : length new ≡ length old
    pub read : is_some (cells_read k m rest) ≡ true
    pub left : filled i (cells_of k m rest) new ≡ listed (cells_of k n bs) old

  pub copied_none : (n : ℕ) (bs : List ℕ) (old : List C) (i m w : ℕ) (rest : List ℕ) → i ≡ 0 → m ≡ n → rest ≡ bs → w ≡ k.width → is_some (cells_read k n bs) ≡ true → Copied n bs old i m w rest old
  copied_none n bs old i m w rest z e f d h =
      let read : is_some (cells_read k m rest) ≡ true = ap (λ j. is_some (cells_read k j rest)) e ∙ (ap (λ ys. is_some (cells_read k n ys)) f ∙ h) in
      let cells : cells_of k m rest ≡ cells_of k n bs = ap (λ j. cells_of k j rest) e ∙ ap (cells_of k n) f in
      record {
        wide = d;
        count = omega (arith, z, e);
        as_long = refl;
        read = read;
        left = ap (λ j. filled j (cells_of k m rest) old) z ∙ (ap (λ xs. filled 0 xs old) cells ∙ filled-listed (cells_of k n bs) old);
      }

  -- a part that comes reads as a cell
  pub copied_reads : (n : ℕ) (bs : List ℕ) (old : List C) (i m w : ℕ) (rest : List ℕ) (new : List C) (j v : ℕ) (more x : List ℕ) → Copied n bs old i m w rest new → Step m w rest j v more x → is_some (k.reads x) ≡ true
  copied_reads n bs old i m w rest new j v more x c s = (onto_parts (k.reads x) (cells_read k j more) (ap is_some (sym (cells_step m w rest j v more x c.wide s)) ∙ c.read)).0

  pub copied_more : (n : ℕ) (bs : List ℕ) (old : List C) (i m w : ℕ) (rest : List ℕ) (new : List C) (j v : ℕ) (more x : List ℕ) (y : C) (at next : ℕ) → Copied n bs old i m w rest new → Step m w rest j v more x → k.reads x ≡ Some y → at ≡ i → next ≡ i + 1 → Copied n bs old next j v more (set new at y)
  copied_more n bs old i m w rest new j v more x y at next c s e f h =
      let p = cells_read k j more in
      let q = cells_step m w rest j v more x c.wide s in
      let r = (onto_parts (k.reads x) p (ap is_some (sym q) ∙ c.read)).1 in
      let z : cells_of k m rest ≡ y ∷ unwrap_or p [] = ap (λ o. unwrap_or o []) q ∙ onto_value (k.reads x) p y e r in
      record {
        wide = s.size ∙ c.wide;
        count = omega (arith, c.count, s.fewer, h);
        as_long = length-set new at y ∙ c.as_long;
        read = r;
        left = ap (λ l. filled l (cells_of k j more) (set new at y)) h ∙ (ap (λ l. filled (i + 1) (cells_of k j more) (set new l y)) f ∙ (ap (λ xs. filled i xs new) (sym z) ∙ c.left));
      }

  pub copied_all : (n : ℕ) (bs : List ℕ) (old : List C) (i m w : ℕ) (rest : List ℕ) (new : List C) → Copied n bs old i m w rest new → m ≡ 0 → new ≡ listed (cells_of k n bs) old
  copied_all n bs old i m w rest new c z = ap (λ j. filled i (cells_of k j rest) new) (sym z) ∙ c.left

  -- of n cells of bs, those of the last m, whose bytes are at the front of rest, are still to come after those of old, which gave new
  pub record Added (n : ℕ) (bs : List ℕ) (old : List C) (m w : ℕ) (rest : List ℕ) (new : List C) : Type 0 where
    pub wide : w ≡ k.width
    pub read : is_some (cells_read k m rest) ≡ true
    pub left : new ++ cells_of k m rest ≡ old ++ cells_of k n bs

  pub added_none : (n : ℕ) (bs : List ℕ) (old : List C) (m w : ℕ) (rest : List ℕ) (new : List C) → m ≡ n → rest ≡ bs → w ≡ k.width → is_some (cells_read k n bs) ≡ true → new ≡ old → Added n bs old m w rest new
  added_none n bs old m w rest new e f d h o =
      record {
        wide = d;
        read = ap (λ j. is_some (cells_read k j rest)) e ∙ (ap (λ ys. is_some (cells_read k n ys)) f ∙ h);
        left = ap (λ xs. xs ++ cells_of k m rest) o ∙ (ap (λ j. old ++ cells_of k j rest) e ∙ ap (λ ys. old ++ cells_of k n ys) f);
      }

  -- a part that comes reads as a cell
  pub added_reads : (n : ℕ) (bs : List ℕ) (old : List C) (m w : ℕ) (rest : List ℕ) (new : List C) (j v : ℕ) (more x : List ℕ) → Added n bs old m w rest new → Step m w rest j v more x → is_some (k.reads x) ≡ true
  added_reads n bs old m w rest new j v more x c s = (onto_parts (k.reads x) (cells_read k j more) (ap is_some (sym (cells_step m w rest j v more x c.wide s)) ∙ c.read)).0

  pub added_more : (n : ℕ) (bs : List ℕ) (old : List C) (m w : ℕ) (rest : List ℕ) (new : List C) (j v : ℕ) (more x : List ℕ) (y : C) (next : List C) → Added n bs old m w rest new → Step m w rest j v more x → k.reads x ≡ Some y → next ≡ new ++ y ∷ [] → Added n bs old j v more next
  added_more n bs old m w rest new j v more x y next c s e f =
      let p = cells_read k j more in
      let q = cells_step m w rest j v more x c.wide s in
      let r = (onto_parts (k.reads x) p (ap is_some (sym q) ∙ c.read)).1 in
      let z : cells_of k m rest ≡ y ∷ unwrap_or p [] = ap (λ o. unwrap_or o []) q ∙ onto_value (k.reads x) p y e r in
      record {
        wide = s.size ∙ c.wide;
        read = r;
        left = ap (λ xs. xs ++ cells_of k j more) f ∙ (append_assoc new (y ∷ []) (cells_of k j more) ∙ (ap (λ xs. new ++ xs) (sym z) ∙ c.left));
      }

  pub added_all : (n : ℕ) (bs : List ℕ) (old : List C) (m w : ℕ) (rest : List ℕ) (new : List C) → Added n bs old m w rest new → m ≡ 0 → new ≡ old ++ cells_of k n bs
  added_all n bs old m w rest new c z = sym (append-nil new) ∙ (ap (λ j. new ++ cells_of k j rest) (sym z) ∙ c.left)

  -- there are as many cells as were asked for
  pub length_cells : (n : ℕ) (bs : List ℕ) → is_some (cells_read k n bs) ≡ true → length (cells_of k n bs) ≡ n
  length_cells zero bs h = refl
  length_cells (suc n) bs h = length-onto (k.reads (take k.width bs)) (cells_read k n (drop k.width bs)) h (length_cells n (drop k.width bs)) where
    length-onto : (o : Option C) (p : Option (List C)) → is_some (onto o p) ≡ true → (is_some p ≡ true → length (unwrap_or p []) ≡ n) → length (unwrap_or (onto o p) []) ≡ suc n
    length-onto None p h l = absurd (both_ways false refl h)
    length-onto (Some x) None h l = absurd (both_ways false refl h)
    length-onto (Some x) (Some xs) h l = ap suc (l refl)

  -- cell number i is what its own bytes read as
  pub nth_cells : (n : ℕ) (bs : List ℕ) (i : ℕ) → is_some (cells_read k n bs) ≡ true → i < n → slice_get (cells_of k n bs) i ≡ k.reads (take k.width (drop (i * k.width) bs))
  nth_cells zero bs i h l = absurd (omega arith)
  nth_cells (suc n) bs zero h l =
      let o = k.reads (take k.width bs) in
      let p = cells_read k n (drop k.width bs) in
      let z : 0 * k.width ≡ 0 = zero-mul k.width in
      first o p h ∙ ap (λ m. k.reads (take k.width (drop m bs))) (sym z)
  nth_cells (suc n) bs (suc i) h l =
      let o = k.reads (take k.width bs) in
      let p = cells_read k n (drop k.width bs) in
      later o p i h ∙ (nth_cells n (drop k.width bs) i (onto_parts o p h).1 (omega arith) ∙ ap (λ ys. k.reads (take k.width ys)) (drop-drop (i * k.width) k.width bs ∙ ap (λ m. drop m bs) (omega (arith, suc-mul i k.width))))

  -- the bytes after the cells do not matter
  pub cells_read_take : (n : ℕ) (bs : List ℕ) → cells_read k n (take (n * k.width) bs) ≡ cells_read k n bs
  cells_read_take zero bs = refl
  cells_read_take (suc n) bs =
      let w = k.width in
      let e : suc n * w ≡ w + n * w = omega (arith, suc-mul n w) in
      let f : take w (take (suc n * w) bs) ≡ take w bs = take-take w (suc n * w) bs (omega (arith, e)) in
      let d : drop w (take (suc n * w) bs) ≡ take (n * w) (drop w bs) = ap (λ m. drop w (take m bs)) e ∙ drop-take w (n * w) bs in
      ap (λ x. onto (k.reads x) (cells_read k n (drop w (take (suc n * w) bs)))) f
      ∙ ap (λ ys. onto (k.reads (take w bs)) ys) (ap (cells_read k n) d ∙ cells_read_take n (drop w bs))
