-- What stands at the front of bytes, by what reading the record there answered.
use Rattle.std.proofs.Common.{◌≡◌, ℕ, ◌+◌, ◌-◌, ◌*◌, ◌<◌, ◌≤◌, Bool, ◌&&◌, leb, List, [], ◌∷◌, length, drop, is_some, Some, None, Ok, Err, Option, Result, sym, refl, ap, ◌∙◌, subst, arith}
use Rattle.std.proofs.lemmas.List.{length-drop, drop-drop, length-take-le}
use Rattle.std.proofs.lemmas.Bool.{leb-true, and_parts}
use Rattle.grids.specs.Refusals.{between, unless}
use Rattle.grids.proofs.Refusing.{passed, unless_ok, unless_err}
use Rattle.cells.specs.Readings.{Reading}
use Rattle.readings.specs.CellLists.{cells_read}
use Rattle.readings.proofs.InTurn.{cells_read_take}
use Rattle.records.specs.Marks.{known, limit, size_number}
use Rattle.records.specs.Entries.{Entry, FaultAt}
use Rattle.records.specs.Sound.{Sound}
use Rattle.records.specs.Unread.{Unread}
use Rattle.records.specs.Fronts.{next_answer, handed_on, moved_to, Front, whole, faulty, mark_in, after_mark, rows_in, cols_in, body_size, body_checks, record_fault, entry_in, parted, faulty_or, front}

module _ {C : Type 0} (k : Reading C) (bs : List ℕ) where
  -- a record with no fault is sound and whole
  pub sound : record_fault k bs ≡ None → Sound k (limit (mark_in bs)) (entry_in k (mark_in bs) (after_mark bs)) × (2 + (4 + body_size k (after_mark bs)) ≤ length bs)
  sound h =
      let m = mark_in bs in
      let rest = after_mark bs in
      let count = rows_in rest * cols_in rest in
      let checks = body_checks k (limit m) (size_number m) rest in
      let read : List (Bool × ℕ) = (is_some (cells_read k count (drop 4 rest)), 12) ∷ [] in
      let held : List (Bool × ℕ) = (leb (4 + body_size k rest) (length rest), 11) ∷ read in
      let sized = between 1 (limit m) (rows_in rest) && between 1 (limit m) (cols_in rest) in
      let a = passed (leb 2 (length bs)) 11 ((known m, 10) ∷ checks) h in
      let b = (passed (known m) 10 checks a.1).1 in
      let d = (passed (leb 4 (length rest)) 11 ((sized, size_number m) ∷ held) b).1 in
      let e = passed sized (size_number m) held d in
      let f = passed (leb (4 + body_size k rest) (length rest)) 11 read e.1 in
      let l = leb-true (4 + body_size k rest) (length rest) f.0 in
      let s = and_parts (between 1 (limit m) (rows_in rest)) (between 1 (limit m) (cols_in rest)) e.0 in
      let r = and_parts (leb 1 (rows_in rest)) (leb (rows_in rest) (limit m)) s.0 in
      let c = and_parts (leb 1 (cols_in rest)) (leb (cols_in rest) (limit m)) s.1 in (
        record {
          some_rows = leb-true 1 (rows_in rest) r.0;
          few_rows = leb-true (rows_in rest) (limit m) r.1;
          some_cols = leb-true 1 (cols_in rest) c.0;
          few_cols = leb-true (cols_in rest) (limit m) c.1;
          whole = length-take-le (body_size k rest) (drop 4 rest) (omega (arith, l, length-drop 4 rest));
          read = ap is_some (cells_read_take k count (drop 4 rest)) ∙ (passed (is_some (cells_read k count (drop 4 rest))) 12 [] f.1).0;
        },
        omega (arith, l, leb-true 2 (length bs) a.0, length-drop 2 bs),
      )

front_some : {C : Type 0} (k : Reading C) (bs : List ℕ) → 0 < length bs → front k bs ≡ faulty_or (record_fault k bs) (entry_in k (mark_in bs) (after_mark bs)) (2 + (4 + body_size k (after_mark bs)))
front_some k [] h = absurd (omega arith)
front_some k (b ∷ bs) h = refl

-- a record e was read, and rest was handed on
pub record Parted (bs rest : List ℕ) (e : Entry) (f : Front) : Type 0 where
  pub is : f ≡ whole e (length bs - length rest)
  pub shorter : length rest < length bs
  pub rest_is : rest ≡ drop (length bs - length rest) bs

module _ {C : Type 0} (k : Reading C) (bs : List ℕ) (some : 0 < length bs) where
  pub front_whole : (e : Entry) (rest : List ℕ) → Ok (e, rest) ≡ unless (record_fault k bs) (parted k (mark_in bs) (after_mark bs)) → Parted bs rest e (front k bs)
  front_whole e rest h =
      let u = unless_ok (record_fault k bs) (parted k (mark_in bs) (after_mark bs)) (e, rest) h in
      let n = 2 + (4 + body_size k (after_mark bs)) in
      let l = (sound k bs u.0).1 in
      let entry_is : e ≡ entry_in k (mark_in bs) (after_mark bs) = ap (λ p. p.0) u.1 in
      let r : rest ≡ drop n bs = ap (λ p. p.1) u.1 ∙ drop-drop (4 + body_size k (after_mark bs)) 2 bs in
      let m : n ≡ length bs - length rest = omega (arith, l, ap length r, length-drop n bs) in
      record {
        is = front_some k bs some ∙ (ap (λ o. faulty_or o (entry_in k (mark_in bs) (after_mark bs)) n) u.0 ∙ (ap (λ x. whole x n) (sym entry_is) ∙ ap (whole e) m));
        shorter = omega (arith, l, ap length r, length-drop n bs);
        rest_is = r ∙ ap (λ i. drop i bs) m;
      }

  pub front_faulty : (n : ℕ) → Err n ≡ unless (record_fault k bs) (parted k (mark_in bs) (after_mark bs)) → front k bs ≡ faulty n
  front_faulty n h = front_some k bs some ∙ ap (λ o. faulty_or o (entry_in k (mark_in bs) (after_mark bs)) (2 + (4 + body_size k (after_mark bs)))) (unless_err (record_fault k bs) (parted k (mark_in bs) (after_mark bs)) n h)

-- what reading answers and leaves, where u is unread
pub record Read {C : Type 0} (k : Reading C) (u : Unread) (answer : Result (Option Entry) FaultAt) (v : Unread) : Type 0 where
  pub answer_is : answer ≡ next_answer u.at (front k u.bytes)
  pub bytes_is : v.bytes ≡ handed_on u.bytes (front k u.bytes)
  pub at_is : v.at ≡ moved_to u.at (front k u.bytes)

module _ {C : Type 0} (k : Reading C) (bs : List ℕ) (n : ℕ) (u : Unread) (is : record { bytes = bs; at = n } ≡ u) where
  -- a record was read: the reader stands after it
  pub read_whole : (rest : List ℕ) (e : Entry) → Parted bs rest e (front k bs) → Read k u (Ok (Some e)) (record { bytes = rest; at = n + (length bs - length rest) })
  read_whole rest e p =
      subst (λ w. Read k w (Ok (Some e)) (record { bytes = rest; at = n + (length bs - length rest) })) is
      (record {
        answer_is = ap (next_answer n) (sym p.is);
        bytes_is = p.rest_is ∙ ap (handed_on bs) (sym p.is);
        at_is = ap (moved_to n) (sym p.is);
      })

  -- a fault was met: the reader stays
  pub read_fault : (m : ℕ) → front k bs ≡ faulty m → Read k u (Err (record { number = m; at = n })) u
  read_fault m e =
      subst (λ w. Read k w (Err (record { number = m; at = n })) w) is
      (record { answer_is = ap (next_answer n) (sym e); bytes_is = ap (handed_on bs) (sym e); at_is = ap (moved_to n) (sym e) })

-- the record at the front is sound, and takes a byte and more
pub record Took {C : Type 0} (k : Reading C) (bs : List ℕ) (e : Entry) (m : ℕ) : Type 0 where
  pub sound : Sound k (limit e.mark) e
  pub some : 1 ≤ m
  pub within : m ≤ length bs

took_or : {C : Type 0} (k : Reading C) (bs : List ℕ) (o : Option ℕ) (e : Entry) (m : ℕ) → record_fault k bs ≡ o → faulty_or o (entry_in k (mark_in bs) (after_mark bs)) (2 + (4 + body_size k (after_mark bs))) ≡ whole e m → Took k bs e m
took_or k bs (Some n) e m h f = absurd cc
took_or k bs None e m h f =
    let s = sound k bs h in
    let x : entry_in k (mark_in bs) (after_mark bs) ≡ e = cc in
    let y : 2 + (4 + body_size k (after_mark bs)) ≡ m = cc in
    record { sound = subst (λ i. Sound k (limit i.mark) i) x s.0; some = omega (arith, y); within = omega (arith, y, s.1) }

pub took : {C : Type 0} (k : Reading C) (bs : List ℕ) (e : Entry) (m : ℕ) → front k bs ≡ whole e m → Took k bs e m
took k [] e m h = absurd cc
took k (b ∷ bs) e m h = took_or k (b ∷ bs) (record_fault k (b ∷ bs)) e m refl h
