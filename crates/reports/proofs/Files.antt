-- The lines of a file, one record after another.
use Rattle.std.proofs.Common.{◌≡◌, ℕ, zero, suc, ◌+◌, ◌<◌, ltb, List, [], ◌∷◌, ◌++◌, length, drop, Some, None, Ok, Err, Option, Result, sym, refl, ap, ◌∙◌, append_assoc, arith}
use Rattle.std.specs.Option.{option_map}
use Rattle.std.proofs.lemmas.List.{append-nil, length-drop}
use Rattle.std.proofs.lemmas.Bool.{cond-true, lt-ltb}
use Rattle.cells.specs.Readings.{Reading}
use Rattle.records.specs.declared.Record.{Record}
use Rattle.records.specs.Entries.{Entry, FaultAt, entry}
use Rattle.records.specs.Fronts.{Front, end, faulty, whole, front, next_answer, handed_on, moved_to}
use Rattle.records.specs.Files.{filed, file_from}
use Rattle.records.proofs.Fronting.{Took, took}
use Rattle.lines.specs.declared.Line.{Line}
use Rattle.lines.specs.declared.Line.TheVariants.{Fault, TooLong}
use Rattle.reports.specs.Reports.{fault_lines, entries_lines, file_lines, report}

-- a reader's answer, where what it found is p
pub answer_is : {o p : Option Record} {a : Result (Option Entry) FaultAt} → o ≡ p → Ok (option_map entry o) ≡ a → Ok (option_map entry p) ≡ a
answer_is e h = ap (λ u. Ok (option_map entry u)) (sym e) ∙ h

-- what a reader's answer tells of what stood before it
at_end : (n : ℕ) (f : Front) → Ok None ≡ next_answer n f → f ≡ end
at_end n end h = refl
at_end n (faulty m) h = absurd cc
at_end n (whole e m) h = absurd cc

at_record : (n : ℕ) (f : Front) (e : Entry) → Ok (Some e) ≡ next_answer n f → (m : ℕ) × (f ≡ whole e m)
at_record n end e h = absurd cc
at_record n (faulty m) e h = absurd cc
at_record n (whole d m) e h = let x : d ≡ e = cc in (m, ap (λ u. whole u m) x)

at_fault : (n : ℕ) (f : Front) (x : FaultAt) → Err x ≡ next_answer n f → (m : ℕ) × (f ≡ faulty m) × (x ≡ record { number = m; at = n })
at_fault n end x h = absurd cc
at_fault n (faulty m) x h = let e : x ≡ record { number = m; at = n } = cc in (m, refl, e)
at_fault n (whole e m) x h = absurd cc

module _ {C : Type 0} (r : Reading C) where
  -- the file from the bytes rest on, by what stands there
  opens : (n at : ℕ) (rest : List ℕ) (f : Front) → length rest < n → front r rest ≡ f → (m : ℕ) × (n ≡ suc m) × (file_from r n at rest ≡ filed at f (λ i. file_from r m (at + i) (drop i rest)))
  opens zero at rest f l e = absurd (omega arith)
  opens (suc m) at rest f l e = (m, refl, ap (λ u. filed at u (λ i. file_from r m (at + i) (drop i rest))) e)

  -- a reader at byte `at` and the bytes rest answered the record e
  module _ (at : ℕ) (rest : List ℕ) {e : Entry} (h : Ok (Some e) ≡ next_answer at (front r rest)) where
    -- it is sound, and took a byte and more
    pub record_took : (m : ℕ) × (front r rest ≡ whole e m) × Took r rest e m
    record_took = let f = at_record at (front r rest) e h in (f.0, f.1, took r rest e f.0 f.1)

    -- so what is left is shorter
    pub shrinks : {after : List ℕ} → after ≡ handed_on rest (front r rest) → length after < length rest
    shrinks {after} q =
        let f = record_took in
        let y : after ≡ drop f.0 rest = q ∙ ap (handed_on rest) f.1 in
        omega (arith, ap length y, length-drop f.0 rest, f.2.some, f.2.within)

-- the lines of an input that is too long
pub report_long : {C S : Type 0} (says : S → Entry → List Line) (next : S → Entry → S) (r : Reading C) (s : S) (bs : List ℕ) → 65535 < length bs → TooLong ∷ [] ≡ report says next r s bs
report_long says next r s bs h = sym (cond-true (ltb 65535 (length bs)) (TooLong ∷ []) _ (lt-ltb 65535 (length bs) h))

-- a report of the bytes bs, begun in the state `start`, has come to the state s, byte `at` and the bytes rest
pub record Reached {C S : Type 0} (says : S → Entry → List Line) (next : S → Entry → S) (r : Reading C) (start : S) (bs : List ℕ) (s : S) (at : ℕ) (rest : List ℕ) (lines : List Line) : Type 0 where
  pub most : ℕ
  pub enough : length rest < most
  pub left : report says next r start bs ≡ lines ++ file_lines says next s (file_from r most at rest)

module _ {C S : Type 0} {says : S → Entry → List Line} {next : S → Entry → S} {r : Reading C} {start : S} {bs : List ℕ} {s : S} {at : ℕ} {rest : List ℕ} {lines : List Line} where
  module _ (c : Reached says next r start bs s at rest lines) where
    -- the reader answered that nothing is left
    pub reached_end : Ok None ≡ next_answer at (front r rest) → lines ≡ report says next r start bs
    reached_end h =
        let o = opens r c.most at rest end c.enough (at_end at (front r rest) h) in
        sym (c.left ∙ (ap (λ u. lines ++ file_lines says next s u) o.2 ∙ append-nil lines))

    -- it answered a fault
    pub reached_fault : {new : List Line} {x : FaultAt} → Err x ≡ next_answer at (front r rest) → new ≡ lines ++ (Fault x.number x.at ∷ []) → new ≡ report says next r start bs
    reached_fault {new} {x} h e =
        let f = at_fault at (front r rest) x h in
        let o = opens r c.most at rest (faulty f.0) c.enough f.1 in
        e ∙ (ap (λ u. lines ++ (Fault u.number u.at ∷ [])) f.2 ∙ sym (c.left ∙ ap (λ u. lines ++ file_lines says next s u) o.2))

    -- it answered the record e, and the report took it up
    pub reached_more : {e : Entry} {t : S} {to : ℕ} {after : List ℕ} {new : List Line} → Ok (Some e) ≡ next_answer at (front r rest) → t ≡ next s e → to ≡ moved_to at (front r rest) → after ≡ handed_on rest (front r rest) → new ≡ lines ++ says s e → Reached says next r start bs t to after new
    reached_more {e} {t} {to} {after} {new} h v p q l =
        let f = record_took r at rest h in
        let m = f.0 in
        let o = opens r c.most at rest (whole e m) c.enough f.1 in
        let n = o.0 in
        let x : to ≡ at + m = p ∙ ap (moved_to at) f.1 in
        let y : after ≡ drop m rest = q ∙ ap (handed_on rest) f.1 in
        let F = file_from r n (at + m) (drop m rest) in
        let body = entries_lines says next (next s e) F.entries in
        let tail = fault_lines F.fault in
        let z : report says next r start bs ≡ new ++ file_lines says next (next s e) F =
        c.left ∙ (ap (λ u. lines ++ file_lines says next s u) o.2 ∙ (ap (λ u. lines ++ u) (append_assoc (says s e) body tail) ∙ (sym (append_assoc lines (says s e) (body ++ tail)) ∙ ap (λ u. u ++ (body ++ tail)) (sym l)))) in
        record {
          most = n;
          enough = omega (arith, c.enough, o.1, ap length y, length-drop m rest, f.2.some, f.2.within);
          left = z ∙ (ap (λ u. new ++ file_lines says next u F) (sym v) ∙ (ap (λ u. new ++ file_lines says next t (file_from r n u (drop m rest))) (sym x) ∙ ap (λ u. new ++ file_lines says next t (file_from r n to u)) (sym y)));
        }
