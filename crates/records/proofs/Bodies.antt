-- A record's body, by the values that reading it meets.
use Rattle.std.proofs.Common.{◌≡◌, ℕ, ◌+◌, ◌*◌, ◌≤◌, true, false, ◌&&◌, leb, List, length, take, drop, is_some, Some, None, sym, refl, ap, ◌∙◌, arith}
use Rattle.std.proofs.lemmas.List.{length-drop, drop-drop}
use Rattle.std.proofs.lemmas.Bool.{le-leb}
use Rattle.grids.specs.Refusals.{first_failed, between}
use Rattle.cells.specs.Readings.{Reading}
use Rattle.readings.specs.CellLists.{cells_read}
use Rattle.records.specs.Marks.{Mark}
use Rattle.records.specs.Entries.{Entry}
use Rattle.records.specs.Fronts.{rows_in, cols_in, body_size, body_checks, entry_in}

-- the size and the body that were read from bs, which follow the mark, where they are whole
pub record Header {C : Type 0} (k : Reading C) (most : ℕ) (bs body : List ℕ) (rows cols w : ℕ) : Type 0 where
  pub long : 4 ≤ length bs
  pub body_is : body ≡ drop 4 bs
  pub rows_is : rows ≡ rows_in bs
  pub cols_is : cols ≡ cols_in bs
  pub width_is : w ≡ k.width
  pub sized : (between 1 most rows && between 1 most cols) ≡ true
  pub whole : rows * cols * w ≤ length body

module _ {C : Type 0} (k : Reading C) (most bad : ℕ) (bs body : List ℕ) (rows cols w : ℕ) (h : Header k most bs body rows cols w) where
  count_is : rows * cols ≡ rows_in bs * cols_in bs
  count_is = ap (λ n. n * cols) h.rows_is ∙ ap (λ n. rows_in bs * n) h.cols_is

  size_is : rows * cols * w ≡ body_size k bs
  size_is = ap (λ n. n * w) count_is ∙ ap (λ n. rows_in bs * cols_in bs * n) h.width_is

  header_ok : leb 4 (length bs) ≡ true
  header_ok = le-leb 4 (length bs) h.long

  size_ok : (between 1 most (rows_in bs) && between 1 most (cols_in bs)) ≡ true
  size_ok = ap (λ n. between 1 most n && between 1 most (cols_in bs)) (sym h.rows_is) ∙ (ap (λ n. between 1 most rows && between 1 most n) (sym h.cols_is) ∙ h.sized)

  whole_ok : leb (4 + body_size k bs) (length bs) ≡ true
  whole_ok = le-leb (4 + body_size k bs) (length bs) (omega (arith, size_is, h.whole, ap length h.body_is, length-drop 4 bs, h.long))

  pub read_is : is_some (cells_read k (rows * cols) body) ≡ is_some (cells_read k (rows_in bs * cols_in bs) (drop 4 bs))
  read_is = ap (λ n. is_some (cells_read k n body)) count_is ∙ ap (λ xs. is_some (cells_read k (rows_in bs * cols_in bs) xs)) h.body_is

  pub body_passes : is_some (cells_read k (rows * cols) body) ≡ true → first_failed (body_checks k most bad bs) ≡ None
  body_passes r = rw (header_ok, size_ok, whole_ok, sym read_is ∙ r) refl

  pub body_unread : is_some (cells_read k (rows * cols) body) ≡ false → first_failed (body_checks k most bad bs) ≡ Some 12
  body_unread r = rw (header_ok, size_ok, whole_ok, sym read_is ∙ r) refl

  pub entry_is : (m : Mark) (cells : List ℕ) → cells ≡ take (rows * cols * w) body → ◌≡◌ {A = Entry} (record { mark = m; rows = rows; cols = cols; bytes = cells }) (entry_in k m bs)
  entry_is m cells e =
      let E : ℕ → ℕ → List ℕ → Entry = λ r c xs. record { mark = m; rows = r; cols = c; bytes = xs } in
      ap (λ r. E r cols cells) h.rows_is ∙ (ap (λ c. E (rows_in bs) c cells) h.cols_is ∙ ap (E (rows_in bs) (cols_in bs)) (e ∙ (ap (λ n. take n body) size_is ∙ ap (take (body_size k bs)) h.body_is)))

  pub rest_is : (rest : List ℕ) → rest ≡ drop (rows * cols * w) body → rest ≡ drop (4 + body_size k bs) bs
  rest_is rest e = e ∙ (ap (λ n. drop n body) size_is ∙ (ap (drop (body_size k bs)) h.body_is ∙ drop-drop (body_size k bs) 4 bs))
