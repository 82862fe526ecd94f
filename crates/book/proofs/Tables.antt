-- The entries of a book's table.
use Rattle.std.proofs.Common.{◌≡◌, ℕ, ◌+◌, ◌-◌, ◌^◌, ◌<◌, ◌≤◌, List, [], ◌∷◌, map, length, get_or, take, drop, sum_by, sym, refl, ap, ap₂, ◌∙◌, subst, arith}
use Rattle.std.specs.List.{insert}
use Rattle.std.proofs.lemmas.Nat.{mul-le}
use Rattle.std.proofs.lemmas.List.Edits.{length-insert}
use Rattle.std.proofs.ByRecursion.{All-get_or, All-from_get_or}
use Rattle.std.proofs.lemmas.List.Elements.{All-from_get_or as Each-from_get_or}
use Rattle.std.proofs.lemmas.List.{length-take-le, length-drop, length-map, get_or-map, get_or-take, take-take, take-map}
use Rattle.std.proofs.lemmas.List.Sums.{sum_by_more, sum_by-take-le, sum_by-cons, sum_by-le}
use Rattle.grids.specs.Grids.{Valid, tile}
use Rattle.book.specs.declared.Book.{Book}
use Rattle.book.specs.declared.TableEntry.{TableEntry}
use Rattle.book.specs.Table.{Sized, no_entry, size_of, area}
use Rattle.book.specs.Models.{entries_held, sizes, cut, held, Stored, no_tile}
use Rattle.book.proofs.Cuts.{length_cut, cut_at, cells_cut}
use Rattle.book.proofs.Inserts.{put_items, take_put_item, all_inserted}

-- the entry with a number
abbrev pub entry_at : Book → ℕ → TableEntry
entry_at b n = get_or b.entries n no_entry

pub area_few : (e : TableEntry) → Sized e → area (size_of e) ≤ 1024
area_few e s = mul-le e.rows e.cols 32 32 s.1 s.3

sum_by_sizes : (es : List TableEntry) → sum_by (λ e. area (size_of e)) es ≡ sum_by area (map size_of es)
sum_by_sizes [] = refl
sum_by_sizes (e ∷ es) = sum_by-cons (λ e. area (size_of e)) e es ∙ (ap (λ n. area (size_of e) + n) (sum_by_sizes es) ∙ sym (sum_by-cons area (size_of e) (map size_of es)))

module _ (b : Book) where
  length-held : length (entries_held b) ≡ b.count
  length-held = length-take-le b.count b.entries (omega (arith, b.few, b.long))

  -- what is told of each entry that is held
  module _ {X : Type 0} (f : TableEntry → X) where
    pub length_told : length (map f (entries_held b)) ≡ b.count
    length_told = length-map (entries_held b) f ∙ length-held

    pub told_at : (n : ℕ) (d : X) → n < b.count → get_or (map f (entries_held b)) n d ≡ f (entry_at b n)
    told_at n d h = get_or-map f (entries_held b) n no_entry d (omega (arith, h, length-held)) ∙ ap f (get_or-take b.count b.entries n no_entry h)

  -- the sum of the first n entries' cells
  pub table_few : (n : ℕ) → n ≤ b.count → sum_by (λ e. area (size_of e)) (take n b.entries) < 2 ^ 64
  table_few n h =
      let long = length-take-le n b.entries (omega (arith, b.few, b.long)) in
      let all = Each-from_get_or (λ e. area (size_of e) ≤ 1024) (take n b.entries) no_entry (λ i l. let m : i < n = omega arith in rw (get_or-take n b.entries i no_entry m) (area_few (entry_at b i) (b.sized i (omega arith)))) in
      omega (arith, sum_by-le (λ e. area (size_of e)) 1024 (take n b.entries) all)

  pub table_start : (n : ℕ) → n ≤ b.count → sum_by (λ e. area (size_of e)) (take n b.entries) ≡ sum_by area (take n (sizes b))
  table_start n h = sum_by_sizes (take n b.entries) ∙ ap (sum_by area) (ap (map size_of) (sym (take-take n b.count b.entries h)) ∙ sym (take-map size_of n (entries_held b)))

  -- where the cells of the next tile begin
  pub start_more : (n : ℕ) → n < b.count → sum_by area (take (n + 1) (sizes b)) ≡ sum_by area (take n (sizes b)) + area (size_of (entry_at b n))
  start_more n h = sum_by_more area (sizes b) n (0, 0) (omega (arith, h, length_told size_of)) ∙ ap (λ s. sum_by area (take n (sizes b)) + area s) (told_at size_of n (0, 0) h)

  -- a tile's cells end within the cells held
  pub ends_within : (n : ℕ) → n < b.count → sum_by area (take n (sizes b)) + area (size_of (entry_at b n)) ≤ sum_by area (sizes b)
  ends_within n h = omega (arith, start_more n h, sum_by-take-le area (sizes b) (n + 1))

  pub part_fits : (n : ℕ) → n < b.count → sum_by area (take n (sizes b)) + area (size_of (entry_at b n)) < 2 ^ 64
  part_fits n h = omega (arith, start_more n h, table_start (n + 1) (omega arith), table_few (n + 1) (omega arith))

module _ {C : Type 0} (b : Book) (cs : List C) (n : ℕ) where
  pub tiles_counted : length (cut (sizes b) cs) ≡ b.count
  tiles_counted = length_cut (sizes b) cs ∙ length_told b size_of

  -- the part of the store that a number's cells are
  pub part_is : (i m : ℕ) → i ≡ sum_by area (take n (sizes b)) → m ≡ area (size_of (entry_at b n)) → take ((i + m) - i) (drop i cs) ≡ take (area (size_of (entry_at b n))) (drop (sum_by area (take n (sizes b))) cs)
  part_is i m e f = let long : (i + m) - i ≡ area (size_of (entry_at b n)) = omega arith in ap₂ (λ j l. take j (drop l cs)) long e

  -- the tile with a number, where its cells are a part of the store
  module _ (h : n < b.count) (stored : Stored (held b cs)) where
    pub part_within : sum_by area (take n (sizes b)) + area (size_of (entry_at b n)) ≤ length cs
    part_within = omega (arith, ends_within b n h, cells_cut (sizes b) cs, stored)

    module _ (cells : List C) (e : cells ≡ take (area (size_of (entry_at b n))) (drop (sum_by area (take n (sizes b))) cs)) where
      pub part_tile : tile (entry_at b n).rows (entry_at b n).cols cells ≡ get_or (cut (sizes b) cs) n no_tile
      part_tile =
          ap (tile (entry_at b n).rows (entry_at b n).cols) e
          ∙ (ap (λ s. tile s.0 s.1 (take (area s) (drop (sum_by area (take n (sizes b))) cs))) (sym (told_at b size_of n (0, 0) h))
          ∙ sym (cut_at (sizes b) cs n no_tile (0, 0) (omega (arith, h, length_told b size_of))))

      pub part_valid : Valid (tile (entry_at b n).rows (entry_at b n).cols cells)
      part_valid =
          let s = b.sized n h in
          record {
            some_rows = s.0;
            few_rows = s.1;
            some_cols = s.2;
            few_cols = s.3;
            whole = ap length e ∙ length-take-le (area (size_of (entry_at b n))) (drop (sum_by area (take n (sizes b))) cs) (omega (arith, part_within, length-drop (sum_by area (take n (sizes b))) cs));
          }

-- the table with one entry more
module _ (b : Book) (n : ℕ) (e : TableEntry) (es : List TableEntry) (few : b.count < 32) (within : n ≤ b.count) (is : es ≡ put_items b.entries n b.count (e ∷ [])) where
  pub put_held : take (b.count + 1) es ≡ insert (entries_held b) n e
  put_held = ap (take (b.count + 1)) is ∙ take_put_item b.entries e n b.count within (omega (arith, few, b.long))

  pub put_sized : Sized e → (i : ℕ) → i < b.count + 1 → Sized (get_or es i no_entry)
  put_sized sized i h =
      let all = all_inserted Sized (entries_held b) n e sized (All-from_get_or Sized (entries_held b) no_entry (λ j l. let m : j < b.count = omega (arith, l, length-held b) in subst Sized (sym (get_or-take b.count b.entries j no_entry m)) (b.sized j m))) in
      let long = length-insert (entries_held b) n e (omega (arith, within, length-held b)) in
      subst Sized (sym (ap (λ xs. get_or xs i no_entry) put_held) ∙ get_or-take (b.count + 1) es i no_entry h) (All-get_or Sized (insert (entries_held b) n e) i no_entry (omega (arith, long, length-held b, h)) all)
