-- A draft judged tile by tile.
use Rattle.std.proofs.Common.{◌≡◌, ℕ, zero, suc, ◌+◌, ◌*◌, ◌^◌, ◌<◌, ◌≤◌, Bool, true, false, nat_lt, cond, List, [], ◌∷◌, ◌++◌, map, length, get_or, take, drop, set, sum_by, count_by, sym, refl, ap, ◌∙◌, subst, ap₂, arith}
use lib.Lanes.{zip2}
use Rattle.std.specs.List.{AllByRecursion}
use Rattle.std.proofs.Math.Seq.{take-set-lt}
use Rattle.std.proofs.lemmas.Nat.{mul-le}
use Rattle.std.proofs.ByRecursion.{All-from_get_or}
use Rattle.std.proofs.lemmas.List.{take_all, drop_all, append-nil, map-set, set-get_or}
use Rattle.std.proofs.lemmas.List.Sums.{sum_by_more}
use Rattle.std.proofs.lemmas.Bool.{cond-true, cond-false, cond_both, lt-ltb}
use Rattle.grids.specs.declared.Found.{Found}
use Rattle.grids.specs.Kinds.{Kind, Lawful}
use Rattle.grids.specs.Grids.{Grid, Tile, Drawn, Valid, laid}
use Rattle.grids.specs.Places.{Exact, has_place, alignments, heights, widths}
use Rattle.grids.proofs.Exactly.{exactly}
use Rattle.drafts.specs.Tallies.{raised}
use Rattle.engine.specs.Rules.{Rule}
use Rattle.engine.specs.Finding.{finding}
use Rattle.book.specs.declared.Book.{Book}
use Rattle.book.specs.declared.TableEntry.{TableEntry}
use Rattle.book.specs.declared.Verdict.{Verdict}
use Rattle.book.specs.Table.{stopped, size_of, one_more}
use Rattle.book.specs.Models.{sizes, stop_counts, entries_held, no_tile, cut, held, Stored, is_trimmed}
use Rattle.book.specs.Judging.{verdict, stops_after, judged}
use Rattle.book.proofs.Tables.{entry_at, told_at, length_told, tiles_counted, part_tile, part_valid}

-- what a looking rule's bound comes to
pub looks_few : {C : Type 0} (rule : Rule C) (g : Grid C) (t : Tile C) → Drawn g → Valid t → rule.looks g (laid t) ≤ 2 ^ 33
looks_few rule g t d v =
    let a = mul-le (heights g (laid t)) (widths g (laid t)) 2048 2048 (omega (arith, d.few_rows, v.some_rows)) (omega (arith, d.few_cols, v.some_cols)) in
    let b = mul-le t.rows t.cols 32 32 v.few_rows v.few_cols in
    let c = mul-le (alignments g (laid t)) (t.rows * t.cols + 2) 4194304 1026 (omega (arith, a)) (omega (arith, b)) in
    omega (arith, c, rule.bound g t d v)

-- a table in which one entry has one stop more
module _ (b d : Book) (n : ℕ) (h : n < b.count) (is : d.entries ≡ set b.entries n (stopped (entry_at b n))) (same : d.count ≡ b.count) where
  told_raised : {X : Type 0} (f : TableEntry → X) → map f (entries_held d) ≡ set (map f (entries_held b)) n (f (stopped (entry_at b n)))
  told_raised f =
      ap (map f) (ap₂ take same is ∙ take-set-lt b.count b.entries n (stopped (entry_at b n)) h)
      ∙ map-set f (entries_held b) n (stopped (entry_at b n))

  pub sizes_raised : sizes d ≡ sizes b
  sizes_raised = told_raised size_of ∙ (ap (set (sizes b) n) (sym (told_at b size_of n (0, 0) h)) ∙ set-get_or (sizes b) n (0, 0))

  pub stops_raised : stop_counts d ≡ set (stop_counts b) n (one_more (get_or (stop_counts b) n 0))
  stops_raised = told_raised (λ e. e.stops) ∙ ap (λ m. set (stop_counts b) n (one_more m)) (sym (told_at b (λ e. e.stops) n 0 h))

-- the first n stop counts changed by f
abbrev changed : {X : Type 0} → (X → ℕ → ℕ) → List X → List ℕ → ℕ → List ℕ
changed f ts ms n = zip2 f (take n ts) (take n ms) ++ drop n ms

changed_more : {X : Type 0} (f : X → ℕ → ℕ) (ts : List X) (ms : List ℕ) (n : ℕ) (d : X) → n < length ts → n < length ms → set (changed f ts ms n) n (f (get_or ts n d) (get_or (changed f ts ms n) n 0)) ≡ changed f ts ms (suc n)
changed_more f [] ms n d h l = absurd (omega arith)
changed_more f (t ∷ ts) [] n d h l = absurd (omega arith)
changed_more f (t ∷ ts) (m ∷ ms) zero d h l = refl
changed_more f (t ∷ ts) (m ∷ ms) (suc n) d h l = ap (λ xs. f t m ∷ xs) (changed_more f ts ms n d (omega arith) (omega arith))

-- the first n of the tiles ts were tried
pub record Upto {C : Type 0} (k : Kind C) (rule : Rule C) (g : Grid C) (ts : List (Tile C)) (n : ℕ) (b d : Book) (v : Verdict) (x y : ℕ) : Type 0 where
  pub same_sizes : sizes d ≡ sizes b
  pub same_state : is_trimmed d ≡ is_trimmed b
  pub stops : stop_counts d ≡ changed (stops_after k g) ts (stop_counts b) n
  pub found : v.found ≡ count_by (λ t. has_place k g (laid t)) (take n ts)
  pub looks : v.looks ≡ sum_by (λ t. rule.looks g (laid t)) (take n ts)
  pub counts : y ≡ raised x v.looks
  pub few_found : v.found ≤ n
  pub few_looks : v.looks ≤ n * 2 ^ 33

-- the tile with number n is looked for after the first n, in a draft that still shows g
module _ {C : Type 0} {k : Kind C} {rule : Rule C} {g h : Grid C} {b d : Book} {n : ℕ} {v : Verdict} {f : Found} {x y z : ℕ} (cs : List C) (l : n < b.count) (same : h ≡ g) (u : Upto k rule g (held b cs).tiles n b d v x y) (answer : f ≡ finding k rule h (laid (get_or (held d cs).tiles n no_tile))) (few : f.looks ≤ 2 ^ 33) (counts : z ≡ raised y f.looks) where
  abbrev ts : List (Tile C)
  ts = (held b cs).tiles

  abbrev next : Tile C
  next = get_or ts n no_tile

  abbrev has : Bool
  has = has_place k g (laid next)

  found_is : f ≡ finding k rule g (laid next)
  found_is = answer ∙ ap₂ (λ o ss. finding k rule o (laid (get_or (cut ss cs) n no_tile))) same u.same_sizes

  held_in : n < d.count
  held_in = omega (arith, l, length_told b size_of, length_told d size_of, ap length u.same_sizes)

  upto_more : (e : Book) (w : Verdict) → sizes e ≡ sizes d → is_trimmed e ≡ is_trimmed d → stop_counts e ≡ set (stop_counts d) n (stops_after k g next (get_or (stop_counts d) n 0)) → w.found ≡ v.found + cond has 1 0 → w.looks ≡ v.looks + f.looks → Upto k rule g ts (n + 1) b e w x z
  upto_more e w same_sizes same_state stops found looks =
      let long : n < length ts = omega (arith, l, tiles_counted b cs n) in
      let more = changed_more (stops_after k g) ts (stop_counts b) n no_tile long (omega (arith, l, length_told b (λ i. i.stops))) in
      let one : cond has 1 0 ≤ 1 = cond_both has 1 0 (λ i. i ≤ 1) (λ _. omega arith) (λ _. omega arith) in
      let i : suc n ≡ n + 1 = omega arith in
      let looked = ap (λ q. q.looks) found_is in
      record {
        same_sizes = same_sizes ∙ u.same_sizes;
        same_state = same_state ∙ u.same_state;
        stops = stops ∙ (ap (λ ms. set ms n (stops_after k g next (get_or ms n 0))) u.stops ∙ (more ∙ ap (changed (stops_after k g) ts (stop_counts b)) i));
        found = found ∙ (ap (λ m. m + cond has 1 0) u.found ∙ sym (sum_by_more (λ s. cond (has_place k g (laid s)) 1 0) ts n no_tile long));
        looks = looks ∙ (ap₂ (λ m o. m + o) u.looks looked ∙ sym (sum_by_more (λ s. rule.looks g (laid s)) ts n no_tile long));
        counts = omega (arith, counts, u.counts, looks);
        few_found = omega (arith, found, one, u.few_found);
        few_looks = omega (arith, few, looks, u.few_looks);
      }

  -- it is found, and its stop count raised
  pub upto_found : (e : Book) (w : Verdict) → 0 < f.places → e.entries ≡ set d.entries n (stopped (entry_at d n)) → e.count ≡ d.count → e.trimmed ≡ d.trimmed → w ≡ record { found = v.found + 1; looks = v.looks + f.looks } → Upto k rule g ts (n + 1) b e w x z
  upto_found e w p is count state sum =
      let yes : has ≡ true = lt-ltb 0 _ (omega (arith, p, ap (λ q. q.places) found_is)) in
      let m = get_or (stop_counts d) n 0 in
      upto_more e w
      (sizes_raised d e n held_in is count)
      state
      (stops_raised d e n held_in is count ∙ ap (set (stop_counts d) n) (sym (cond-true has (one_more m) m yes)))
      (ap (λ q. q.found) sum ∙ ap (λ i. v.found + i) (sym (cond-true {A = ℕ} has 1 0 yes)))
      (ap (λ q. q.looks) sum)

  -- it isn't, and the book stays
  pub upto_missed : (e : Book) (w : Verdict) → f.places ≤ 0 → e ≡ d → w ≡ record { found = v.found; looks = v.looks + f.looks } → Upto k rule g ts (n + 1) b e w x z
  upto_missed e w p is sum =
      let none : f.places ≡ 0 = omega (arith, p) in
      let no : has ≡ false = ap (nat_lt 0) (sym (ap (λ q. q.places) found_is) ∙ none) in
      let m = get_or (stop_counts d) n 0 in
      let more : v.found ≡ v.found + 0 = omega arith in
      upto_more e w
      (ap sizes is)
      (ap is_trimmed is)
      (ap stop_counts is ∙ (sym (set-get_or (stop_counts d) n 0) ∙ ap (set (stop_counts d) n) (sym (cond-false has (one_more m) m no))))
      (ap (λ q. q.found) sum ∙ (more ∙ ap (λ i. v.found + i) (sym (cond-false {A = ℕ} has 1 0 no))))
      (ap (λ q. q.looks) sum)

module _ {C : Type 0} (k : Kind C) (rule : Rule C) (g : Grid C) (b : Book) (cs : List C) (x : ℕ) where
  -- once all are tried
  pub upto_all : (n : ℕ) (d : Book) (v : Verdict) (y : ℕ) → b.count ≤ n → Upto k rule g (held b cs).tiles n b d v x y → (v ≡ verdict k rule g (held b cs).tiles) × (held d cs ≡ judged k g (held b cs))
  upto_all n d v y h u =
      let ts = (held b cs).tiles in
      let ms = stop_counts b in
      let all = take_all n ts (omega (arith, h, tiles_counted b cs n)) in
      let few : length ms ≤ n = omega (arith, h, length_told b (λ i. i.stops)) in
      let found = u.found ∙ ap (count_by (λ s. has_place k g (laid s))) all in
      let looks = u.looks ∙ ap (sum_by (λ s. rule.looks g (laid s))) all in
      let stops = u.stops ∙ (ap₂ (λ xs ns. zip2 (stops_after k g) xs ns ++ drop n ms) all (take_all n ms few)
      ∙ (ap (λ ns. zip2 (stops_after k g) ts ms ++ ns) (drop_all n ms few) ∙ append-nil (zip2 (stops_after k g) ts ms))) in
      let sizes_same = u.same_sizes in
      let state_same = u.same_state in
      (λ i. record { found = found i; looks = looks i }, λ i. record { tiles = cut (sizes_same i) cs; stops = stops i; trimmed = state_same i; store = cs })

-- of a book whose cells are all in the store, every place that is listed is one, and none is missing
pub all_exact : {C : Type 0} (k : Kind C) (laws : Lawful k) (g : Grid C) (b : Book) (cs : List C) → Stored (held b cs) → AllByRecursion (Exact k g) (held b cs).tiles
all_exact k laws g b cs stored =
    All-from_get_or (Exact k g) (held b cs).tiles no_tile (λ n h.
    let l : n < b.count = omega (arith, h, tiles_counted b cs n) in
    let V : Tile _ → Type 0 = λ t. Valid t in
    exactly k laws g (get_or (held b cs).tiles n no_tile) (subst V (part_tile b cs n l stored _ refl) (part_valid b cs n l stored _ refl)))
