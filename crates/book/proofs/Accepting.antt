-- Which tiles are entered or handed out, and when a draft is judged.
use Rattle.std.proofs.Common.{◌≡◌, ℕ, ◌+◌, ◌<◌, ◌≤◌, Bool, true, false, not, eqb, ltb, leb, List, [], ◌∷◌, length, Some, None, Ok, Err, sym, refl, ap, ◌∙◌}
use Rattle.std.proofs.lemmas.Bool.{le-ltb, lt-ltb, ltb-true, lt-leb, le-leb, leb-true, not-true, not-false}
use Rattle.grids.specs.Kinds.{Kind}
use Rattle.grids.specs.Grids.{Tile, Valid}
use Rattle.grids.specs.Refusals.{first_failed, unless}
use Rattle.grids.proofs.Refusing.{failed_first, failed_then, passed, passed_both, unless_ok, unless_err, unless_none, unless_some}
use Rattle.engine.specs.Finding.{tile_checks}
use Rattle.engine.proofs.Accepting.{valid_checked}
use Rattle.book.specs.Models.{Held, tile_area, cells_held}
use Rattle.book.specs.Progress.{store_refusal}
use Rattle.book.specs.Entering.{times_held, insertion_point, enter_refusal, enter_answer}
use Rattle.book.specs.Judging.{judge_refusal}

module _ {C : Type 0} (k : Kind C) (s : Held C) (t : Tile C) where
  -- what is checked after the tile itself
  abbrev book_checks : List (Bool × ℕ)
  book_checks =
      (ltb (length s.tiles) 32, 4)
      ∷ (leb (cells_held s.tiles + tile_area t) (length s.store), 7)
      ∷ (eqb (times_held k t s.tiles) 0, 3)
      ∷ []

  -- what enter answers of a tile v that passed its own checks
  module _ (v : Tile C) (checked : Ok v ≡ unless (first_failed (tile_checks t)) t) where
    none : first_failed (tile_checks t) ≡ None
    none = (unless_ok _ t v checked).0

    pub full : 32 ≤ length s.tiles → Err 4 ≡ enter_answer k s t
    full h = unless_some (enter_refusal k s t) 4 _ (failed_then (tile_checks t) book_checks none ∙ rw (le-ltb (length s.tiles) 32 h) refl)

    module _ (few : length s.tiles < 32) where
      room_first : enter_refusal k s t ≡ first_failed ((leb (cells_held s.tiles + length t.cells) (length s.store), 7) ∷ (eqb (times_held k t s.tiles) 0, 3) ∷ [])
      room_first = failed_then (tile_checks t) book_checks none ∙ rw (lt-ltb (length s.tiles) 32 few, (valid_checked t none).whole) refl

      pub short : (n : ℕ) → Err n ≡ unless (store_refusal s (length t.cells)) s → enter_refusal k s t ≡ Some n
      short n h = room_first ∙ failed_first ((leb (cells_held s.tiles + length t.cells) (length s.store), 7) ∷ []) ((eqb (times_held k t s.tiles) 0, 3) ∷ []) n (unless_err (store_refusal s (length t.cells)) s n h)

      -- u is what the book and the store hold, where the store has room
      module _ (u : Held C) (stored : Ok u ≡ unless (store_refusal s (length t.cells)) s) where
        new_last : enter_refusal k s t ≡ first_failed ((eqb (times_held k t u.tiles) 0, 3) ∷ [])
        new_last =
            let room = unless_ok (store_refusal s (length t.cells)) s u stored in
            room_first ∙ (failed_then ((leb (cells_held s.tiles + length t.cells) (length s.store), 7) ∷ []) ((eqb (times_held k t s.tiles) 0, 3) ∷ []) room.0 ∙ ap (λ h. first_failed ((eqb (times_held k t h.tiles) 0, 3) ∷ [])) (sym room.1))

        pub already : true ≡ not (eqb (times_held k t u.tiles) 0) → Err 3 ≡ enter_answer k s t
        already h = unless_some (enter_refusal k s t) 3 _ (new_last ∙ rw (not-true _ (sym h)) refl)

        pub taken : (n : ℕ) → false ≡ not (eqb (times_held k t u.tiles) 0) → n ≡ insertion_point k t u.tiles → Ok n ≡ enter_answer k s t
        taken n h e = unless_none (enter_refusal k s t) n _ (new_last ∙ rw (not-false _ (sym h)) refl) (e ∙ ap (λ h. insertion_point k t h.tiles) (unless_ok (store_refusal s (length t.cells)) s u stored).1)

  -- what holds of a tile that is not refused
  pub accepted : enter_refusal k s t ≡ None → Valid t × (length s.tiles < 32) × (cells_held s.tiles + tile_area t ≤ length s.store)
  accepted e =
      let few = ltb (length s.tiles) 32 in
      let room = leb (cells_held s.tiles + tile_area t) (length s.store) in
      let new : List (Bool × ℕ) = (eqb (times_held k t s.tiles) 0, 3) ∷ [] in
      let both = passed_both (tile_checks t) book_checks e in
      let first = passed few 4 ((room, 7) ∷ new) both.1 in
      let second = passed room 7 new first.1 in
      (valid_checked t both.0, ltb-true (length s.tiles) 32 first.0, leb-true (cells_held s.tiles + tile_area t) (length s.store) second.0)

-- what holds where judge is not refused
module _ {C : Type 0} (s : Held C) (w : ℕ) where
  pub judge_accepted : judge_refusal s w ≡ None → (cells_held s.tiles ≤ length s.store) × (12288 ≤ w)
  judge_accepted e =
      let room : List (Bool × ℕ) = (leb 12288 w, 8) ∷ [] in
      let first = passed (leb (cells_held s.tiles) (length s.store)) 7 room e in
      (leb-true (cells_held s.tiles) (length s.store) first.0, leb-true 12288 w (passed (leb 12288 w) 8 [] first.1).0)

-- whether a store has room
module _ {C : Type 0} (s : Held C) (m : ℕ) where
  pub has_room : cells_held s.tiles + m ≤ length s.store → store_refusal s m ≡ None
  has_room h = rw (le-leb (cells_held s.tiles + m) (length s.store) h) refl

  pub no_room : length s.store < cells_held s.tiles + m → store_refusal s m ≡ Some 7
  no_room h = rw (lt-leb (cells_held s.tiles + m) (length s.store) h) refl
