-- A search that is over, and what its answer says.
use Rattle.std.proofs.Common.{◌≡◌, ℕ, length, Ok, None, Option, sym, ap, ◌∙◌, subst, arith}
use Rattle.grids.specs.declared.Found.{Found}
use Rattle.grids.specs.Kinds.{Kind}
use Rattle.grids.specs.Grids.{Grid, Tile, laid}
use Rattle.grids.specs.Places.{places, spots, heights, widths}
use Rattle.grids.specs.Listed.{listed}
use Rattle.grids.specs.Refusals.{first_failed, unless, kept_or}
use Rattle.grids.proofs.Refusing.{unless_ok, failed_then}
use Rattle.grids.proofs.Writing.{filled-listed}
use Rattle.drafts.specs.Tallies.{raised}
use Rattle.engine.specs.Views.{viewed}
use Rattle.engine.specs.Finding.{tile_checks, work_checks, find_refusal, finding}
use Rattle.plain.specs.declared.Search.{Search}
use Rattle.plain.specs.Looks.{plain_looks, plain_rule}
use Rattle.plain.specs.Progress.{Done}

module _ {C D : Type 0} (k : Kind C) (shows : D → Grid C) (tally : D → ℕ) (a b : Search C D) where
  abbrev g : Grid C
  g = shows a.draft.now

  -- what find answers and leaves for the tile t and the refusal o, where b is the end of the search a
  pub record Answered (o : Option ℕ) (t : Tile C) : Type 0 where
    pub answer : Ok b.found ≡ unless o (finding k (plain_rule k) g (laid t))
    pub listing : b.list.now ≡ kept_or o a.list.now (listed (places k g (laid t)) a.list.now)
    pub counts : tally b.draft.now ≡ kept_or o (tally a.draft.now) (raised (tally a.draft.now) (plain_looks k g (laid t)))

  -- the tile and the work table passed their checks, and the search, which began with nothing found, has been at each alignment
  pub done_all : (t : Tile C) (w : ℕ) → Ok (viewed a.tile.view) ≡ unless (first_failed (tile_checks t)) t → Ok (tt {0}) ≡ unless (first_failed (work_checks w)) (tt {0}) → (a.found.places ≡ 0) × (a.found.looks ≡ 0) → Done k shows tally (spots (heights g (laid (viewed a.tile.view))) (widths g (laid (viewed a.tile.view)))) a b → Answered (find_refusal t w) t
  done_all t w tile_passed work_passed new d =
      let p = unless_ok (first_failed (tile_checks t)) t (viewed a.tile.view) tile_passed in
      let q = unless_ok (first_failed (work_checks w)) (tt {0}) (tt {0}) work_passed in
      let none : find_refusal t w ≡ None = failed_then (tile_checks t) (work_checks w) p.0 ∙ q.0 in
      let P : Option ℕ → Type 0 = λ o. Answered o t in
      let F : ℕ → ℕ → Found = λ m n. record { places = m; looks = n } in
      let x : b.found.places ≡ length (places k g (laid (viewed a.tile.view))) = omega (arith, d.places) in
      let y : b.found.looks ≡ plain_looks k g (laid (viewed a.tile.view)) = omega (arith, d.looks) in
      subst P (sym none) (subst (Answered None) p.1 (record {
        answer = ap Ok (ap (λ n. F n b.found.looks) x ∙ ap (F (length (places k g (laid (viewed a.tile.view))))) y);
        listing = let f = filled-listed (places k g (laid (viewed a.tile.view))) a.list.now in cc;
        counts = d.counts;
      }))
