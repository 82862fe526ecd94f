-- A search that goes on: one part more, over a draft that still shows the same grid.
use Rattle.std.proofs.Common.{ℕ, ◌≡◌, ◌+◌, List, ◌++◌, length, filter, sum_by, ap, ◌∙◌, arith, length-append}
use Rattle.std.proofs.lemmas.List.Elements.{filter-append}
use Rattle.std.proofs.lemmas.List.Sums.{sum_by-append}
use Rattle.grids.specs.declared.Position.{Position}
use Rattle.grids.specs.Kinds.{Kind}
use Rattle.grids.specs.Grids.{Grid, laid}
use Rattle.grids.specs.Places.{lies}
use Rattle.grids.proofs.Writing.{filled-append}
use Rattle.engine.specs.Views.{viewed}
use Rattle.plain.specs.declared.Search.{Search}
use Rattle.plain.specs.Looks.{compared}
use Rattle.plain.specs.Progress.{Done, places_at, looks_at}

module _ {C D : Type 0} {k : Kind C} {shows : D → Grid C} {tally : D → ℕ} where
  pub done_more : {xs ys zs : List Position} {a b c : Search C D} → zs ≡ xs ++ ys → Done k shows tally xs a b → Done k shows tally ys b c → Done k shows tally zs a c
  done_more {xs} {ys} {zs} {a} {b} {c} z d e =
      let t = ap (λ v. laid (viewed v.view)) d.tile in
      let h : places_at k shows b ys ≡ places_at k shows a ys = ap (λ u. filter (lies k u (laid (viewed b.tile.view))) ys) d.same ∙ ap (λ u. filter (lies k (shows a.draft.now) u) ys) t in
      let l : looks_at k shows b ys ≡ looks_at k shows a ys = ap (λ u. sum_by (compared k u (laid (viewed b.tile.view))) ys) d.same ∙ ap (λ u. sum_by (compared k (shows a.draft.now) u) ys) t in
      let kept : places_at k shows a zs ≡ places_at k shows a xs ++ places_at k shows a ys = ap (places_at k shows a) z ∙ filter-append (lies k (shows a.draft.now) (laid (viewed a.tile.view))) xs ys in
      let all : looks_at k shows a zs ≡ looks_at k shows a xs + looks_at k shows a ys = ap (looks_at k shows a) z ∙ sum_by-append (compared k (shows a.draft.now) (laid (viewed a.tile.view))) xs ys in
      let n = ap length kept ∙ length-append (places_at k shows a xs) (places_at k shows a ys) in
      let m = ap length z ∙ length-append xs ys in
      record {
        draft = e.draft ∙ d.draft;
        list = e.list ∙ d.list;
        tile = e.tile ∙ d.tile;
        same = e.same ∙ d.same;
        places = omega (arith, d.places, e.places, ap length h, n);
        looks = omega (arith, d.looks, e.looks, l, all);
        listing = let f = filled-append a.found.places (places_at k shows a xs) (places_at k shows a ys) a.list.now in cc;
        counts = omega (arith, d.counts, e.counts, l, all);
        few_places = omega (arith, d.few_places, e.few_places, m);
        few_looks = omega (arith, d.few_looks, e.few_looks, m);
      }
