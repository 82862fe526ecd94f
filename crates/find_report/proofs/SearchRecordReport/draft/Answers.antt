use Rattle.std.proofs.Common.{◌≡◌, ◌+◌, ◌<◌, ◌≤◌, length, get_or, sym, ap, ◌∙◌, subst, arith, rules}
use Rattle.std.proofs.lemmas.List.{length-take-le, take_at}
use Rattle.grids.specs.Grids.{Valid, tile}
use Rattle.grids.specs.Refusals.{numbered}
use Rattle.find_report.specs.declared.Size.{Size}
use Rattle.find_report.specs.Kept.{cut}
use Rattle.find_report.proofs.Keeping.{Left, first_whole, length_cut, next_valid, next_is, next_left}
use Rattle.find_report.proofs.Searching.{all_fit, searched_more, searched_all}
use Rattle.find_report.proofs.SearchRecordReport.draft.Goals as goal

pub split_at-requires : goal.split_at-requires
split_at-requires g c =
    let s = c.args.self.now in
    let zs = s.sizes.items in
    let cs = s.cells.items in
    let n = c.loop-n.n in
    let d : Size = record { rows = 0; cols = 0 } in
    let items = c.deref-size-items.result.now in
    let z = get_or items n d in
    let e : z ≡ get_or zs n d = ap (λ l. get_or l n d) c.deref-size-items.ensures.value in
    let l : n < length zs = omega (arith, c.loop-n-test.true, ap length c.deref-size-items.ensures.value) in
    let left = c.loop-n.invariant.1 in
    let valid = next_valid zs cs n c.loop-n.rest.now left z d l e in
    first_whole z c.loop-n.rest.now valid

pub unwrap-places-requires : goal.unwrap-places-requires
unwrap-places-requires g c =
    let s = c.args.self.now in
    let zs = s.sizes.items in
    let cs = s.cells.items in
    let n = c.loop-n.n in
    let d : Size = record { rows = 0; cols = 0 } in
    let items = c.deref-size-items.result.now in
    let z = get_or items n d in
    let e : z ≡ get_or zs n d = ap (λ l. get_or l n d) c.deref-size-items.ensures.value in
    let l : n < length zs = omega (arith, c.loop-n-test.true, ap length c.deref-size-items.ensures.value) in
    let left = c.loop-n.invariant.1 in
    let valid = next_valid zs cs n c.loop-n.rest.now left z d l e in
    let whole : Valid (tile z.rows z.cols c.split_at.result.0.now) = subst (λ xs. Valid (tile z.rows z.cols xs)) (sym c.split_at.ensures.front) valid in
    let room : 12288 ≤ length c.loop-n.work = c.loop-n.invariant.2 in
    search rules

pub slice_bounds-push_places-end : goal.slice_bounds-push_places-end
slice_bounds-push_places-end g c =
    let s = c.args.self.now in
    let zs = s.sizes.items in
    let cs = s.cells.items in
    let n = c.loop-n.n in
    let d : Size = record { rows = 0; cols = 0 } in
    let items = c.deref-size-items.result.now in
    let z = get_or items n d in
    let e : z ≡ get_or zs n d = ap (λ l. get_or l n d) c.deref-size-items.ensures.value in
    let l : n < length zs = omega (arith, c.loop-n-test.true, ap length c.deref-size-items.ensures.value) in
    let left = c.loop-n.invariant.1 in
    let valid = next_valid zs cs n c.loop-n.rest.now left z d l e in
    let whole : Valid (tile z.rows z.cols c.split_at.result.0.now) = subst (λ xs. Valid (tile z.rows z.cols xs)) (sym c.split_at.ensures.front) valid in
    all_fit g.C.Cell.kind g.E.Engine.rule _ (g.D.Draft.shows c.loop-n.draft) (cut zs cs) n c.loop-n.list _ _ c.loop-n.invariant.0 (tile z.rows z.cols c.split_at.result.0.now) _ c.unwrap-places.result c.find.new.list whole (ap numbered (sym c.unwrap-places.ensures) ∙ c.find.ensures.answer) c.find.ensures.listing

pub slice_bounds-push_places-end-in-loop-n : goal.slice_bounds-push_places-end-in-loop-n
slice_bounds-push_places-end-in-loop-n g c =
    let fits = slice_bounds-push_places-end g c in
    omega (arith, length-take-le c.unwrap-places.result.places c.find.new.list fits)

pub invariant_of-self-in-Break-branch-2 : goal.invariant_of-self-in-Break-branch-2
invariant_of-self-in-Break-branch-2 g c =
    let w = c.args.self.now.work in
    let as_long : length c.find.new.work ≡ w.len = omega (arith, c.find.auto.work, c.loop-n.auto.work, c.as_mut_slice-work.ensures.len) in
    let room : 12288 ≤ length c.find.new.work = omega (arith, c.find.auto.work, c.loop-n.invariant.2) in
    record { room = subst (λ l. 12288 ≤ length l) (sym (take_at c.find.new.work _ w.len as_long)) room; kept = c.args.self.now.kept }

pub invariant_of-self-in-Break-branch-3 : goal.invariant_of-self-in-Break-branch-3
invariant_of-self-in-Break-branch-3 g c =
    let w = c.args.self.now.work in
    let as_long : length c.find.new.work ≡ w.len = omega (arith, c.find.auto.work, c.loop-n.auto.work, c.as_mut_slice-work.ensures.len) in
    let room : 12288 ≤ length c.find.new.work = omega (arith, c.find.auto.work, c.loop-n.invariant.2) in
    record { room = subst (λ l. 12288 ≤ length l) (sym (take_at c.find.new.work _ w.len as_long)) room; kept = c.args.self.now.kept }

pub loop-n-preserved : goal.loop-n-preserved
loop-n-preserved g c =
    let s = c.args.self.now in
    let zs = s.sizes.items in
    let cs = s.cells.items in
    let n = c.loop-n.n in
    let d : Size = record { rows = 0; cols = 0 } in
    let items = c.deref-size-items.result.now in
    let z = get_or items n d in
    let e : z ≡ get_or zs n d = ap (λ l. get_or l n d) c.deref-size-items.ensures.value in
    let l : n < length zs = omega (arith, c.loop-n-test.true, ap length c.deref-size-items.ensures.value) in
    let left = c.loop-n.invariant.1 in
    let valid = next_valid zs cs n c.loop-n.rest.now left z d l e in
    let whole : Valid (tile z.rows z.cols c.split_at.result.0.now) = subst (λ xs. Valid (tile z.rows z.cols xs)) (sym c.split_at.ensures.front) valid in
    let ts = cut zs cs in
    let t = tile z.rows z.cols c.split_at.result.0.now in
    let at : t ≡ get_or ts n t = ap (tile z.rows z.cols) c.split_at.ensures.front ∙ next_is zs cs n c.loop-n.rest.now left z d l e t in
    let more = searched_more g.C.Cell.kind g.E.Engine.rule _ (g.D.Draft.shows c.loop-n.draft) ts n c.loop-n.list _ _ c.loop-n.invariant.0 t _ c.unwrap-places.result c.find.new.list whole (ap numbered (sym c.unwrap-places.ensures) ∙ c.find.ensures.answer) c.find.ensures.listing t (omega (arith, l, length_cut zs cs)) at c.find.ensures.same c.in_ok-push_places.ensures c.in_ok-push.ensures.items in
    let rest = subst (Left zs cs (n + 1)) (sym c.split_at.ensures.back) (next_left zs cs n c.loop-n.rest.now left z d l e) in
    (more, rest, omega (arith, c.find.auto.work, c.loop-n.invariant.2))

pub returns-clause-lines : goal.returns-clause-lines
returns-clause-lines g c =
    let s = c.args.self.now in
    let zs = s.sizes.items in
    let cs = s.cells.items in
    let count = ap length c.deref-size-items.ensures.value in
    searched_all g.C.Cell.kind g.E.Engine.rule _ (g.D.Draft.shows c.loop-n.draft) (cut zs cs) c.loop-n.n c.loop-n.list _ _ c.loop-n.invariant.0 (omega (arith, c.loop-n-test.false, count, length_cut zs cs)) _ _ _ _ c.in_ok-push-2.ensures.items c.rows-rows.ensures c.cols-cols.ensures (omega (arith, c.len.ensures, length_cut zs cs))
