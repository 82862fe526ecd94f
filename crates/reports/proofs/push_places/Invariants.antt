use Rattle.std.proofs.Common.{◌≡◌, ◌++◌, map, take, vec_items}
use Rattle.reports.specs.Reports.{place_line}
use Rattle.reports.proofs.push_places.Given as goal

abbrev pub invariant-loop-place : goal.invariant-loop-place
invariant-loop-place l = vec_items l.lines ≡ vec_items l.initial.lines ++ map (place_line l.tile) (take l.place-index l.places)
