use Rattle.std.proofs.Common.{◌≡◌, take, string_bytes}
use Rattle.lines.specs.Rendering.{page}
use Rattle.lines.proofs.render.Given as goal

abbrev pub invariant-loop-line : goal.invariant-loop-line
invariant-loop-line l = string_bytes l.text ≡ page (take l.line-index l.lines)
