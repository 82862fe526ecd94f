use Rattle.std.proofs.Common.{ap, ◌∙◌}
use Rattle.lines.specs.Rendering.{page}
use Rattle.find_report.proofs.find_text.Goals as goal

pub returns : goal.returns
returns g c =
    let a = c.in_ok-lines.ensures in
    record { text_is = c.in_ok-text.ensures ∙ ap page (c.as_slice.ensures.value ∙ a.lines); exact = a.exact }
