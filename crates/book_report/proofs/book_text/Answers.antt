use Rattle.std.proofs.Common.{ap, ◌∙◌}
use Rattle.lines.specs.Rendering.{page}
use Rattle.book_report.proofs.book_text.Goals as goal

pub returns : goal.returns
returns g c =
    let a = c.in_ok-lines.ensures in
    record { text_is = λ store l. c.in_ok-text.ensures ∙ ap page (c.as_slice.ensures.value ∙ a.lines store l); exact = a.exact }
