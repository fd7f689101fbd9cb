use Rattle.std.proofs.Common.{◌≤◌, ◌<◌, ◌+◌, length, arith, ap, ◌∙◌}
use Rattle.protocol.specs.Lines.{open_after}
use Rattle.sl_lines.proofs.TextLemmas.{extend-over}
use Rattle.sl_lines.proofs.lines.OpenLine.extend.Goals as goal

pub returns-in-Err : goal.returns-in-Err
returns-in-Err c =
    let least : length c.self.inside.bytes.items ≤ 256 = omega arith in
    let over : 256 < length c.self.inside.bytes.items + length c.args.text.now =
    grind (arith, c.in-Err.ensures.variant) in
    extend-over c.self.inside.is_too_long c.self.inside.bytes.items c.args.text.now c.requires least over
    ∙ ap (λ l. open_after l c.args.text.now) c.self.view_is
