use Rattle.std.proofs.Common.{◌∙◌, ◌++◌, [], ap, map, sym, append-nil}
use Rattle.std.specs.Prelude.{◌==◌}
use Rattle.protocol.specs.Pieces.{split}
use Rattle.job_read.specs.WantLines.{line_value, lines_from}
use Rattle.job_read.proofs.WantLineLemmas.{line_more}
use Rattle.job_read.proofs.want_lines.want_lines.Goals as goal

pub lines-preserved : goal.lines-preserved
lines-preserved c =
    ap (λ n. map line_value c.put_line.new.lines.items ++ lines_from n (split (λ b. b == 10) c.in-Some.rest.now))
    c.saturating_add-number.ensures
    ∙ line_more c.lines.number c.in-Some.line.now (split (λ b. b == 10) c.in-Some.rest.now)
    (map line_value c.lines.lines.items) (map line_value c.put_line.new.lines.items) c.in_ok-put_line.ensures
    ∙ ap (λ ls. map line_value c.lines.lines.items ++ lines_from c.lines.number ls) (sym c.in-Some.ensures.pieces)
    ∙ c.lines.invariant

pub returns : goal.returns
returns c =
    sym (append-nil (map line_value c.put_line-2.new.lines.items))
    ∙ line_more c.lines.number c.lines.left.now [] (map line_value c.lines.lines.items)
    (map line_value c.put_line-2.new.lines.items) c.in_ok-put_line-2.ensures
    ∙ ap (λ ls. map line_value c.lines.lines.items ++ lines_from c.lines.number ls) (sym c.in_default.ensures.pieces)
    ∙ c.lines.invariant
