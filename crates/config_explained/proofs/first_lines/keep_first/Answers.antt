-- More lines than are kept.
use Rattle.std.proofs.Common.{◌≡◌, List, ℕ, ◌-◌, take, OnOk, ap, subst, ◌∙◌, arith}
use Rattle.config_explained.specs.Unknown.{first_lines, line_ends}
use Rattle.config_explained.proofs.LineLemmas.{named_more}
use Rattle.config_explained.proofs.first_lines.keep_first.Goals as goal

pub returns : goal.returns
returns c =
    let text = c.args.text.now.items in
    let first = c.first_lines-length in
    let same : c.as_slice.result.now ≡ text = c.as_slice.ensures.value in
    subst (λ (l : List ℕ). OnOk c.put_more.result (c.put_more.new.text.items ≡ l))
    (named_more text c.truncate.new.self.items first.result.length first.result.more
    (subst (λ (l : List ℕ). take first.result.length l ≡ first_lines 64 l) same first.ensures.lines)
    (first.ensures.more ∙ ap (λ (l : List ℕ). line_ends l - 64) same)
    (λ e. omega (arith, e, c.if-more-eq0.false)) c.truncate.ensures.items)
    c.put_more.ensures
