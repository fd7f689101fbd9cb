use Rattle.std.proofs.Common.{◌/◌, ◌%◌, ◌*◌, ◌^◌, ◌<◌, ◌∙◌, ap, arith, length, set}
use Rattle.std.specs.Prelude.{bit_or}
use Rattle.std.proofs.lemmas.List.{get_or_read}
use Rattle.server_core.specs.Rows.{bit_in}
use Rattle.server_core.proofs.WordLemmas.{set-here, set-others}
use Rattle.server_core.proofs.marks.BitRow.set.Goals as goal

pub returns-clause-here : goal.returns-clause-here
returns-clause-here c =
    let words = c.args.self.now.words.items in
    let n = c.args.slot in
    let within : n / 64 < length words = omega (arith, c.requires) in
    ap (λ w. bit_in (set words (n / 64) (bit_or w (1 * 2 ^ (n % 64) % 2 ^ 64))) n)
    (get_or_read words (n / 64) _ within c.index-word.ensures 0)
    ∙ set-here words n within

pub returns-clause-others : goal.returns-clause-others
returns-clause-others c = λ k other.
    let words = c.args.self.now.words.items in
    let n = c.args.slot in
    let within : n / 64 < length words = omega (arith, c.requires) in
    ap (λ w. bit_in (set words (n / 64) (bit_or w (1 * 2 ^ (n % 64) % 2 ^ 64))) k)
    (get_or_read words (n / 64) _ within c.index-word.ensures 0)
    ∙ set-others words n k within other
