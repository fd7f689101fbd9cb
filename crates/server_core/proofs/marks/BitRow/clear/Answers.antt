use Rattle.std.proofs.Common.{◌≡◌, ◌/◌, ◌%◌, ◌*◌, ◌^◌, ◌<◌, ◌∙◌, ap, sym, arith, length, set, w64, ℕ, nat_lt, true}
use Rattle.std.specs.Prelude.{bit_and}
use Rattle.std.specs.Int.{bit_not}
use Rattle.std.proofs.lemmas.Bool.Decides.{nat_tests}
use Rattle.std.proofs.lemmas.List.{get_or_read}
use Rattle.server_core.specs.Rows.{bit_in}
use Rattle.server_core.proofs.WordLemmas.{clear-here, clear-others}
use Rattle.server_core.proofs.marks.BitRow.clear.Goals as goal

inside : (c : goal.After-self-1) → c.args.slot / 64 < length c.args.self.now.words.items
inside c =
    let has : c.args.slot < 64 * length c.args.self.now.words.items = room _ _
    (sym c.has_room.ensures ∙ c.if-has_room.true) in
    omega (arith, has)
  where
    room : (a b : ℕ) → nat_lt a b ≡ true → a < b
    room a b e = grind (arith, nat_tests)

pub returns-then-has_room-clause-here : goal.returns-then-has_room-clause-here
returns-then-has_room-clause-here c =
    let words = c.args.self.now.words.items in
    let n = c.args.slot in
    let within : n / 64 < length words = inside c in
    ap (λ w. bit_in (set words (n / 64) (bit_and w (bit_not w64 (1 * 2 ^ (n % 64) % 2 ^ 64)))) n)
    (get_or_read words (n / 64) _ within c.index-word.ensures 0)
    ∙ clear-here words n within

pub returns-then-has_room-clause-others : goal.returns-then-has_room-clause-others
returns-then-has_room-clause-others c = λ k other.
    let words = c.args.self.now.words.items in
    let n = c.args.slot in
    let within : n / 64 < length words = inside c in
    ap (λ w. bit_in (set words (n / 64) (bit_and w (bit_not w64 (1 * 2 ^ (n % 64) % 2 ^ 64)))) k)
    (get_or_read words (n / 64) _ within c.index-word.ensures 0)
    ∙ clear-others words n k within other
