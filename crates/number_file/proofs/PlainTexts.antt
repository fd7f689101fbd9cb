-- The text of a string whose bytes are those of codes: a quote, its bytes and a quote.
use Rattle.std.proofs.Common.{◌≡◌, ◌<◌, ◌%◌, ◌/◌, ◌^◌, ◌==◌, ℕ, true, false, List, [], ◌∷◌}
use Rattle.std.proofs.Common.{◌++◌, refl, arith}
use Rattle.std.proofs.lemmas.Bool.{and_parts}
use Rattle.std.proofs.lemmas.Bool.Decides.{nat_tests}
use Rattle.std.specs.List.{list_all, list_any}
use Rattle.toml_writer.specs.Text.{encoding_of, string_text, escaped, has, is_control, needs_escape, quotes_after}
use Rattle.protocol.specs.Packet.{digit, digits}
use Rattle.catalog.specs.Texts.{is_code_byte}

-- a byte of a code stands for itself
bare : (quotes c : ℕ) → is_code_byte c ≡ true → needs_escape false quotes c ≡ false
unfolding needs_escape
bare quotes c h = grind (arith, nat_tests)

none_after : (c : ℕ) → is_code_byte c ≡ true → quotes_after false 0 c ≡ 0
unfolding quotes_after
none_after c h = grind (arith, nat_tests)

escaped_bare : (s : List ℕ) → list_all is_code_byte s ≡ true → escaped false 0 s ≡ s
unfolding escaped
escaped_bare [] h = refl
escaped_bare (c ∷ cs) h =
    let (here, more) = and_parts (is_code_byte c) (list_all is_code_byte cs) h in
    rw (bare 0 c here, none_after c here, escaped_bare cs more)

-- none of them is one that asks for another form of string
no_control : (s : List ℕ) → list_all is_code_byte s ≡ true → list_any is_control s ≡ false
no_control [] h = refl
no_control (c ∷ cs) h =
    let (here, more) = and_parts (is_code_byte c) (list_all is_code_byte cs) h in
    let one : is_control c ≡ false = grind (arith, nat_tests) in
    rw (one, no_control cs more)

no_byte : (b : ℕ) → is_code_byte b ≡ false → (s : List ℕ) → list_all is_code_byte s ≡ true → has b s ≡ false
no_byte b other [] h = refl
no_byte b other (c ∷ cs) h =
    let (here, more) = and_parts (is_code_byte c) (list_all is_code_byte cs) h in
    let one : (c == b) ≡ false = grind (arith, nat_tests) in
    rw (one, no_byte b other cs more)

pub string_text-bare : (s : List ℕ) → list_all is_code_byte s ≡ true → string_text s ≡ 34 ∷ s ++ 34 ∷ []
unfolding string_text encoding_of
string_text-bare s h =
    rw (no_control s h, no_byte 92 refl s h, no_byte 34 refl s h, no_byte 10 refl s h, escaped_bare s h)

-- digits are such bytes
digit_bare : (k : ℕ) → k < 16 → is_code_byte (digit k) ≡ true
digit_bare k low = grind (arith, nat_tests)

low : (n : ℕ) → n % 16 < 16
low n = omega arith

pub digits_bare : (n : ℕ) → list_all is_code_byte (digits n) ≡ true
digits_bare n =
    rw (
      digit_bare _ (low (n / 16 ^ 5)),
      digit_bare _ (low (n / 16 ^ 4)),
      digit_bare _ (low (n / 16 ^ 3)),
      digit_bare _ (low (n / 16 ^ 2)),
      digit_bare _ (low (n / 16)),
      digit_bare _ (low n),
    )
