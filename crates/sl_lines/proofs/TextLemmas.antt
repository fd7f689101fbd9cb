-- The bytes before a line end, taken at once.
use Rattle.std.proofs.Common.{◌≡◌, ℕ, ◌+◌, ◌<◌, ◌≤◌, true, false, suc, List, [], ◌∷◌, ◌++◌, length, get_or, take}
use Rattle.std.proofs.Common.{refl, sym}
use Rattle.std.proofs.Common.{ap, ◌∙◌, append_assoc, append-nil, arith, nat_lt, Some, None, length-append, subst}
use Rattle.std.specs.Prelude.{if◌then◌else◌, Bool}
use Rattle.std.specs.List.{list_any, position_or_len, before_first}
use Rattle.std.proofs.lemmas.Bool.{or_parts}
use Rattle.std.proofs.lemmas.Bool.Decides.{nat_tests}
use Rattle.std.proofs.lemmas.List.Sums.{position_or_len_is}
use Rattle.memchr.specs.Find.{IsFirstByte, is_byte2}
use Rattle.protocol.specs.Lines.{is_line_end, open_after}
use Rattle.protocol.specs.Lines.Line.{Text, TooLong}
use Rattle.protocol.proofs.FoundLemmas.{both}

-- ---- where the first line end is

pub text-found : (bytes : List ℕ) (end : ℕ) → IsFirstByte (is_byte2 13 10) bytes (Some end)
    → end ≡ position_or_len is_line_end bytes
text-found bytes end h =
    sym (position_or_len_is is_line_end bytes end 0 (let high = h.0.high in omega arith)
    (λ k low. both (is_line_end (get_or bytes k 0)) (λ y. absurd (h.0.before k (omega arith) low y)) (λ n. n))
    (λ low. h.1))

pub text-none : (bytes : List ℕ) → IsFirstByte (is_byte2 13 10) bytes None
    → length bytes ≡ position_or_len is_line_end bytes
text-none bytes h =
    sym (position_or_len_is is_line_end bytes (length bytes) 0 (omega arith)
    (λ k low. both (is_line_end (get_or bytes k 0)) (λ y. absurd (h k (omega arith) low y)) (λ n. n))
    (λ low. absurd (omega arith)))

pub ruleset text_lemmas = (text-found, text-none)

before-more : (b : ℕ) (bytes : List ℕ) → is_line_end b ≡ false
    → suc (position_or_len is_line_end bytes) ≡ position_or_len is_line_end (b ∷ bytes)
before-more b bytes n = rw n (omega arith)

head-none : (b : ℕ) (bytes : List ℕ) (k : ℕ) → is_line_end b ≡ false → list_any is_line_end (take k bytes) ≡ false
    → list_any is_line_end (take (suc k) (b ∷ bytes)) ≡ false
head-none b bytes k n rest = rw (n, rest)

-- no byte before the first line end ends a line
pub before-none : (bytes : List ℕ) → list_any is_line_end (before_first is_line_end bytes) ≡ false
before-none [] = refl
before-none (b ∷ bytes) =
    both (is_line_end b)
    (λ y. rw y)
    (λ n. subst (λ k. list_any is_line_end (take k (b ∷ bytes)) ≡ false) (before-more b bytes n)
    (head-none b bytes (position_or_len is_line_end bytes) n (before-none bytes)))

pub before-within : (bytes : List ℕ) → position_or_len is_line_end bytes ≤ length bytes
before-within [] = omega arith
before-within (b ∷ bytes) =
    both (is_line_end b) (λ y. rw y (omega arith)) (λ n. let more = before-within bytes in rw n (omega arith))

pub ruleset before_lemmas = (before-none, before-within)

-- ---- an open line that takes bytes of which none ends a line

pub run-too_long : (text : List ℕ) → list_any is_line_end text ≡ false → open_after TooLong text ≡ TooLong
run-too_long [] none = refl
run-too_long (b ∷ text) none =
    let parts = or_parts (is_line_end b) (list_any is_line_end text) none in rw parts.0 (run-too_long text parts.1)

pub run-fits : (bs text : List ℕ) → list_any is_line_end text ≡ false → length bs + length text ≤ 256
    → open_after (Text bs) text ≡ Text (bs ++ text)
run-fits bs [] none fits = ap Text (sym (append-nil bs))
run-fits bs (b ∷ text) none fits =
    let parts = or_parts (is_line_end b) (list_any is_line_end text) none in
    let room : nat_lt (length bs) 256 ≡ true = grind (arith, nat_tests) in
    rw (parts.0, room) (run-fits (bs ++ b ∷ []) text parts.1 (grind (arith, length-append bs (b ∷ [])))
    ∙ ap Text (append_assoc bs (b ∷ []) text))

pub run-over : (bs text : List ℕ) → list_any is_line_end text ≡ false → length bs ≤ 256
    → 256 < length bs + length text → open_after (Text bs) text ≡ TooLong
run-over bs [] none least over = absurd (omega arith)
run-over bs (b ∷ text) none least over =
    let parts = or_parts (is_line_end b) (list_any is_line_end text) none in
    both (nat_lt (length bs) 256)
    (λ y. rw (parts.0, y) (run-over (bs ++ b ∷ []) text parts.1 (grind (arith, nat_tests, length-append bs (b ∷ [])))
    (grind (arith, length-append bs (b ∷ [])))))
    (λ n. rw (parts.0, n) (run-too_long text parts.1))

-- as the flag and the bytes of an open line
pub extend-fits : (flag : Bool) (bs text : List ℕ) → list_any is_line_end text ≡ false
    → length bs + length text ≤ 256
    → (if flag then TooLong else Text (bs ++ text)) ≡ open_after (if flag then TooLong else Text bs) text
extend-fits true bs text none fits = sym (run-too_long text none)
extend-fits false bs text none fits = sym (run-fits bs text none fits)

pub extend-over : (flag : Bool) (bs text : List ℕ) → list_any is_line_end text ≡ false → length bs ≤ 256
    → 256 < length bs + length text → TooLong ≡ open_after (if flag then TooLong else Text bs) text
extend-over true bs text none least over = sym (run-too_long text none)
extend-over false bs text none least over = sym (run-over bs text none least over)

pub ruleset run_lemmas = (extend-fits, extend-over)
