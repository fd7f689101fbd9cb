-- A record by pairs of hexadecimal digits.
use Rattle.std.proofs.Common.{◌≡◌, ℕ, ◌*◌, true, List, length, nat_le, Some, None, Result, Ok, Err, refl, sym, ◌∙◌}
use Rattle.std.proofs.Common.{arith, ◌==◌}
use Rattle.std.specs.Result.{result_ok}
use Rattle.std.proofs.lemmas.Bool.{eq-eqb, eqb-true}
use Rattle.std.proofs.lemmas.Bool.Decides.{nat_tests}
use Rattle.hex.specs.Hex.{decode_of, decode_sized}
use Rattle.hex.specs.declared.error.FromHexError.{FromHexError}
use Rattle.hex.proofs.HexLemmas.{decode_of-ok, decode_sized-ok, decode_sized-twice}
use Rattle.protocol.proofs.FoundLemmas.{both}
use Rattle.event_script.specs.Script.{hex_record_of}

made : (digits bytes : List ℕ) → decode_sized digits 512 ≡ Ok bytes → hex_record_of digits ≡ Some bytes
made digits bytes h =
    let long = decode_sized-ok digits 512 bytes h in
    let read : decode_of digits ≡ Ok bytes = sym (decode_sized-twice digits 512 long) ∙ h in
    let twice = (decode_of-ok digits bytes read).2 in
    let some : nat_le 1 (length digits) ≡ true = grind (arith, nat_tests, long) in
    let whole : (length bytes == 512) ≡ true = eq-eqb (length bytes) 512 (omega (arith, long, twice)) in
    rw (some, read, whole)

unread : (digits : List ℕ) (e fault : FromHexError) → decode_of digits ≡ Err e → hex_record_of digits ≡ None
unread digits e fault read = both (nat_le 1 (length digits)) (λ y. rw (y, read)) (λ n. rw n)

other : (digits bytes : List ℕ) (e : FromHexError) → decode_sized digits 512 ≡ Err e → decode_of digits ≡ Ok bytes
    → hex_record_of digits ≡ None
other digits bytes e h read =
    both (nat_le 1 (length digits))
    (λ y. both (length bytes == 512)
    (λ whole. let long : length digits ≡ 2 * 512 =
    omega (arith, (decode_of-ok digits bytes read).2, eqb-true (length bytes) 512 whole) in
    let two : Err e ≡ Ok bytes = sym h ∙ decode_sized-twice digits 512 long ∙ read in absurd cc)
    (λ short. rw (y, read, short)))
    (λ n. rw n)

unmade : (digits : List ℕ) (e : FromHexError) (r : Result (List ℕ) FromHexError) → decode_of digits ≡ r
    → decode_sized digits 512 ≡ Err e → hex_record_of digits ≡ None
unmade digits e (Ok bytes) read h = other digits bytes e h read
unmade digits e (Err fault) read h = unread digits fault e read

found : (digits : List ℕ) (r : Result (List ℕ) FromHexError) → decode_sized digits 512 ≡ r
    → result_ok r ≡ hex_record_of digits
found digits (Ok bytes) h = sym (made digits bytes h)
found digits (Err e) h = sym (unmade digits e (decode_of digits) refl h)

-- what is decoded into room for a record
pub hex_record_sized : (digits : List ℕ) → result_ok (decode_sized digits 512) ≡ hex_record_of digits
hex_record_sized digits = found digits (decode_sized digits 512) refl
