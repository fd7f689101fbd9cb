-- Two stations of a configuration are the same where their places are.
use Rattle.std.proofs.Common.{◌≡◌, ℕ, ◌<◌, ◌&&◌, true, false, nat_eq, Bool, List, [], ◌∷◌, length, refl, sym, ap, ap₂}
use Rattle.std.proofs.Common.{◌∙◌, arith}
use Rattle.std.specs.List.{position, position_or_len}
use Rattle.std.specs.Str.{bytes_eq}
use Rattle.std.proofs.lemmas.Bool.{and_parts}
use Rattle.std.proofs.lemmas.Bool.Decides.{nat_tests}
use Rattle.std.proofs.lemmas.Slice.Eq.{bytes_eq-Decides}
use Rattle.protocol.specs.Catalog.{Config, Entry, Station, has_codes}
use Rattle.protocol.proofs.FoundLemmas.{both}
use Rattle.catalog.specs.Places.{station_at, HasDistinctCodes}
use Rattle.session_state.specs.declared.choices.Entry.{Entry as NamedEntry}
use Rattle.session_state.specs.Choices.{is_entry_of_station}

pub has-own : (s : Station) → has_codes s.network s.code s ≡ true
has-own s =
    ap₂ (λ a b. a && b) ((bytes_eq-Decides s.network s.network).1 refl) ((bytes_eq-Decides s.code s.code).1 refl)

pub same-place : (entries : List Entry) (place named : ℕ) → HasDistinctCodes entries → place < length entries
    → nat_eq named place
    ≡ has_codes (station_at entries place).network (station_at entries place).code (station_at entries named)
same-place entries place named distinct within =
    let s : Station = station_at entries place in
    let t : Station = station_at entries named in
    both (nat_eq named place)
    (λ y. let is : named ≡ place = grind (arith, nat_tests) in
    y ∙ sym (ap (λ k. has_codes s.network s.code (station_at entries k)) is ∙ has-own s))
    (λ n. n ∙ both (has_codes s.network s.code t)
    (λ y.
    let each = and_parts (bytes_eq t.network s.network) (bytes_eq t.code s.code) y in
    let is : place ≡ named =
    distinct place named within
    (sym ((bytes_eq-Decides t.network s.network).0 each.0), sym ((bytes_eq-Decides t.code s.code).0 each.1)) in
    absurd (let equal : nat_eq named place ≡ true = grind (arith, nat_tests) in
    let wrong : true ≡ false = sym equal ∙ n in cc))
    (λ other. sym other))

-- two tests that answer alike pass first at the same place
alike : (p q : NamedEntry → Bool) → ((e : NamedEntry) → p e ≡ q e) → (es : List NamedEntry)
    → position_or_len p es ≡ position_or_len q es
alike p q same [] = refl
alike p q same (e ∷ es) = rw (same e, alike p q same es) refl

-- the first entry of that station is the first at its place
pub same-position : (config : Config) (place : ℕ) (es : List NamedEntry) → HasDistinctCodes config.entries
    → place < length config.entries → position (λ e. nat_eq e.station place) es
    ≡ position (is_entry_of_station config (station_at config.entries place)) es
same-position config place es distinct within =
    let p : NamedEntry → Bool = λ e. nat_eq e.station place in
    let q : NamedEntry → Bool = is_entry_of_station config (station_at config.entries place) in
    let same : position_or_len p es ≡ position_or_len q es =
    alike p q (λ e. same-place config.entries place e.station distinct within) es in
    rw same refl

pub ruleset same_lemmas = (same-place, same-position)
