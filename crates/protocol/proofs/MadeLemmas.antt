-- A record is made of fields exactly where they spell one.
use Rattle.std.proofs.Common.{◌≡◌, ℕ, ◌<◌, true, ◌&&◌, nat_lt, List, length, Option, Some, None, Result, Ok, Err, ℤ}
use Rattle.std.proofs.Common.{refl, sym, ap, arith, subst, true≢false, ltb-true, lt-ltb}
use Rattle.std.specs.Prelude.{◌↔◌, is_some}
use Rattle.std.specs.Bool.{Decides}
use Rattle.std.proofs.lemmas.Bool.Decides.{nat_tests, Decides-like, Decides-and, Decides-eqb, Decides-int_eq}
use Rattle.protocol.specs.declared.record.Kind.{Kind}
use Rattle.protocol.specs.Record.{Facts, header_of, kind_of_type}
use Rattle.protocol.specs.declared.record.RecordFault.{RecordFault}
use Rattle.protocol.specs.Reading.{Gives}
use Rattle.protocol.specs.Made.{Fields, is_code_byte, is_code, is_short, is_extra, is_in_range, layout_of, start_asked}
use Rattle.protocol.specs.Made.{has_fields, reads_back, made, IsCodeByte, IsCode, IsShort, IsExtra, IsInRange}
use Rattle.protocol.specs.Made.{HasFields, Spells}
use Rattle.protocol.specs.Record.{padded}
use Rattle.protocol.proofs.FoundLemmas.{both}
use Rattle.std.proofs.lemmas.Int.{ints}
use Rattle.std.proofs.lemmas.Bool.{and_parts}
use Rattle.std.proofs.lemmas.Slice.Eq.{bytes_eq-Decides}
use Rattle.protocol.proofs.KindRules.{gives, given}
use Rattle.protocol.proofs.TestLemmas.{decides-le, decides-quality, decides-all}
use Rattle.protocol.proofs.Headers.{facts_law}

decides-code_byte : (b : ℕ) → Decides (is_code_byte b) (IsCodeByte b)
decides-code_byte b = (λ e. grind (arith, nat_tests), λ h. grind (arith, nat_tests))

decides-short : (z : ℤ) → Decides (is_short z) (IsShort z)
decides-short z = (λ e. (grind (arith, ints), grind (arith, ints)), λ h. grind (arith, ints))

decides-code : (least most : ℕ) (bs : List ℕ) → Decides (is_code least most bs) (IsCode least most bs)
decides-code least most bs =
    Decides-like _ (λ p. (p.0.0, p.0.1, p.1)) (λ h. ((h.0, h.1), h.2))
    (Decides-and _ _ (Decides-and _ _ (decides-le least (length bs)) (decides-le (length bs) most))
    (decides-all is_code_byte IsCodeByte decides-code_byte bs))

decides-lt : (a b : ℕ) → Decides (nat_lt a b) (a < b)
decides-lt a b = (ltb-true a b, lt-ltb a b)

given_extra : (type : ℕ) (found : Option Kind) → kind_of_type type ≡ found → is_some found ≡ true
    → (k : Kind) × Gives type k
given_extra type None e some = absurd (true≢false (sym some))
given_extra type (Some k) e some = (k, gives type k e)

decides-extra : (extra : Option ℕ) → Decides (is_extra extra) (IsExtra extra)
decides-extra None = (λ e. tt, λ h. refl)
decides-extra (Some type) = (λ e. given_extra type (kind_of_type type) refl e, λ h. ap is_some (given type h.0 h.1))

pub decides-in_range : (f : Fields) → Decides (is_in_range f) (IsInRange f)
decides-in_range f =
    Decides-like _
    (λ p. record {
      sequence = p.0.0.0.0.0.0.0.0.0.0;
      quality = p.0.0.0.0.0.0.0.0.0.1;
      station = p.0.0.0.0.0.0.0.0.1.0.0.0;
      location = p.0.0.0.0.0.0.0.0.1.0.0.1;
      channel = p.0.0.0.0.0.0.0.0.1.0.1;
      network = p.0.0.0.0.0.0.0.0.1.1;
      year = (p.0.0.0.0.0.0.0.1.0.0.0.0, p.0.0.0.0.0.0.0.1.0.0.0.1);
      day = (p.0.0.0.0.0.0.0.1.0.0.1, p.0.0.0.0.0.0.0.1.0.1);
      hour = p.0.0.0.0.0.0.0.1.1.0.0.0;
      minute = p.0.0.0.0.0.0.0.1.1.0.0.1;
      second = p.0.0.0.0.0.0.0.1.1.0.1;
      fraction = p.0.0.0.0.0.0.0.1.1.1;
      samples = p.0.0.0.0.0.0.1;
      factor = p.0.0.0.0.0.1;
      multiplier = p.0.0.0.0.1;
      encoding = p.0.0.0.1;
      extra = p.0.0.1;
      size = p.0.1;
      contents = p.1;
    })
    (λ h. (
      (
        (
          (
            (
              (
                (
                  (
                    ((h.sequence, h.quality), (((h.station, h.location), h.channel), h.network)),
                    ((((h.year.0, h.year.1), h.day.0), h.day.1), (((h.hour, h.minute), h.second), h.fraction)),
                  ),
                  h.samples,
                ),
                h.factor,
              ),
              h.multiplier,
            ),
            h.encoding,
          ),
          h.extra,
        ),
        h.size,
      ),
      h.contents,
    ))
    (Decides-and _ _
    (Decides-and _ _
    (Decides-and _ _
    (Decides-and _ _
    (Decides-and _ _ (Decides-and _ _ (Decides-and _ _ (Decides-and _ _ (Decides-and _ _ (Decides-and _ _
    (decides-lt f.sequence 1000000)
    (decides-quality f.quality))
    (Decides-and _ _ (Decides-and _ _ (Decides-and _ _ (decides-code 1 5 f.station) (decides-code 0 2 f.location))
    (decides-code 1 3 f.channel)) (decides-code 1 2 f.network)))
    (Decides-and _ _
    (Decides-and _ _
    (Decides-and _ _ (Decides-and _ _ (decides-le 1900 f.year) (decides-le f.year 2100)) (decides-le 1 f.day))
    (decides-le f.day 366))
    (Decides-and _ _
    (Decides-and _ _ (Decides-and _ _ (decides-le f.hour 23) (decides-le f.minute 59)) (decides-le f.second 60))
    (decides-le f.fraction 9999))))
    (decides-lt f.samples 65536))
    (decides-short f.factor))
    (decides-short f.multiplier))
    (decides-lt f.encoding 256))
    (decides-extra f.extra))
    (decides-le (length f.contents) 448))
    (decides-all (λ b. nat_lt b 256) (λ b. b < 256) (λ b. decides-lt b 256) f.contents))

decides-fields : (f : Fields) (x : Facts) → Decides (has_fields f x) (HasFields f x)
decides-fields f x =
    Decides-like _
    (λ p. record {
      network = p.0.0.0.0.0;
      station = p.0.0.0.0.1;
      location = p.0.0.0.1;
      channel = p.0.0.1;
      start = p.0.1;
      samples = p.1;
    })
    (λ h. (((((h.network, h.station), h.location), h.channel), h.start), h.samples))
    (Decides-and _ _ (Decides-and _ _ (Decides-and _ _ (Decides-and _ _ (Decides-and _ _
    (bytes_eq-Decides x.network f.network)
    (bytes_eq-Decides x.station f.station))
    (bytes_eq-Decides x.location (padded 2 f.location)))
    (bytes_eq-Decides x.channel (padded 3 f.channel)))
    (Decides-int_eq x.start (start_asked f)))
    (Decides-eqb x.samples f.samples))

-- what is made is spelled
spelled_by : (f : Fields) (found : Result Facts RecordFault) → header_of (layout_of f) ≡ found → is_in_range f ≡ true
    → reads_back f found ≡ true → Spells f (layout_of f)
spelled_by f (Err fault) e range back = absurd (true≢false (sym back))
spelled_by f (Ok x) e range back = record {
  in_range = (decides-in_range f).0 range;
  layout = refl;
  facts = x;
  has_facts = (facts_law (layout_of f) x).0 e;
  has_fields = (decides-fields f x).0 back;
}

made_spells : (f : Fields) (r : List ℕ) → made f ≡ Some r → Spells f r
made_spells f r e =
    both (is_in_range f && reads_back f (header_of (layout_of f)))
    (λ y. let parts = and_parts (is_in_range f) (reads_back f (header_of (layout_of f))) y in
    let found : Some (layout_of f) ≡ Some r = rw y at e in
    let same : layout_of f ≡ r = cc in
    subst (Spells f) same (spelled_by f (header_of (layout_of f)) refl parts.0 parts.1))
    (λ n. absurd (let found : None ≡ Some r = rw n at e in cc))

reads_spelled : (f : Fields) (r : List ℕ) (s : Spells f r) → reads_back f (header_of r) ≡ true
reads_spelled f r s = rw ((facts_law r s.facts).1 s.has_facts) ((decides-fields f s.facts).1 s.has_fields)

spells_made : (f : Fields) (r : List ℕ) → Spells f r → made f ≡ Some r
spells_made f r s =
    let back : reads_back f (header_of (layout_of f))
    ≡ true = subst (λ l. reads_back f (header_of l) ≡ true) (sym s.layout) (reads_spelled f r s) in
    rw ((decides-in_range f).1 s.in_range, back) (ap {B = Option (List ℕ)} Some s.layout)

pub made_law : (f : Fields) (r : List ℕ) → (made f ≡ Some r) ↔ Spells f r
made_law f r = (made_spells f r, spells_made f r)
