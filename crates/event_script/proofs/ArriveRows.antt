-- What is read of a line `arrive` or `arrive-hex` is what the table of lines says.
use Rattle.std.proofs.Common.{◌≡◌, inl, inr, ℕ, true, false, List, [], ◌∷◌, length, nat_le, Option, Some, None, refl}
use Rattle.std.proofs.Common.{sym, ap, ◌∙◌, subst, arith, codes, ◌==◌}
use Rattle.std.specs.Prelude.{All, option_and_then}
use Rattle.std.specs.List.{join_with_byte}
use Rattle.std.specs.Str.{bytes_eq}
use Rattle.std.proofs.lemmas.Bool.{eq-eqb, eqb-true}
use Rattle.std.proofs.lemmas.Bool.Decides.{nat_tests}
use Rattle.std.proofs.lemmas.List.Elements.{All-cons, All-head, All-nil}
use Rattle.std.proofs.lemmas.Slice.Eq.{bytes_eq-Decides}
use Rattle.protocol.specs.Made.{Fields, IsCodeByte, IsInRange, made}
use Rattle.protocol.proofs.FoundLemmas.{both}
use Rattle.protocol.proofs.MadeLemmas.{made_law}
use Rattle.event_script.specs.Rows.{ArriveWords, IsLocationWord, Tells, arrive_text, start_text}
use Rattle.event_script.specs.Script.{Six, Start, decimal_of, fields_in, fields_of, fields_told, fields_with, hex_of}
use Rattle.event_script.specs.Script.{hex_record_of, location_of, record_of, six_of, start_in, start_of, whole_record}
use Rattle.event_script.proofs.FittingLemmas.{HasNumbers, numbers-there}
use Rattle.event_script.proofs.OptionSteps.{and_then_some}
use Rattle.event_script.proofs.Separators.{Lacks, code-lacks_space, lacks-between, number-lacks, six-made, six-whole}

-- ---- by hexadecimal digits

pub hex-made : (digits bytes : List ℕ) → hex_of digits ≡ Some bytes → length bytes ≡ 512
    → hex_record_of digits ≡ Some bytes
hex-made digits bytes h long = ap (option_and_then whole_record) h ∙ (rw (eq-eqb (length bytes) 512 long) refl)

whole : (bytes found : List ℕ) → whole_record bytes ≡ Some found → (bytes ≡ found) × (length found ≡ 512)
whole bytes found e =
    both (length bytes == 512)
    (λ y. let is : Some bytes ≡ Some found = rw y at e in let same : bytes ≡ found =
    cc in (same, ap length (sym same) ∙ eqb-true (length bytes) 512 y))
    (λ n. let none : None ≡ Some found = rw n at e in absurd cc)

pub hex-whole : (digits bytes : List ℕ) → hex_record_of digits ≡ Some bytes
    → (hex_of digits ≡ Some bytes) × (length bytes ≡ 512)
hex-whole digits bytes h =
    let found = and_then_some whole_record (hex_of digits) bytes h in
    let parts = whole found.0 bytes found.2 in
    (found.1 ∙ ap Some parts.0, parts.1)

-- ---- the location

location-lacks_space : (word code : List ℕ) → IsLocationWord word code → All IsCodeByte code → Lacks 32 word
location-lacks_space word code (inl none) each =
    subst (Lacks 32) (sym none.0)
    (All-cons (λ b. (b == 32) ≡ false) 45 (45 ∷ []) refl
    (All-cons (λ b. (b == 32) ≡ false) 45 [] refl (All-nil (λ b. (b == 32) ≡ false))))
location-lacks_space word code (inr some) each = code-lacks_space word (subst (All IsCodeByte) some.1 each)

dash_is_no_code_byte : IsCodeByte 45 → ⊥
dash_is_no_code_byte h = grind arith

location-made : (word code : List ℕ) → IsLocationWord word code → All IsCodeByte code → location_of word ≡ Some code
location-made word code (inl none) each = rw (none.0, none.1) refl
location-made word code (inr some) each =
    both (bytes_eq word (codes "--"))
    (λ y. let dashes : code ≡ codes "--" = some.1 ∙ (bytes_eq-Decides word (codes "--")).0 y in
    absurd (dash_is_no_code_byte (All-head IsCodeByte 45 (45 ∷ []) (subst (All IsCodeByte) dashes each))))
    (λ n. let there : nat_le 1 (length word) ≡ true =
    grind (arith, nat_tests, some.0) in rw (n, there) (ap Some (sym some.1)))

location-told : (word code : List ℕ) → location_of word ≡ Some code → IsLocationWord word code
location-told word code e =
    both (bytes_eq word (codes "--"))
    (λ y. let is : Some [] ≡ Some code = rw y at e in let same : [] ≡ code =
    cc in inl ((bytes_eq-Decides word (codes "--")).0 y, sym same))
    (λ n. let h = rw n at e in
    both (nat_le 1 (length word))
    (λ y. let is : Some word ≡ Some code = rw y at h in let same : word ≡ code =
    cc in inr (grind (arith, nat_tests), sym same))
    (λ m. let none : None ≡ Some code = rw m at h in absurd cc))

-- ---- the line of the table is read

start-lacks_space : (w : ArriveWords) (f : Fields) → Tells w f → Lacks 32 (start_text w)
start-lacks_space w f t =
    lacks-between 32 44 w.year _ refl (number-lacks 32 refl w.year f.year t.year)
    (lacks-between 32 44 w.day _ refl (number-lacks 32 refl w.day f.day t.day)
    (lacks-between 32 44 w.hour _ refl (number-lacks 32 refl w.hour f.hour t.hour)
    (lacks-between 32 44 w.minute _ refl (number-lacks 32 refl w.minute f.minute t.minute)
    (lacks-between 32 44 w.second _ refl (number-lacks 32 refl w.second f.second t.second)
    (number-lacks 32 refl w.fraction f.fraction t.fraction)))))

-- the numbers of a record's start
abbrev start_in_fields : Fields → Start
start_in_fields f = record {
  year = f.year;
  day = f.day;
  hour = f.hour;
  minute = f.minute;
  second = f.second;
  fraction = f.fraction;
}

start-made : (w : ArriveWords) (f : Fields) → Tells w f → start_of (start_text w) ≡ Some (start_in_fields f)
start-made w f t =
    ap (option_and_then start_in)
    (six-made 44
    (record {
      first = w.year;
      second = w.day;
      third = w.hour;
      fourth = w.minute;
      fifth = w.second;
      sixth = w.fraction;
    })
    (number-lacks 44 refl w.year f.year t.year) (number-lacks 44 refl w.day f.day t.day)
    (number-lacks 44 refl w.hour f.hour t.hour)
    (number-lacks 44 refl w.minute f.minute t.minute) (number-lacks 44 refl w.second f.second t.second)
    (number-lacks 44 refl w.fraction f.fraction t.fraction))
    ∙ (rw (t.year, t.day, t.hour, t.minute, t.second, t.fraction) refl)

fields-same : (w : ArriveWords) (f : Fields) → Tells w f
    → fields_told w.network w.station f.location w.channel (start_in_fields f) f.samples ≡ f
fields-same w f t =
    let each : fields_told w.network w.station f.location w.channel (start_in_fields f) f.samples ≡ record {
      sequence = f.sequence;
      quality = f.quality;
      station = f.station;
      location = f.location;
      channel = f.channel;
      network = f.network;
      year = f.year;
      day = f.day;
      hour = f.hour;
      minute = f.minute;
      second = f.second;
      fraction = f.fraction;
      samples = f.samples;
      factor = f.factor;
      multiplier = f.multiplier;
      encoding = f.encoding;
      order = f.order;
      extra = f.extra;
      contents = f.contents;
    } = cc in
    each

fields-made : (w : ArriveWords) (f : Fields) → Tells w f → IsInRange f → fields_of (arrive_text w) ≡ Some f
fields-made w f t r =
    ap (option_and_then fields_in)
    (six-made 32
    (record {
      first = w.network;
      second = w.station;
      third = w.location;
      fourth = w.channel;
      fifth = start_text w;
      sixth = w.samples;
    })
    (code-lacks_space w.network (subst (All IsCodeByte) t.network r.network.2))
    (code-lacks_space w.station (subst (All IsCodeByte) t.station r.station.2))
    (location-lacks_space w.location f.location t.location r.location.2)
    (code-lacks_space w.channel (subst (All IsCodeByte) t.channel r.channel.2))
    (start-lacks_space w f t) (number-lacks 32 refl w.samples f.samples t.samples))
    ∙ (rw (
      location-made w.location f.location t.location r.location.2,
      start-made w f t,
      t.samples,
    ) (ap Some (fields-same w f t)))

pub record-made : (w : ArriveWords) (f : Fields) (bytes : List ℕ) → Tells w f → made f ≡ Some bytes
    → record_of (arrive_text w) ≡ Some bytes
record-made w f bytes t is_made = ap (option_and_then made) (fields-made w f t ((made_law f bytes).0 is_made).in_range)
    ∙ is_made

-- ---- what is read stands in the table

-- A text is that of words that tell the fields of a record.
pub record IsTold (text bytes : List ℕ) : Type 0 where
  pub words : ArriveWords
  pub fields : Fields
  pub text_is : text ≡ arrive_text words
  pub tells : Tells words fields
  pub is_made : made fields ≡ Some bytes

-- The location, the start and the count of samples are there.
record HasRest (location : Option (List ℕ)) (start : Option Start) (samples : Option ℕ)
    (network station channel : List ℕ) (f : Fields) : Type 0 where
  pub code : List ℕ
  pub moment : Start
  pub count : ℕ
  pub code_is : location ≡ Some code
  pub moment_is : start ≡ Some moment
  pub count_is : samples ≡ Some count
  pub same : fields_told network station code channel moment count ≡ f

rest-there : (network station channel : List ℕ) (location : Option (List ℕ)) (start : Option Start) (samples : Option ℕ)
    (f : Fields)
    → fields_with network station channel location start samples ≡ Some f
    → HasRest location start samples network station channel f
rest-there network station channel None start samples f e = absurd cc
rest-there network station channel (Some l) None samples f e = absurd cc
rest-there network station channel (Some l) (Some s) None f e = absurd cc
rest-there network station channel (Some l) (Some s) (Some k) f e =
    record { code = l; moment = s; count = k; code_is = refl; moment_is = refl; count_is = refl; same = cc }

-- six words, and six numbers in the fifth
abbrev words_in : Six → Six → ArriveWords
words_in w p =
    record {
      network = w.first;
      station = w.second;
      location = w.third;
      channel = w.fourth;
      year = p.first;
      day = p.second;
      hour = p.third;
      minute = p.fourth;
      second = p.fifth;
      fraction = p.sixth;
      samples = w.sixth;
    }

words-tell : (w p : Six) (code : List ℕ) (moment : Start) (count : ℕ) → location_of w.third ≡ Some code
    → HasNumbers (decimal_of p.first) (decimal_of p.second) (decimal_of p.third) (decimal_of p.fourth)
    (decimal_of p.fifth) (decimal_of p.sixth) moment
    → decimal_of w.sixth ≡ Some count → Tells (words_in w p) (fields_told w.first w.second code w.fourth moment count)
words-tell w p code moment count location numbers samples =
    record {
      network = refl;
      station = refl;
      location = location-told w.third code location;
      channel = refl;
      year = numbers.year_is;
      day = numbers.day_is;
      hour = numbers.hour_is;
      minute = numbers.minute_is;
      second = numbers.second_is;
      fraction = numbers.fraction_is;
      samples = samples;
      sequence = refl;
      quality = refl;
      factor = refl;
      multiplier = refl;
      encoding = refl;
      order = refl;
      extra = refl;
      contents = refl;
    }

rest-tells : (w p : Six) (f : Fields)
    (rest : HasRest (location_of w.third) (start_of w.fifth) (decimal_of w.sixth) w.first w.second w.fourth f)
    → start_in p ≡ Some rest.moment → Tells (words_in w p) f
rest-tells w p f rest e =
    subst (Tells (words_in w p)) rest.same
    (words-tell w p rest.code rest.moment rest.count rest.code_is
    (numbers-there (decimal_of p.first) (decimal_of p.second) (decimal_of p.third) (decimal_of p.fourth)
    (decimal_of p.fifth) (decimal_of p.sixth) rest.moment e)
    rest.count_is)

words-joined : (text : List ℕ) (w p : Six) → six_of 32 text ≡ Some w → six_of 44 w.fifth ≡ Some p
    → text ≡ arrive_text (words_in w p)
words-joined text w p e h =
    let joined = λ (s : List ℕ). join_with_byte 32 (w.first ∷ w.second ∷ w.third ∷ w.fourth ∷ s ∷ w.sixth ∷ []) in
    six-whole 32 text w e ∙ ap joined (six-whole 44 w.fifth p h)

pub record-whole : (text bytes : List ℕ) → record_of text ≡ Some bytes → IsTold text bytes
record-whole text bytes h =
    let f = and_then_some made (fields_of text) bytes h in
    let w = and_then_some fields_in (six_of 32 text) f.0 f.1 in
    let rest = rest-there w.0.first w.0.second w.0.fourth (location_of w.0.third) (start_of w.0.fifth)
    (decimal_of w.0.sixth) f.0 w.2 in
    let p = and_then_some start_in (six_of 44 w.0.fifth) rest.moment rest.moment_is in
    record {
      words = words_in w.0 p.0;
      fields = f.0;
      text_is = words-joined text w.0 p.0 w.1 p.1;
      tells = rest-tells w.0 p.0 f.0 rest p.2;
      is_made = f.2;
    }
