-- What is read of a configuration's stations and of a file of numbers can be kept.
use Rattle.std.proofs.Common.{◌≡◌, ◌+◌, ◌*◌, ◌^◌, ◌<◌, ◌≤◌, ℕ, Bool, true, false, List, [], ◌∷◌, ◌++◌}
use Rattle.std.proofs.Common.{length, Option, Some, None, Result, Ok, Err, refl, subst, arith, map, ◌&&◌, nat_le}
use Rattle.std.proofs.Common.{inl, inr, length-append, if◌then◌else◌}
use Rattle.std.specs.List.{All}
use Rattle.std.proofs.lemmas.List.Elements.{All-map, All-nil, All-push}
use Rattle.std.proofs.lemmas.List.{length-map}
use Rattle.std.specs.Prelude.{codes}
use Rattle.std.proofs.Math.Nat.{mul-le-mul_left, pow-le-pow_right, pow-suc}
use Rattle.std.proofs.lemmas.Bool.{and_parts, cases_Bool, leb-true}
use Rattle.std.proofs.lemmas.Bool.Decides.{nat_tests}
use Rattle.toml.specs.Data.{Data, Members}
use Rattle.protocol.specs.Access.{Token}
use Rattle.protocol.specs.Catalog.{Config, Entry}
use Rattle.protocol.specs.Packet.{hex_digit, hex_number, number_of, numbers}
use Rattle.protocol.proofs.Digits.{first_digit}
use Rattle.catalog.specs.Groups.{groups_of}
use Rattle.catalog.specs.Keys.{elements_at, table_in, text_at, text_if_any}
use Rattle.catalog.specs.Numbers.{Numbered, numbered}
use Rattle.catalog.specs.Reading.{config_of, config_read, entry_of, is_few, is_repeated, not_repeated, station_of}
use Rattle.catalog.specs.Reading.{station_values}
use Rattle.catalog.specs.Reading.{stations_of, stations_read, tables_alone}
use Rattle.catalog.specs.Settings.{access_of, capacity_of, code_of, connections_of, description_of, first_by, first_of}
use Rattle.catalog.specs.Settings.{network_of, settings_of, title_of, SettingsValue}
use Rattle.catalog.specs.Steps.{◌>>=◌, within, within_if}
use Rattle.catalog.specs.Texts.{is_code, is_network}
use Rattle.catalog.specs.declared.fault.ConfigFault.{ConfigFault}
use Rattle.catalog.specs.declared.fault.ConfigFault.TheVariants.{Duplicate}
use Rattle.number_file.specs.Keeping.{AreKeepable, IsKeepable}
use Rattle.number_file.specs.Reading.{next_of, number_in, numbers_after, numbers_of, numbers_read}

-- ---- steps that succeeded

pub taken : {A B : Type 0} (r : Result A ConfigFault) (f : A → Result B ConfigFault) (y : B) → (r >>= f) ≡ Ok y
    → (x : A) × (r ≡ Ok x) × (f x ≡ Ok y)
taken (Err e) f y h = absurd cc
taken (Ok x) f y h = (x, refl, h)

tested : {A : Type 0} (b : Bool) (x y : A) → within_if b x ≡ Ok y → (b ≡ true) × (x ≡ y)
tested true x y h = (refl, cc)
tested false x y h = absurd cc

within_is : {A : Type 0} (o : Option A) (y : A) → within o ≡ Ok y → o ≡ Some y
within_is None y h = absurd cc
within_is (Some x) y h = cc

-- ---- numbers that digits spell

digit_low : (b k : ℕ) → hex_digit b ≡ Some k → k < 16
digit_low b k e = grind (arith, nat_tests)

one_digit_more : (p m k n : ℕ) → k < 16 → n < p * (16 * m + k + 1) → n < p * 16 * (m + 1)
one_digit_more p m k n low next =
    let more : p * (16 * m + k + 1) ≤ p * (16 * (m + 1)) = mul-le-mul_left p (omega arith) in
    omega arith

below_power : (m : ℕ) (bs : List ℕ) (n : ℕ) → hex_number m bs ≡ Some n → n < 16 ^ length bs * (m + 1)
below_power m [] n h = let same : m ≡ n = cc in omega arith
below_power m (b ∷ bs) n h =
    let (k, digit, later) = first_digit m b bs n h in
    rw (pow-suc 16 (length bs)) (one_digit_more (16 ^ length bs) m k n (digit_low b k digit)
    (below_power (16 * m + k) bs n later))

spelled_low : (text : List ℕ) (n : ℕ) → number_of text ≡ Some n → n < numbers
spelled_low text n h =
    elim (cases_Bool (nat_le 1 (length text) && nat_le (length text) 6)) [
      | inl few ↦
          let short : length text ≤ 6 = leb-true (length text) 6 (and_parts (nat_le 1 (length text)) (nat_le (length text) 6) few).1 in
          let spelled : hex_number 0 text ≡ Some n = rw few at h in
          let below = below_power 0 text n spelled in
          let most : 16 ^ length text ≤ 16 ^ 6 = pow-le-pow_right (omega arith) short in
          omega arith
      | inr other ↦ let none : None ≡ Some n = rw other at h in absurd cc
    ]

within_low : (text : List ℕ) (n : ℕ) → within (number_of text) ≡ Ok n → n < numbers
within_low text n h = spelled_low text n (within_is (number_of text) n h)

-- ---- the keys of a table

network_is : (members : Members) (network : List ℕ) → network_of members ≡ Ok network → is_network network ≡ true
unfolding network_of
network_is members network h =
    let (text, at, t) = taken (text_at (codes "network") members) (λ text. within_if (is_network text) text) network h in
    let (passes, same) = tested (is_network text) text network t in
    subst (λ s. is_network s ≡ true) same passes

code_is : (members : Members) (code : List ℕ) → code_of members ≡ Ok code → is_code code ≡ true
unfolding code_of
code_is members code h =
    let (text, at, t) = taken (text_at (codes "code") members) (λ text. within_if (is_code text) text) code h in
    let (passes, same) = tested (is_code text) text code t in
    subst (λ s. is_code s ≡ true) same passes

next_is : (members : Members) (next : ℕ) → next_of members ≡ Ok next → next < numbers
unfolding next_of
next_is members next h =
    let (text, at, t) = taken (text_at (codes "next") members) (λ text. within (number_of text)) next h in
    within_low text next t

first_by_is : (text : Option (List ℕ)) (first : ℕ) → first_by text ≡ Ok first → first < numbers
first_by_is None first h = let zero_is : 0 ≡ first = cc in omega arith
first_by_is (Some text) first h = within_low text first h

first_is : (members : Members) (first : ℕ) → first_of members ≡ Ok first → first < numbers
unfolding first_of
first_is members first h =
    let (text, at, t) = taken (text_if_any (codes "first") members) first_by first h in
    first_by_is text first t

-- ---- stations

abbrev settings_with : List ℕ → ℕ → ℕ → Option (List Token) → SettingsValue
settings_with description capacity first access =
    record { description = description; capacity = capacity; first = first; access = access }

settings_low : (groups : Option Members) (members : Members) (s : SettingsValue) → settings_of groups members ≡ Ok s → s.first < numbers
settings_low groups members s h =
    let (d, at_d, h1) = taken (description_of members) (λ d. capacity_of members >>= (λ c. first_of members
    >>= (λ f. access_of groups members >>= (λ a. Ok (settings_with d c f a))))) s h in
    let (c, at_c, h2) = taken (capacity_of members) (λ c. first_of members
    >>= (λ f. access_of groups members >>= (λ a. Ok (settings_with d c f a)))) s h1 in
    let (f, at_f, h3) = taken (first_of members) (λ f. access_of groups members >>= (λ a. Ok (settings_with d c f a))) s h2 in
    let (a, at_a, h4) = taken (access_of groups members) (λ a. Ok (settings_with d c f a)) s h3 in
    let same : settings_with d c f a ≡ s = cc in
    subst (λ (s : SettingsValue). s.first < numbers) same (first_is members f at_f)

abbrev entry_with : List ℕ → List ℕ → SettingsValue → Entry
entry_with network code s = record {
  station = record {
    network = network;
    code = code;
    description = s.description;
    capacity = s.capacity;
    first = s.first;
  };
  access = s.access;
}

entry_keepable : (groups : Option Members) (members : Members) (e : Entry)
    → entry_of groups members ≡ Ok e → IsKeepable (numbered e)
unfolding entry_of
entry_keepable groups members e h =
    let (network, at_network, h1) = taken (network_of members) (λ network. code_of members >>= (λ code.
    settings_of groups members >>= (λ s. Ok (entry_with network code s)))) e h in
    let (code, at_code, h2) = taken (code_of members) (λ code.
    settings_of groups members >>= (λ s. Ok (entry_with network code s))) e h1 in
    let (s, at_s, h3) = taken (settings_of groups members) (λ s. Ok (entry_with network code s)) e h2 in
    let same : entry_with network code s ≡ e = cc in
    subst (λ (e : Entry). IsKeepable (numbered e)) same (record {
      network = network_is members network at_network;
      code = code_is members code at_code;
      below = settings_low groups members s at_s;
    })

new_is : (repeated : Bool) (x e : Entry) → (if repeated then Err Duplicate else Ok x) ≡ Ok e → x ≡ e
new_is true x e h = absurd cc
new_is false x e h = cc

station_keepable : (groups : Option Members) (earlier : List Entry) (d : Data) (e : Entry)
    → station_of groups earlier d ≡ Ok e → IsKeepable (numbered e)
unfolding station_of
station_keepable groups earlier d e h =
    let (members, at_table, h1) = taken (table_in d) (λ members. entry_of groups members >>= not_repeated earlier) e h in
    let (x, at_entry, h2) = taken (entry_of groups members) (not_repeated earlier) e h1 in
    subst (λ (e : Entry). IsKeepable (numbered e)) (new_is (is_repeated earlier x.station) x e h2)
    (entry_keepable groups members x at_entry)

-- stations that were read
record AreRead (earlier : List Entry) (count : ℕ) (all : List Entry) : Type 0 where
  size : length all ≡ length earlier + count
  each : All (λ e. IsKeepable (numbered e)) all

stations_keepable : (groups : Option Members) (earlier : List Entry) (ds : List Data) (all : List Entry)
    → All (λ e. IsKeepable (numbered e)) earlier → stations_read groups earlier ds ≡ Ok all → AreRead earlier (length ds) all
stations_keepable groups earlier [] all each h =
    let same : earlier ≡ all = cc in
    subst (λ (l : List Entry). AreRead earlier 0 l) same (record { size = omega arith; each = each })
stations_keepable groups earlier (d ∷ ds) all each h =
    let (e, at_e, h1) = taken (station_of groups earlier d) (λ e. stations_read groups (earlier ++ e ∷ []) ds) all h in
    let rest = stations_keepable groups (earlier ++ e ∷ []) ds all
    (All-push (λ e. IsKeepable (numbered e)) earlier e each (station_keepable groups earlier d e at_e)) h1 in
    record { size = omega (arith, rest.size, length-append earlier (e ∷ [])); each = rest.each }

values_some : (members : Members) (values : List Data) → station_values members ≡ Ok values → 0 < length values
unfolding station_values
values_some members values h =
    let (all, at, h1) = taken (elements_at (codes "station") members)
    (λ values. tables_alone values >>= (λ tables. within_if (is_few (length tables)) tables)) values h in
    let (tables, are, h2) = taken (tables_alone all) (λ tables. within_if (is_few (length tables)) tables) values h1 in
    let (few, same) = tested (is_few (length tables)) tables values h2 in
    subst (λ (l : List Data). 0 < length l) same (leb-true 1 (length tables) (and_parts _ _ few).0)

entries_keepable : (members : Members) (entries : List Entry) → stations_of members ≡ Ok entries
    → AreKeepable (map numbered entries)
unfolding stations_of
entries_keepable members entries h =
    let (values, at, h1) = taken (station_values members) (stations_read (groups_of members) []) entries h in
    let some = values_some members values at in
    let read = stations_keepable (groups_of members) [] values entries (All-nil (λ e. IsKeepable (numbered e))) h1 in
    let count : length (map numbered entries) ≡ length entries = simp length-map in
    (omega (arith, read.size), All-map IsKeepable numbered entries read.each)

abbrev config_with : List ℕ → Option (List Token) → ℕ → List Entry → Config
config_with title access connections entries =
    record { title = title; max_connections = connections; access = access; entries = entries }

config_keepable : (members : Members) (config : Config) → config_of members ≡ Ok config
    → AreKeepable (map numbered config.entries)
unfolding config_of
config_keepable members config h =
    let (title, at_title, h1) = taken (title_of members) (λ title. access_of (groups_of members) members >>= (λ access.
    connections_of members >>= (λ n. stations_of members >>= (λ es. Ok (config_with title access n es))))) config h in
    let (access, at_access, h2) = taken (access_of (groups_of members) members) (λ access. connections_of members >>= (λ n.
    stations_of members >>= (λ es. Ok (config_with title access n es)))) config h1 in
    let (n, at_n, h3) = taken (connections_of members) (λ n.
    stations_of members >>= (λ es. Ok (config_with title access n es))) config h2 in
    let (es, at_es, h4) = taken (stations_of members) (λ es. Ok (config_with title access n es)) config h3 in
    let same : config_with title access n es ≡ config = cc in
    subst (λ (config : Config). AreKeepable (map numbered config.entries)) same (entries_keepable members es at_es)

pub read_keepable : (text : Option Members) (config : Config) → config_read text ≡ Ok config
    → AreKeepable (map numbered config.entries)
read_keepable None config h = absurd cc
read_keepable (Some members) config h = config_keepable members config h

-- ---- numbers of a file

abbrev number_with : List ℕ → List ℕ → ℕ → Numbered
number_with network code next = record { network = network; code = code; next = next }

number_keepable : (d : Data) (n : Numbered) → number_in d ≡ Ok n → IsKeepable n
unfolding number_in
number_keepable d n h =
    let (members, at_table, h1) = taken (table_in d) (λ members. network_of members >>= (λ network.
    code_of members >>= (λ code. next_of members >>= (λ next. Ok (number_with network code next))))) n h in
    let (network, at_network, h2) = taken (network_of members) (λ network. code_of members >>= (λ code.
    next_of members >>= (λ next. Ok (number_with network code next)))) n h1 in
    let (code, at_code, h3) = taken (code_of members) (λ code.
    next_of members >>= (λ next. Ok (number_with network code next))) n h2 in
    let (next, at_next, h4) = taken (next_of members) (λ next. Ok (number_with network code next)) n h3 in
    let same : number_with network code next ≡ n = cc in
    subst IsKeepable same (record {
      network = network_is members network at_network;
      code = code_is members code at_code;
      below = next_is members next at_next;
    })

numbers_keepable : (earlier : List Numbered) (ds : List Data) (all : List Numbered) → All IsKeepable earlier
    → numbers_after earlier ds ≡ Ok all → All IsKeepable all
numbers_keepable earlier [] all each h = let same : earlier ≡ all = cc in subst (All IsKeepable) same each
numbers_keepable earlier (d ∷ ds) all each h =
    let (n, at_n, h1) = taken (number_in d) (λ n. numbers_after (earlier ++ n ∷ []) ds) all h in
    numbers_keepable (earlier ++ n ∷ []) ds all (All-push IsKeepable earlier n each (number_keepable d n at_n)) h1

pub text_keepable : (text : Option Members) (all : List Numbered) → numbers_read text ≡ Ok all → All IsKeepable all
unfolding numbers_of
text_keepable None all h = absurd cc
text_keepable (Some members) all h =
    let (values, at, h1) = taken (elements_at (codes "station") members) (numbers_after []) all h in
    numbers_keepable [] values all (All-nil IsKeepable) h1
