-- The first step that fails.
use Rattle.std.proofs.Common.{◌≡◌, ◌∙◌, ℕ, List, Option, Some, None, Result, Ok, Err, refl, sym, ap, subst, true}
use Rattle.std.proofs.Common.{option_map, ◌<◌, ◌+◌, [], ◌∷◌, ◌++◌, get_or, length, map, take}
use Rattle.std.proofs.lemmas.List.{get_or-map, length-map, take_more}
use Rattle.std.proofs.lemmas.Option.{slice_get-get_or}
use Rattle.std.specs.Result.{result_err, result_ok}
use Rattle.toml.specs.Data.{Data, Members}
use Rattle.toml.specs.View.{view}
use Rattle.toml.specs.declared.value.Value.{Value}
use Rattle.protocol.specs.Catalog.{Entry}
use Rattle.catalog.specs.Failing.{FailsAmong, FailsAtPlace, FailsAtStep, FailsWithin, fault_at}
use Rattle.catalog.specs.Keys.{table_in}
use Rattle.catalog.specs.Reading.{entry_of, is_repeated, not_repeated, station_of, stations_read}
use Rattle.catalog.specs.Settings.{code_of, key_fault, key_steps, network_of}
use Rattle.catalog.specs.Steps.{◌>>=◌, fault_or, first_fault}
use Rattle.catalog.specs.declared.fault.ConfigFault.{ConfigFault}
use Rattle.catalog.specs.declared.fault.ConfigFault.TheVariants.{Duplicate}
use Rattle.catalog.specs.declared.error.ConfigError.{ConfigError}
use Rattle.catalog.specs.declared.error.Step.{Step}
use Rattle.catalog.specs.declared.error.Step.TheVariants as step
use Rattle.catalog.specs.declared.settings.StationStep.TheVariants.{Codes}

-- what a step has read
pub value_read : {A : Type 0} (r : Result A ConfigFault) (x : A) → r ≡ Ok x → result_ok r ≡ Some x
value_read r x e = rw e refl

-- what comes after a step that succeeds
pub goes_on : {A B : Type 0} (r : Result A ConfigFault) (next : A → Result B ConfigFault) (x : A) → r ≡ Ok x
    → (r >>= next) ≡ next x
goes_on r next x e = rw e refl

-- a step that fails is all
pub stops : {A B : Type 0} (r : Result A ConfigFault) (next : A → Result B ConfigFault) (fault : ConfigFault)
    → r ≡ Err fault → (r >>= next) ≡ Err fault
stops r next fault e = rw e refl

-- ---- the first step that fails

-- a step that does not fail
or_later : {S : Type 0} (s : S) (fault : Option ConfigFault) (later more all : Option (S × ConfigFault))
    → fault_or s fault later ≡ None → (later ≡ None → more ≡ all) → fault_or s fault more ≡ all
or_later s None later more all none rest = rest none
or_later s (Some fault) later more all none rest = absurd cc

-- of steps none of which fails, and those after them
first_past : {S : Type 0} (fault_at : S → Option ConfigFault) (steps later : List S)
    → first_fault fault_at steps ≡ None → first_fault fault_at (steps ++ later) ≡ first_fault fault_at later
first_past fault_at [] later none = refl
first_past fault_at (s ∷ ss) later none =
    or_later s (fault_at s) (first_fault fault_at ss) _ _ none (first_past fault_at ss later)

-- ---- one station after the other

-- steps of which the last two are one
two_as_one : {A B : Type 0} (r : Result A ConfigFault) (all first : A → Result B ConfigFault)
    (rest : B → Result B ConfigFault) → ((x : A) → all x ≡ (first x >>= rest)) → (r >>= all) ≡ ((r >>= first) >>= rest)
two_as_one (Ok x) all first rest same = same x
two_as_one (Err e) all first rest same = refl

-- stations that are read in two parts
read_then : (groups : Option Members) (earlier : List Entry) (ds more : List Data)
    → stations_read groups earlier (ds ++ more)
    ≡ (stations_read groups earlier ds >>= (λ es. stations_read groups es more))
read_then groups earlier [] more = refl
read_then groups earlier (d ∷ ds) more =
    two_as_one (station_of groups earlier d) (λ e. stations_read groups (earlier ++ e ∷ []) (ds ++ more))
    (λ e. stations_read groups (earlier ++ e ∷ []) ds) (λ es. stations_read groups es more)
    (λ e. read_then groups (earlier ++ e ∷ []) ds more)

-- one more is read
pub read_next : (groups : Option Members) (ds : List Data) (i : ℕ) (d : Data) (earlier : List Entry) → i < length ds → d ≡ get_or ds i d
    → stations_read groups [] (take i ds) ≡ Ok earlier
    → stations_read groups [] (take (i + 1) ds) ≡ (station_of groups earlier d >>= (λ e. Ok (earlier ++ e ∷ [])))
read_next groups ds i d earlier inside item before =
    ap (stations_read groups []) (take_more ds i d inside ∙ ap (λ x. take i ds ++ x ∷ []) (sym item))
    ∙ read_then groups [] (take i ds) (d ∷ [])
    ∙ ap (λ (r : Result (List Entry) ConfigFault). r >>= (λ es. stations_read groups es (d ∷ []))) before

-- a value among those that describe the stations, as data
pub value_item : (values : List Value) (i : ℕ) (value : Value) → i < length values → value ≡ get_or values i value
    → (i < length (map view values)) × (view value ≡ get_or (map view values) i (view value))
value_item values i value inside item =
    let size : length (map view values) ≡ length values = length-map values view in
    let at : get_or (map view values) i (view value) ≡ view (get_or values i value) =
    get_or-map view values i value (view value) inside in
    (subst (λ n. i < n) (sym size) inside, ap view item ∙ sym at)

-- the station at a place fails first, and the error says so
pub fails_at_place : (groups : Option Members) (values : List Value) (i : ℕ) (value : Value) (earlier : List Entry)
    (e : ConfigError) (s : Step)
    → i < length values → value ≡ get_or values i value
    → stations_read groups [] (take i (map view values)) ≡ Ok earlier → length earlier ≡ i
    → FailsWithin groups (length earlier) earlier (table_in (view value)) e
    → FailsAtStep groups (length earlier) earlier (table_in (view value)) e s
    → station_of groups earlier (view value) ≡ Err e.fault → FailsAmong groups (map view values) e s
fails_at_place groups values i value earlier e (step.Station p s) inside item before size within at failed =
    let there = value_item values i value inside item in
    let place : i ≡ p = sym size ∙ sym at.0 in
    subst (FailsAtPlace groups (map view values) e) place
    (record {
      earlier = earlier;
      value = view value;
      before = before;
      there = slice_get-get_or (map view values) i (view value) there.0 ∙ ap Some (sym there.1);
      first = subst (λ n. FailsWithin groups n earlier (table_in (view value)) e) size within;
      fails =
          read_next groups (map view values) i (view value) earlier there.0 there.1 before
          ∙ stops (station_of groups earlier (view value)) _ e.fault failed;
    })
fails_at_place groups values i value earlier e step.Text inside item before size within at failed = elim at [ ]
fails_at_place groups values i value earlier e step.Title inside item before size within at failed = elim at [ ]
fails_at_place groups values i value earlier e step.Access inside item before size within at failed = elim at [ ]
fails_at_place groups values i value earlier e step.MaxConnections inside item before size within at failed = elim at [ ]
fails_at_place groups values i value earlier e step.Stations inside item before size within at failed = elim at [ ]

-- a repeated station is refused
repeated_fails : (earlier : List Entry) (entry : Entry) → is_repeated earlier entry.station ≡ true
    → not_repeated earlier entry ≡ Err Duplicate
repeated_fails earlier entry h = rw h refl

-- a station whose keys are read, and whose codes an earlier one has
pub repeated_first : (groups : Option Members) (earlier : List Entry) (table : Result Members ConfigFault) (m : Members) (entry : Entry)
    (place : ℕ) (e : ConfigError) → table ≡ Ok m → first_fault (key_fault groups m) key_steps ≡ None
    → entry_of groups m ≡ Ok entry
    → network_of m ≡ Ok entry.station.network → code_of m ≡ Ok entry.station.code
    → is_repeated earlier entry.station ≡ true → e.fault ≡ Duplicate → e.step ≡ step.Station place Codes
    → option_map (λ text. text.items) e.network ≡ Some entry.station.network
    → option_map (λ text. text.items) e.code ≡ Some entry.station.code → FailsWithin groups place earlier table e
repeated_first groups earlier table m entry place e is none read network code again fault at net cod =
    let fails = goes_on (entry_of groups m) (not_repeated earlier) entry read ∙ repeated_fails earlier entry again
    ∙ ap Err (sym fault) in
    let first = first_past (fault_at groups earlier (Ok m)) key_steps (Codes ∷ []) none
    ∙ ap (λ r. fault_or Codes (result_err r) None) fails in
    subst (FailsAtStep groups place earlier table e) (sym at)
    (subst (λ t. FailsAtStep groups place earlier t e (step.Station place Codes)) (sym is)
    (refl, (first, net ∙ sym (value_read _ _ network), cod ∙ sym (value_read _ _ code))))
