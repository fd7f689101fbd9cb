-- Configurations that are the same but for who may use which station, and views that are the same.
use Rattle.std.proofs.Common.{◌≡◌, ◌↔◌, ℕ, true, false, true≢false, ◌==◌, List, [], ◌∷◌, map, Result, Ok, Err, refl}
use Rattle.std.proofs.Common.{sym, ap, ap₂, ◌∙◌, eqb-true, subst}
use Rattle.std.specs.List.{list_any}
use Rattle.std.specs.Str.{bytes_eq}
use Rattle.std.proofs.lemmas.Slice.Eq.{bytes_eq-Decides}
use Rattle.std.proofs.lemmas.Bool.{and_parts, eqb-false}
use Rattle.protocol.specs.Record.{Facts, header_of}
use Rattle.protocol.specs.declared.record.RecordFault.{RecordFault}
use Rattle.protocol.specs.Catalog.{Station, Entry, Config, View, has_codes, is_same_station, are_same_stations}
use Rattle.protocol.specs.Catalog.{is_same_view, stations_of, is_same_but_for_access}
use Rattle.protocol.specs.World.{Connection, is_configured, arrival_with, accepted, reloaded, reviewed, reviewed_by}
use Rattle.protocol.proofs.FoundLemmas.{both}

-- ---- equal, where the test says yes
bytes_same : (xs ys : List ℕ) → bytes_eq xs ys ≡ true → xs ≡ ys
bytes_same xs ys e = (bytes_eq-Decides xs ys).0 e

bytes_self : (xs : List ℕ) → bytes_eq xs xs ≡ true
bytes_self xs = (bytes_eq-Decides xs xs).1 refl

number_self : (n : ℕ) → (n == n) ≡ true
number_self n = both (n == n) (λ y. y) (λ apart. absurd (eqb-false n n apart refl))

station_same : (s t : Station) → is_same_station s t ≡ true → s ≡ t
station_same s t e =
    let all = and_parts _ _ e in
    let more = and_parts _ _ all.0 in
    let texts = and_parts _ _ more.0 in
    let codes = and_parts _ _ texts.0 in
    let network : s.network ≡ t.network = bytes_same _ _ codes.0 in
    let code : s.code ≡ t.code = bytes_same _ _ codes.1 in
    let description : s.description ≡ t.description = bytes_same _ _ texts.1 in
    let capacity : s.capacity ≡ t.capacity = eqb-true _ _ more.1 in
    let first : s.first ≡ t.first = eqb-true _ _ all.1 in
    λ i. record {
      network = network i;
      code = code i;
      description = description i;
      capacity = capacity i;
      first = first i;
    }

station_self : (s : Station) → is_same_station s s ≡ true
station_self s = rw (
  bytes_self s.network,
  bytes_self s.code,
  bytes_self s.description,
  number_self s.capacity,
  number_self s.first,
) refl

pub stations_same : (ss ts : List Station) → are_same_stations ss ts ≡ true → ss ≡ ts
stations_same [] [] e = refl
stations_same [] (t ∷ ts) e = absurd (true≢false (sym e))
stations_same (s ∷ ss) [] e = absurd (true≢false (sym e))
stations_same (s ∷ ss) (t ∷ ts) e =
    let parts = and_parts _ _ e in
    ap₂ (λ x xs. x ∷ xs) (station_same s t parts.0) (stations_same ss ts parts.1)

stations_self : (ss : List Station) → are_same_stations ss ss ≡ true
stations_self [] = refl
stations_self (s ∷ ss) = rw (station_self s) (stations_self ss)

pub view_same : (v w : View) → is_same_view v w ≡ true → v ≡ w
view_same v w e =
    let parts = and_parts _ _ e in
    let title : v.title ≡ w.title = bytes_same _ _ parts.0 in
    let stations : v.stations ≡ w.stations = stations_same _ _ parts.1 in
    λ i. record { title = title i; stations = stations i }

view_self : (v : View) → is_same_view v v ≡ true
view_self v = rw (bytes_self v.title, stations_self v.stations) refl

pub views_compared : (v w : View) → (is_same_view v w ≡ true) ↔ (v ≡ w)
views_compared v w = (view_same v w, λ e. subst (λ x. is_same_view v x ≡ true) e (view_self v))

but_for_access : (config new : Config) → is_same_but_for_access config new ≡ true
    → (config.title ≡ new.title) × (config.max_connections ≡ new.max_connections)
    × (stations_of config ≡ stations_of new)
but_for_access config new e =
    let all = and_parts _ _ e in
    let more = and_parts _ _ all.0 in
    (bytes_same _ _ more.0, eqb-true _ _ more.1, stations_same _ _ all.1)

equal_but_for_access : (config new : Config)
    → (config.title ≡ new.title) × (config.max_connections ≡ new.max_connections)
    × (stations_of config ≡ stations_of new) → is_same_but_for_access config new ≡ true
equal_but_for_access config new same =
    rw (
      ← same.0,
      ← same.1,
      ← same.2,
      bytes_self config.title,
      number_self config.max_connections,
      stations_self (stations_of config),
    ) refl

pub configurations_compared : (config new : Config)
    → (is_same_but_for_access config new ≡ true) ↔
    ((config.title ≡ new.title) × (config.max_connections ≡ new.max_connections)
    × (stations_of config ≡ stations_of new))
configurations_compared config new = (but_for_access config new, equal_but_for_access config new)

-- ---- what is configured
any_of_entries : (x : Facts) (entries : List Entry)
    → list_any (λ e. has_codes x.network x.station e.station) entries
    ≡ list_any (has_codes x.network x.station) (map (λ e. e.station) entries)
any_of_entries x [] = refl
any_of_entries x (e ∷ es) = both (has_codes x.network x.station e.station) (λ y. rw y) (λ n. rw n (any_of_entries x es))

pub same_configured : (config new : Config) → is_same_but_for_access config new ≡ true → (x : Facts)
    → is_configured new x ≡ is_configured config x
same_configured config new e x =
    any_of_entries x new.entries
    ∙ ap (λ ss. list_any (has_codes x.network x.station) ss) (sym (but_for_access config new e).2)
    ∙ sym (any_of_entries x config.entries)

same_arrival : (config new : Config) → is_same_but_for_access config new ≡ true
    → (r : List ℕ) (found : Result Facts RecordFault) → arrival_with new r found ≡ arrival_with config r found
same_arrival config new e r (Err f) = refl
same_arrival config new e r (Ok x) = rw (same_configured config new e x)

pub same_accepted : (config new : Config) (r : List ℕ) → is_same_but_for_access config new ≡ true
    → accepted new r ≡ accepted config r
same_accepted config new r e = same_arrival config new e r (header_of r)

-- ---- whether a new configuration comes into force
pub reloaded_where : (config new : Config) → is_same_but_for_access config new ≡ true → reloaded config new ≡ new
reloaded_where config new e = rw e

pub reloaded_not : (config new : Config) → is_same_but_for_access config new ≡ false → reloaded config new ≡ config
reloaded_not config new e = rw e

pub reviewed_where : (config new : Config) (cs : List Connection) → is_same_but_for_access config new ≡ true
    → reviewed_by config new cs ≡ map (reviewed new) cs
reviewed_where config new cs e = rw e

pub reviewed_not : (config new : Config) (cs : List Connection) → is_same_but_for_access config new ≡ false
    → reviewed_by config new cs ≡ cs
reviewed_not config new cs e = rw e
