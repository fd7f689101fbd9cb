-- What restarts tell of stations that a client does not see.
use Rattle.std.proofs.Common.{◌≡◌, ℕ, zero, suc, Bool, true, false, List, [], ◌∷◌, ◌++◌, filter, find, length, map}
use Rattle.std.proofs.Common.{slice_get}
use Rattle.std.proofs.Common.{Some, refl, sym, ap, ◌∙◌}
use Rattle.std.specs.Str.{bytes_eq}
use Rattle.std.proofs.lemmas.Bool.{and_parts}
use Rattle.std.proofs.lemmas.List.Sums.{length-filter}
use Rattle.std.proofs.lemmas.Slice.Eq.{bytes_eq-Decides}
use Rattle.protocol.specs.Catalog.{Config, Entry, Station, View, has_codes, stations_of}
use Rattle.protocol.specs.History.{Arrival, count_of, is_of}
use Rattle.protocol.specs.World.{handed, world_after}
use Rattle.protocol.specs.Alone.{handed_to}
use Rattle.protocol.proofs.FoundLemmas.{both}
use Rattle.protocol.proofs.Views.{alike}
use Rattle.catalog.specs.Numbers.{Numbered, config_by, entry_by, first_by, numbered}
use Rattle.number_file.specs.Tables.{is_of_another, with_nexts}
use Rattle.serving.specs.Ahead.{number_ahead}
use Rattle.serving.specs.Restarts.{AllAlike, AreAlike, Mine, RestartsTellNothing, Run, all_of, comes_to}
use Rattle.serving.specs.Restarts.{handed_in, is_mine}
use Rattle.serving.specs.Restarts.{kept_after, stations_for, view_for}
use Rattle.serving.specs.Restarts.AllAlike.{none, more}

-- a station that begins with the number that is kept for it
abbrev number_by : List Numbered → Station → Station
number_by kept s = record s { first = first_by kept s }

-- a station's codes are those of another
abbrev is_like : Station → Station → Bool
is_like s t = has_codes t.network t.code s

-- ---- codes

codes-same : (network code : List ℕ) (s : Station) → has_codes network code s ≡ true
    → (s.network ≡ network) × (s.code ≡ code)
codes-same network code s e =
    let has = and_parts (bytes_eq s.network network) (bytes_eq s.code code) e in
    ((bytes_eq-Decides s.network network).0 has.0, (bytes_eq-Decides s.code code).0 has.1)

like-itself : (s : Station) → is_like s s ≡ true
like-itself s =
    let network : bytes_eq s.network s.network ≡ true = (bytes_eq-Decides s.network s.network).1 refl in
    let code : bytes_eq s.code s.code ≡ true = (bytes_eq-Decides s.code s.code).1 refl in
    rw (network, code) refl

like-mine : (mine : Mine) (s t : Station) → is_like s t ≡ true → is_mine mine s ≡ true → is_mine mine t ≡ true
like-mine mine s t like is =
    let same = codes-same t.network t.code s like in
    ap (λ n. mine n t.code) (sym same.0) ∙ ap (λ c. mine s.network c) (sym same.1) ∙ is

module _ (mine : Mine) where
  -- ---- arrivals

  is-mine-of : (s : Station) (a : Arrival) → is_mine mine s ≡ true → is_of s a ≡ true → comes_to mine a ≡ true
  is-mine-of s a is of =
      let same = codes-same a.facts.network a.facts.station s of in
      ap (λ n. mine n a.facts.station) (sym same.0) ∙ ap (λ c. mine s.network c) (sym same.1) ∙ is

  -- as many records of a station came as there are among those of the client's stations
  both-filters : (s : Station) → is_mine mine s ≡ true → (h : List Arrival)
      → filter (is_of s) (filter (comes_to mine) h) ≡ filter (is_of s) h
  both-filters s is [] = refl
  both-filters s is (a ∷ h) =
      both (comes_to mine a)
      (λ y. rw y (both (is_of s a)
      (λ z. rw z (ap (λ l. a ∷ l) (both-filters s is h)))
      (λ z. rw z (both-filters s is h))))
      (λ n. rw n (both (is_of s a)
      (λ z. absurd (let yes : comes_to mine a ≡ true = is-mine-of s a is z in cc))
      (λ z. rw z (both-filters s is h))))

  count-mine : (s : Station) → is_mine mine s ≡ true → (h : List Arrival)
      → count_of s (filter (comes_to mine) h) ≡ count_of s h
  count-mine s is h =
      sym (length-filter (is_of s) (filter (comes_to mine) h))
      ∙ ap (λ (l : List Arrival). length l) (both-filters s is h) ∙ length-filter (is_of s) h

  -- ---- stations

  stations-numbered : (kept : List Numbered) (es : List Entry)
      → filter (is_mine mine) (map (λ e. e.station) (map (entry_by kept) es))
      ≡ map (number_by kept) (filter (is_mine mine) (map (λ e. e.station) es))
  stations-numbered kept [] = refl
  stations-numbered kept (e ∷ es) =
      both (is_mine mine e.station)
      (λ y. rw y (ap (λ l. number_by kept e.station ∷ l) (stations-numbered kept es)))
      (λ n. rw n (stations-numbered kept es))

  -- ---- what the file says of a station

  -- what is kept of it in a run that began with these numbers
  abbrev next_of : List Numbered → List Arrival → Station → ℕ
  next_of kept h t = number_ahead (first_by kept t) (count_of t h)

  found-next : (kept others : List Numbered) (h : List Arrival) (s t : Station) → is_mine mine s ≡ true
      → (es : List Entry) → find (is_like s) (filter (is_mine mine) (map (λ e. e.station) es)) ≡ Some t
      → first_by
      (with_nexts (map numbered (map (entry_by kept) es) ++ others)
      (map (λ e. number_ahead e.station.first (count_of e.station h)) (map (entry_by kept) es)))
      s ≡ next_of kept h t
  found-next kept others h s t is [] found = absurd (cc)
  found-next kept others h s t is (e ∷ es) found =
      both (is_like s e.station)
      (λ y.
      let own : is_mine mine e.station ≡ true = like-mine mine s e.station y is in
      let first : Some e.station ≡ Some t = rw (own, y) at found in
      let same : e.station ≡ t = cc in
      rw y (ap (next_of kept h) same))
      (λ n. rw n (found-next kept others h s t is es (both (is_mine mine e.station)
      (λ z. rw (z, n) at found)
      (λ z. rw z at found))))

  -- ---- the client's stations begin alike

  found-agree : (kept kept' : List Numbered) (p : Station → Bool) (t : Station) (ss : List Station)
      → map (number_by kept) ss ≡ map (number_by kept') ss → find p ss ≡ Some t → first_by kept t ≡ first_by kept' t
  found-agree kept kept' p t [] same found = absurd (cc)
  found-agree kept kept' p t (s ∷ ss) same found =
      let head : number_by kept s ≡ number_by kept' s = cc in
      let tail : map (number_by kept) ss ≡ map (number_by kept') ss = cc in
      both (p s)
      (λ y.
      let first : Some s ≡ Some t = rw y at found in
      let is : s ≡ t = cc in
      ap (first_by kept) (sym is) ∙ ap (λ (x : Station). x.first) head ∙ ap (first_by kept') is)
      (λ n. found-agree kept kept' p t ss tail (rw n at found))

  record Found (s : Station) (ss : List Station) : Type 0 where
    station : Station
    is : find (is_like s) ss ≡ Some station

  -- A station is found by its codes where it stands at the head, or else among the rest.
  finds-head : (x s : Station) (ss : List Station) → is_like s x ≡ false
      → ((k : ℕ) → slice_get ss k ≡ Some s → Found s ss)
      → (k : ℕ) → slice_get (x ∷ ss) k ≡ Some s → Found s (x ∷ ss)
  finds-head x s ss n rest zero at =
      let same : x ≡ s = cc in
      let yes : is_like s x ≡ true = ap (is_like s) same ∙ like-itself s in
      absurd (cc)
  finds-head x s ss n rest (suc k) at =
      let found = rest k at in record { station = found.station; is = rw n found.is }

  finds-itself : (ss : List Station) (s : Station) (k : ℕ) → slice_get ss k ≡ Some s → Found s ss
  finds-itself [] s k at = absurd (cc)
  finds-itself (x ∷ ss) s k at =
      both (is_like s x)
      (λ y. record { station = x; is = rw y refl })
      (λ n. finds-head x s ss n (finds-itself ss s) k at)

  mine-head : (x s : Station) (ss : List Station) → is_mine mine x ≡ true
      → ((k : ℕ) → slice_get ss k ≡ Some s → is_mine mine s ≡ true)
      → (k : ℕ) → slice_get (x ∷ ss) k ≡ Some s → is_mine mine s ≡ true
  mine-head x s ss y rest zero at = let same : x ≡ s = cc in ap (is_mine mine) (sym same) ∙ y
  mine-head x s ss y rest (suc k) at = rest k at

  mine-at : (ss : List Station) (s : Station) (k : ℕ) → slice_get (filter (is_mine mine) ss) k ≡ Some s
      → is_mine mine s ≡ true
  mine-at [] s k at = absurd (cc)
  mine-at (x ∷ ss) s k at =
      both (is_mine mine x)
      (λ y. mine-head x s (filter (is_mine mine) ss) y (mine-at ss s) k (rw y at at))
      (λ n. mine-at ss s k (rw n at at))

  found-mine : (s t : Station) → is_mine mine s ≡ true → (ss : List Station)
      → find (is_like s) ss ≡ Some t → is_mine mine t ≡ true
  found-mine s t is [] found = absurd (cc)
  found-mine s t is (y ∷ ss) found =
      both (is_like s y)
      (λ z.
      let first : Some y ≡ Some t = rw z at found in
      let same : y ≡ t = cc in
      ap (is_mine mine) (sym same) ∙ like-mine mine s y z is)
      (λ n. found-mine s t is ss (rw n at found))

  all-agree : (kept kept' : List Numbered) (ss : List Station)
      → ((k : ℕ) (s : Station) → slice_get ss k ≡ Some s → first_by kept s ≡ first_by kept' s)
      → map (number_by kept) ss ≡ map (number_by kept') ss
  all-agree kept kept' [] each = refl
  all-agree kept kept' (s ∷ ss) each =
      ap (λ n. (let x : Station = record s { first = n } in x) ∷ map (number_by kept) ss) (each 0 s refl)
      ∙ ap (λ l. number_by kept' s ∷ l) (all-agree kept kept' ss (λ k x at. each (suc k) x at))

  module _ (config config' : Config) (titles : config.title ≡ config'.title)
      (stations : stations_for mine config ≡ stations_for mine config') where
    abbrev own : List Station
    own = stations_for mine config

    -- After one run more they begin alike again.
    still-agree : (kept kept' : List Numbered) (r r' : Run) → map (number_by kept) own ≡ map (number_by kept') own
        → AreAlike mine (config_by kept config) (config_by kept' config') r r'
        → map (number_by (kept_after config kept r.events)) own
        ≡ map (number_by (kept_after config' kept' r'.events)) own
    still-agree kept kept' r r' agree x = all-agree _ _ own each
      where
        h : List Arrival
        h = (world_after (config_by kept config) r.events).history

        h' : List Arrival
        h' = (world_after (config_by kept' config') r'.events).history

        each : (k : ℕ) (s : Station) → slice_get own k ≡ Some s
            → first_by (kept_after config kept r.events) s ≡ first_by (kept_after config' kept' r'.events) s
        each k s at =
            let is : is_mine mine s ≡ true = mine-at (stations_of config) s k at in
            let f = finds-itself own s k at in
            let t : Station = f.station in
            let there : find (is_like s) (stations_for mine config') ≡ Some t =
            ap (find (is_like s)) (sym stations) ∙ f.is in
            let own_t : is_mine mine t ≡ true = found-mine s t is own f.is in
            found-next kept (filter (is_of_another (config_by kept config)) kept) h s t is config.entries f.is
            ∙ ap (λ n. number_ahead n (count_of t h)) (found-agree kept kept' (is_like s) t own agree f.is)
            ∙ ap (number_ahead (first_by kept' t))
            (sym (count-mine t own_t h) ∙ ap (count_of t) x.arrivals ∙ count-mine t own_t h')
            ∙ sym (found-next kept' (filter (is_of_another (config_by kept' config')) kept') h' s t is config'.entries
            there)

    same-views : (kept kept' : List Numbered) → map (number_by kept) own ≡ map (number_by kept') own
        → view_for mine (config_by kept config) ≡ view_for mine (config_by kept' config')
    same-views kept kept' agree =
        ap (λ t. (let v : View = record { title = t; stations = stations_for mine (config_by kept config) } in v))
        titles
        ∙ ap (λ l. (let v : View = record { title = config'.title; stations = l } in v))
        (stations-numbered kept config.entries ∙ agree ∙ ap (map (number_by kept')) stations
        ∙ sym (stations-numbered kept' config'.entries))

    all-alike : {kept kept' : List Numbered} {runs runs' : List Run}
        → map (number_by kept) own ≡ map (number_by kept') own
        → AllAlike mine config config' kept kept' runs runs'
        → handed_in config kept runs ≡ handed_in config' kept' runs'
    all-alike agree none = refl
    all-alike {kept = kept} {kept' = kept'} agree (more {r = r} {r' = r'} {runs = rs} x rest) =
        let here = alike (config_by kept config) (config_by kept' config') (all_of r) (all_of r') r.client r'.client
        (x.view ∙ same-views kept kept' agree ∙ sym x.view') x.own in
        ap (λ t. t ∷ handed_in config (kept_after config kept r.events) rs) here
        ∙ ap (λ l. handed_to r'.client (handed (config_by kept' config') (all_of r')) ∷ l)
        (all-alike (still-agree kept kept' r r' agree x) rest)

pub restarts-tell-nothing : RestartsTellNothing
restarts-tell-nothing mine config config' kept kept' runs runs' titles stations begin x =
    let agree : map (number_by kept) (stations_for mine config) ≡ map (number_by kept') (stations_for mine config) =
    sym (stations-numbered mine kept config.entries) ∙ begin ∙ stations-numbered mine kept' config'.entries
    ∙ ap (map (number_by kept')) (sym stations) in
    all-alike mine config config' titles stations agree x
