-- How far kept numbers are ahead.
use Rattle.std.proofs.Common.{◌≡◌, ℕ, zero, suc, ◌+◌, ◌-◌, ◌*◌, ◌%◌, ◌/◌, ◌<◌, ◌≤◌, List, [], ◌∷◌, ◌++◌, length, map}
use Rattle.std.proofs.Common.{if◌then◌else◌, get_or, take, slice_get, Option, Some, None, option_map, refl, sym, ap}
use Rattle.std.proofs.Common.{◌∙◌, arith}
use Rattle.std.specs.List.{sum_by}
use Rattle.std.proofs.lemmas.Bool.Decides.{nat_tests}
use Rattle.std.proofs.Math.Nat.{add-mul-mod_self_left, mod-add-div}
use Rattle.std.proofs.lemmas.List.{take_all}
use Rattle.std.proofs.lemmas.List.Sums.{count_by-le-length, sum_by-append, sum_by-cons}
use Rattle.protocol.specs.Packet.{numbers}
use Rattle.protocol.specs.Catalog.{Config, Entry, Station, stations_of, is_same_but_for_access}
use Rattle.protocol.specs.History.{Arrival, count_of, is_of, number_at}
use Rattle.protocol.specs.World.{Event, config_after, reloaded}
use Rattle.protocol.specs.World.Event.{Open, Bytes, Take, Close, Arrive, Reload}
use Rattle.protocol.proofs.Configs.{configurations_compared, reloaded_not, reloaded_where}
use Rattle.protocol.proofs.FoundLemmas.{both}
use Rattle.station_ring.specs.Rings.{RingValue}
use Rattle.station_ring.specs.HeldRecords.{holdings_of, ring_of}
use Rattle.station_ring.specs.Levels.{level, raises_after}
use Rattle.station_ring.proofs.ArrivalLemmas.{length-arrivals_of}
use Rattle.station_ring.proofs.LevelLemmas.{level-grows}
use Rattle.serving.specs.Ahead.{ahead, ahead_in, number_ahead, numbers_ahead, room}
use Rattle.serving.specs.Keeping.{IsAhead}

-- ---- one station

mod-then : (a b : ℕ) → (a % numbers + b) % numbers ≡ (a + b) % numbers
mod-then a b =
    let parts : a % numbers + numbers * (a / numbers) ≡ a = mod-add-div a numbers in
    sym (ap (λ n. (n + b) % numbers) (sym parts)
    ∙ ap (λ n. n % numbers) (regroup (a % numbers) (numbers * (a / numbers)) b)
    ∙ add-mul-mod_self_left (a % numbers + b) numbers (a / numbers))
  where
    regroup : (x y z : ℕ) → x + y + z ≡ x + z + y
    regroup x y z = omega arith

-- the number of a station after a history
numbered : (s : Station) (h : List Arrival) → number_at s h (length h) ≡ (s.first + count_of s h) % numbers
numbered s h = ap (λ l. (s.first + count_of s l) % numbers) (take_all (length h) h (omega arith))

-- how far what is kept is ahead
ahead-least : (count : ℕ) → count + 1025 ≤ ahead count
unfolding ahead
ahead-least count = grind (arith, nat_tests)

ahead-most : (count : ℕ) → ahead count ≤ count + room
unfolding ahead
ahead-most count = grind (arith, nat_tests)

-- What is kept changes with the level alone.
ahead-level : (a b : ℕ) → level a ≡ level b → ahead a ≡ ahead b
unfolding level ahead
ahead-level a b same = grind (arith, nat_tests, same)

-- the number that is so far ahead of the next one
pub ahead-next : (next first count gap result : ℕ) → next ≡ (first + count) % numbers → count + gap ≡ ahead count
    → result ≡ (next + gap) % numbers → result ≡ number_ahead first count
ahead-next next first count gap result is far made =
    let whole : first + count + gap ≡ first + ahead count = omega arith in
    made ∙ ap (λ n. (n + gap) % numbers) is ∙ mod-then (first + count) gap ∙ ap (λ n. n % numbers) whole

counted : (s : Station) (earlier later : List Arrival)
    → count_of s (earlier ++ later) ≡ count_of s earlier + count_of s later
counted s earlier later = sum_by-append (λ x. if is_of s x then 1 else 0) earlier later

ahead-one : (least : ℕ) (s : Station) (earlier later : List Arrival) → length later + least ≤ 1025
    → IsAhead least (number_at s (earlier ++ later) (length (earlier ++ later)))
    (number_ahead s.first (count_of s earlier))
ahead-one least s earlier later few =
    let before : ℕ = count_of s earlier in
    let since : ℕ = count_of s later in
    let at_most : since ≤ length later = count_by-le-length (is_of s) later in
    let all : count_of s (earlier ++ later) ≡ before + since = counted s earlier later in
    let low : before + 1025 ≤ ahead before = ahead-least before in
    let high : ahead before ≤ before + room = ahead-most before in
    record {
      gap = ahead before - (before + since);
      some = omega arith;
      few = omega arith;
      is = ap (λ n. n % numbers) (let same : s.first + ahead before ≡ s.first + count_of s (earlier ++ later)
          + (ahead before - (before + since)) = omega arith in same)
          ∙ sym (mod-then (s.first + count_of s (earlier ++ later)) (ahead before - (before + since)))
          ∙ ap (λ n. (n + (ahead before - (before + since))) % numbers) (sym (numbered s (earlier ++ later)));
    }

-- ---- all of them

pub ahead-at : (least : ℕ) (es : List Entry) (earlier later : List Arrival) (place : ℕ) → length later + least ≤ 1025
    → place < length es
    → IsAhead least
    (get_or (map (λ e. number_at e.station (earlier ++ later) (length (earlier ++ later))) es) place 0)
    (get_or (map (λ e. number_ahead e.station.first (count_of e.station earlier)) es) place 0)
ahead-at least [] earlier later place few inside = absurd (omega arith)
ahead-at least (e ∷ es) earlier later zero few inside = ahead-one least e.station earlier later few
ahead-at least (e ∷ es) earlier later (suc place) few inside = ahead-at least es earlier later place few (omega arith)

-- the levels of stations after a history
abbrev levels_of : List Entry → List Arrival → ℕ
levels_of es h = sum_by (λ e. level (count_of e.station h)) es

abbrev entry_level : List Arrival → Entry → ℕ
entry_level h e = level (count_of e.station h)

-- They don't fall.
level-later : (s : Station) (earlier later : List Arrival)
    → level (count_of s earlier) ≤ level (count_of s (earlier ++ later))
level-later s earlier later = level-grows (count_of s earlier) (count_of s (earlier ++ later))
    (let all = counted s earlier later in omega arith)

levels-later : (es : List Entry) (earlier later : List Arrival)
    → levels_of es earlier ≤ levels_of es (earlier ++ later)
levels-later [] earlier later = omega arith
levels-later (e ∷ es) earlier later =
    let one = level-later e.station earlier later in
    let rest = levels-later es earlier later in
    let before : levels_of (e ∷ es) earlier ≡ level (count_of e.station earlier) + levels_of es earlier =
    sum_by-cons (entry_level earlier) e es in
    let after : levels_of (e ∷ es) (earlier ++ later)
    ≡ level (count_of e.station (earlier ++ later)) + levels_of es (earlier ++ later) =
    sum_by-cons (entry_level (earlier ++ later)) e es in
    omega arith

-- What is kept of each station is the same if all levels together are.
levels-same : (es : List Entry) (earlier later : List Arrival) → levels_of es (earlier ++ later) ≤ levels_of es earlier
    → map (λ e. number_ahead e.station.first (count_of e.station (earlier ++ later))) es
    ≡ map (λ e. number_ahead e.station.first (count_of e.station earlier)) es
levels-same [] earlier later few = refl
levels-same (e ∷ es) earlier later few =
    let one = level-later e.station earlier later in
    let rest = levels-later es earlier later in
    let before : levels_of (e ∷ es) earlier ≡ level (count_of e.station earlier) + levels_of es earlier =
    sum_by-cons (entry_level earlier) e es in
    let after : levels_of (e ∷ es) (earlier ++ later)
    ≡ level (count_of e.station (earlier ++ later)) + levels_of es (earlier ++ later) =
    sum_by-cons (entry_level (earlier ++ later)) e es in
    let here : level (count_of e.station (earlier ++ later)) ≡ level (count_of e.station earlier) = omega arith in
    let there : levels_of es (earlier ++ later) ≤ levels_of es earlier = omega arith in
    ap (λ n. (e.station.first + n) % numbers ∷ map
    (λ x. number_ahead x.station.first (count_of x.station (earlier ++ later))) es)
    (ahead-level (count_of e.station (earlier ++ later)) (count_of e.station earlier) here)
    ∙ ap (λ l. number_ahead e.station.first (count_of e.station earlier) ∷ l) (levels-same es earlier later there)

pub ahead-same : (config : Config) (earlier later : List Arrival)
    → raises_after config (earlier ++ later) ≤ raises_after config earlier
    → numbers_ahead config (earlier ++ later) ≡ numbers_ahead config earlier
ahead-same config earlier later few = levels-same config.entries earlier later few

-- ---- by the rings

ahead-rings : (h : List Arrival) (es : List Entry)
    → map (λ r. number_ahead r.first r.pushes) (map (λ e. ring_of e.station h) es)
    ≡ map (λ e. number_ahead e.station.first (count_of e.station h)) es
ahead-rings h [] = refl
ahead-rings h (e ∷ es) =
    ap (λ n. number_ahead e.station.first n
    ∷ map (λ r. number_ahead r.first r.pushes) (map (λ x. ring_of x.station h) es))
    (length-arrivals_of e.station 0 h)
    ∙ ap (λ ns. number_ahead e.station.first (count_of e.station h) ∷ ns) (ahead-rings h es)

pub ahead-held : (config : Config) (h : List Arrival) → ahead_in (holdings_of config h) ≡ numbers_ahead config h
unfolding holdings_of
ahead-held config h = ahead-rings h config.entries

-- what is kept of the ring at a place, where one is there
pub ahead-place : (rs : List RingValue) (place : ℕ) (o : Option RingValue) → o ≡ slice_get rs place
    → option_map (λ r. number_ahead r.first r.pushes) o ≡ slice_get (map (λ r. number_ahead r.first r.pushes) rs) place
ahead-place [] place o e = ap (option_map (λ r. number_ahead r.first r.pushes)) e
ahead-place (r ∷ rs) zero o e = ap (option_map (λ r. number_ahead r.first r.pushes)) e
ahead-place (r ∷ rs) (suc place) o e = ahead-place rs place o e

-- ---- stations that stay

stations-reloaded : (config new : Config) → stations_of (reloaded config new) ≡ stations_of config
stations-reloaded config new =
    both (is_same_but_for_access config new)
    (λ y. ap stations_of (reloaded_where config new y) ∙ sym ((configurations_compared config new).0 y).2)
    (λ n. ap stations_of (reloaded_not config new n))

pub stations-stay : (config : Config) (es : List Event) → stations_of (config_after config es) ≡ stations_of config
stations-stay config [] = refl
stations-stay config (Open a ∷ es) = stations-stay config es
stations-stay config (Bytes k bytes ∷ es) = stations-stay config es
stations-stay config (Take k n ∷ es) = stations-stay config es
stations-stay config (Close k ∷ es) = stations-stay config es
stations-stay config (Arrive r ∷ es) = stations-stay config es
stations-stay config (Reload new ∷ es) = stations-stay (reloaded config new) es ∙ stations-reloaded config new

by-stations : (h : List Arrival) (es : List Entry)
    → map (λ e. number_ahead e.station.first (count_of e.station h)) es
    ≡ map (λ s. number_ahead s.first (count_of s h)) (map (λ e. e.station) es)
by-stations h [] = refl
by-stations h (e ∷ es) = ap (λ ns. number_ahead e.station.first (count_of e.station h) ∷ ns) (by-stations h es)

pub ahead-stays : (config : Config) (es : List Event) (h : List Arrival)
    → numbers_ahead (config_after config es) h ≡ numbers_ahead config h
ahead-stays config es h =
    let k : Config = config_after config es in
    by-stations h k.entries
    ∙ ap (map (λ s. number_ahead s.first (count_of s h))) (stations-stay config es)
    ∙ sym (by-stations h config.entries)

levels-by-stations : (h : List Arrival) (es : List Entry)
    → levels_of es h ≡ sum_by (λ s. level (count_of s h)) (map (λ e. e.station) es)
levels-by-stations h [] = refl
levels-by-stations h (e ∷ es) =
    sum_by-cons (entry_level h) e es
    ∙ ap (λ n. level (count_of e.station h) + n) (levels-by-stations h es)
    ∙ sym (sum_by-cons (λ (s : Station). level (count_of s h)) e.station (map (λ x. x.station) es))

pub raises-stay : (config : Config) (es : List Event) (h : List Arrival)
    → raises_after (config_after config es) h ≡ raises_after config h
raises-stay config es h =
    let k : Config = config_after config es in
    levels-by-stations h k.entries
    ∙ ap (sum_by (λ s. level (count_of s h))) (stations-stay config es)
    ∙ sym (levels-by-stations h config.entries)

-- ---- numbers one after the other

-- the number at a place
pub one-more : (xs : List ℕ) (i x : ℕ) → Some x ≡ slice_get xs i → take i xs ++ x ∷ [] ≡ take (suc i) xs
one-more [] i x e = absurd (cc)
one-more (y ∷ xs) zero x e = let same : x ≡ y = cc in ap (λ z. z ∷ []) same
one-more (y ∷ xs) (suc i) x e = ap (λ l. y ∷ l) (one-more xs i x e)

pub some-there : (xs : List ℕ) (i : ℕ) → None ≡ slice_get xs i → i < length xs → ⊥
some-there [] i e inside = omega (arith, inside)
some-there (y ∷ xs) zero e inside = cc
some-there (y ∷ xs) (suc i) e inside = some-there xs i e (omega (arith, inside))
