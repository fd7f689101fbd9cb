-- The first arrivals that requests want are kept, one after the other.
use Rattle.std.proofs.Common.{◌≡◌, ℕ, ◌+◌, ◌<◌, ◌≤◌, zero, suc, List, [], ◌∷◌, length, map, filter_map, Option, Some}
use Rattle.std.proofs.Common.{None, unwrap_or, slice_get, slice_index_or, refl, sym, ap, subst, ◌∙◌, arith}
use Rattle.std.proofs.lemmas.Option.{slice_get-get_or}
use Rattle.protocol.specs.Catalog.{Config}
use Rattle.protocol.specs.History.{Arrival}
use Rattle.protocol.specs.Session.{wish_of}
use Rattle.protocol.specs.Client.{request_of}
use Rattle.protocol.specs.Client.State.{Transfer as ClientTransfer}
use Rattle.station_ring.specs.HeldRecords.{RingsValue, holdings_of}
use Rattle.session_state.specs.NamedValues.{Choice}
use Rattle.session_state.specs.NamedValues.{ModeValue}
use Rattle.session_state.specs.NamedValues.ModeValue.{Uni, Multi}
use Rattle.session_state.specs.declared.session.State.TheVariants.{Starting}
use Rattle.session_state.specs.Choices.{choices_in, chosen_of, kept_at, kept_in}
use Rattle.session_state.specs.Sessions.{SessionValue, client_in, HasFirst, HasFirsts}
use Rattle.transfer.specs.Cursors.{BeginsIn, OfAll}
use Rattle.transfer.proofs.RestLemmas.{choice-within}

-- What is kept changes nothing of what was negotiated.
kept-same : (config : Config) (cs : List Choice) (i first : ℕ)
    → choices_in config (kept_at i first cs (slice_get cs i)) ≡ choices_in config cs
kept-same config [] i first = refl
kept-same config (c ∷ cs) zero first = refl
kept-same config (c ∷ cs) (suc i) first = later (slice_get cs i) (kept-same config cs i first)
  where
    later : (o : Option Choice) → choices_in config (kept_at i first cs o) ≡ choices_in config cs
        → choices_in config (kept_at (suc i) first (c ∷ cs) o) ≡ choices_in config (c ∷ cs)
    later None e = refl
    later (Some x) e = rw e

kept-length : (cs : List Choice) (i first : ℕ) → length (kept_at i first cs (slice_get cs i)) ≡ length cs
kept-length [] i first = refl
kept-length (c ∷ cs) zero first = refl
kept-length (c ∷ cs) (suc i) first = later (slice_get cs i) (kept-length cs i first)
  where
    later : (o : Option Choice) → length (kept_at i first cs o) ≡ length cs
        → length (kept_at (suc i) first (c ∷ cs) o) ≡ length (c ∷ cs)
    later None e = refl
    later (Some x) e = ap suc e

-- What is true of the choices before the i-th, and of that with what is kept, is true of so many.
kept-true : (P : Choice → Type 0) (cs : List Choice) (i first j : ℕ) (x : Choice)
    → ((y : Choice) → j < i → slice_get cs j ≡ Some y → P y)
    → ((y : Choice) → slice_get cs i ≡ Some y → P (record y { first = first })) → j < i + 1
    → slice_get (kept_at i first cs (slice_get cs i)) j ≡ Some x → P x
kept-true P [] i first j x before here low e = absurd cc
kept-true P (c ∷ cs) zero first zero x before here low e = at_front (sym e)
  where
    at_front : Some x ≡ Some (record c { first = first }) → P x
    at_front q = subst P (sym (ap (λ o. unwrap_or o x) q)) (here c refl)
kept-true P (c ∷ cs) zero first (suc j) x before here low e = absurd (omega arith)
kept-true P (c ∷ cs) (suc i) first zero x before here low e = before x (omega arith) (front (slice_get cs i) e)
  where
    front : (o : Option Choice) → slice_get (kept_at (suc i) first (c ∷ cs) o) 0 ≡ Some x
        → slice_get (c ∷ cs) 0 ≡ Some x
    front None e = e
    front (Some y) e = e
kept-true P (c ∷ cs) (suc i) first (suc j) x before here low e =
    kept-true P cs i first j x (λ y lt q. before y (omega arith) q) here (omega arith) (later (slice_get cs i) e)
  where
    later : (o : Option Choice) → slice_get (kept_at (suc i) first (c ∷ cs) o) (suc j) ≡ Some x
        → slice_get (kept_at i first cs o) j ≡ Some x
    later None e = e
    later (Some y) e = e

-- So many requests have their first arrival, and all else is as it was.
pub record Keeps (rings : RingsValue) (i : ℕ) (now start : SessionValue) : Type 0 where
  pub same : (config : Config) (h : List Arrival) → client_in config h now ≡ client_in config h start
  pub state : now.state ≡ start.state
  pub places : now.places ≡ start.places
  pub unread : now.unread ≡ start.unread
  pub waiting : now.waiting ≡ start.waiting
  pub count : length (chosen_of now.mode) ≡ length (chosen_of start.mode)
  pub firsts : (config : Config) (h : List Arrival) → rings ≡ holdings_of config h → (j : ℕ) (x : Choice) → j < i
      → slice_get (chosen_of now.mode) j ≡ Some x → HasFirst config h x
  pub begins : (j : ℕ) (x : Choice) → j < i → slice_get (chosen_of now.mode) j ≡ Some x → BeginsIn rings x

client-kept : (config : Config) (h : List Arrival) (a : SessionValue) (i first : ℕ) (mode : ModeValue)
    → client_in config h (record a { mode = kept_in mode i first; state = Starting })
    ≡ client_in config h (record a { mode = mode; state = Starting })
client-kept config h a i first (Uni ps) = refl
client-kept config h a i first (Multi n) =
    ap
    (λ cs. record {
      state = ClientTransfer (map (request_of h) (filter_map wish_of cs)) 0;
      open_line = a.open_line;
      unread = a.unread;
      waiting = a.waiting;
    }) (kept-same config n.choices i first)

mode-length : (mode : ModeValue) (i first : ℕ) → length (chosen_of (kept_in mode i first)) ≡ length (chosen_of mode)
mode-length (Uni ps) i first = refl
mode-length (Multi n) i first = kept-length n.choices i first

mode-true : (P : Choice → Type 0) (mode : ModeValue) (i first j : ℕ) (x : Choice)
    → ((y : Choice) → j < i → slice_get (chosen_of mode) j ≡ Some y → P y)
    → ((y : Choice) → slice_get (chosen_of mode) i ≡ Some y → P (record y { first = first })) → j < i + 1
    → slice_get (chosen_of (kept_in mode i first)) j ≡ Some x → P x
mode-true P (Uni ps) i first j x before here low e = absurd cc
mode-true P (Multi n) i first j x before here low e = kept-true P n.choices i first j x before here low e

pub keeps-on : (rings : RingsValue) (a n start : SessionValue) (i first : ℕ) → start.state ≡ Starting
    → n ≡ record a { mode = kept_in a.mode i first }
    → ((config : Config) (h : List Arrival) → rings ≡ holdings_of config h → (y : Choice)
    → slice_get (chosen_of a.mode) i ≡ Some y → HasFirst config h (record y { first = first }))
    → ((y : Choice) → slice_get (chosen_of a.mode) i ≡ Some y → BeginsIn rings (record y { first = first }))
    → Keeps rings i a start → Keeps rings (i + 1) n start
keeps-on rings a n start i first starts made is_first is_begin so_far =
    let state : a.state ≡ Starting = so_far.state ∙ starts in
    record {
      same = λ config h.
          ap (client_in config h) made
          ∙ ap (λ t. client_in config h (record a { mode = kept_in a.mode i first; state = t })) state
          ∙ client-kept config h a i first a.mode
          ∙ ap (λ t. client_in config h (record a { state = t })) (sym state)
          ∙ so_far.same config h;
      state = ap (λ (s : SessionValue). s.state) made ∙ so_far.state;
      places = ap (λ (s : SessionValue). s.places) made ∙ so_far.places;
      unread = ap (λ (s : SessionValue). s.unread) made ∙ so_far.unread;
      waiting = ap (λ (s : SessionValue). s.waiting) made ∙ so_far.waiting;
      count = ap (λ (s : SessionValue). length (chosen_of s.mode)) made ∙ mode-length a.mode i first ∙ so_far.count;
      firsts = λ config h holds j x low e. mode-true (HasFirst config h) a.mode i first j x
          (λ y lt q. so_far.firsts config h holds j y lt q) (is_first config h holds) low
          (ap (λ (s : SessionValue). slice_get (chosen_of s.mode) j) (sym made) ∙ e);
      begins = λ j x low e. mode-true (BeginsIn rings) a.mode i first j x
          (λ y lt q. so_far.begins j y lt q) is_begin low
          (ap (λ (s : SessionValue). slice_get (chosen_of s.mode) j) (sym made) ∙ e);
    }

pub keeps-none : (rings : RingsValue) (start : SessionValue) → Keeps rings 0 start start
keeps-none rings start = record {
  same = λ config h. refl;
  state = refl;
  places = refl;
  unread = refl;
  waiting = refl;
  count = refl;
  firsts = λ config h holds j x low e. absurd (omega arith);
  begins = λ j x low e. absurd (omega arith);
}

-- All requests have their first arrival.
pub has-firsts : (rings : RingsValue) (s start : SessionValue) (i : ℕ) → length (chosen_of start.mode) ≤ i
    → Keeps rings i s start → (config : Config) (h : List Arrival) → rings ≡ holdings_of config h → HasFirsts config h s
has-firsts rings s start i all keeps config h holds = λ k d low.
    keeps.firsts config h holds k (slice_index_or (chosen_of s.mode) k d) (omega (arith, keeps.count, low))
    (slice_get-get_or (chosen_of s.mode) k d low)

pub keep-there : (rings : RingsValue) (i count : ℕ) (now start : SessionValue) → i < count
    → count ≡ length (chosen_of start.mode) → Keeps rings i now start → i < length (chosen_of now.mode)
keep-there rings i count now start low all keeps = omega (arith, keeps.count)

pub ruleset start_lemmas = (keeps-none, keep-there)

-- What is kept for the choice at a place is kept for the one that is found there.
pub one-first : (rings : RingsValue) (cs : List Choice) (i first : ℕ) (c : Choice) → i < length cs
    → c ≡ slice_index_or cs i c
    → ((config : Config) (h : List Arrival) → rings ≡ holdings_of config h
    → HasFirst config h (record c { first = first })) → (config : Config) (h : List Arrival)
    → rings ≡ holdings_of config h → (y : Choice) → slice_get cs i ≡ Some y
    → HasFirst config h (record y { first = first })
one-first rings cs i first c low is is_first config h holds y there =
    let same : c ≡ y = is ∙ ap (λ o. unwrap_or o y) (sym (slice_get-get_or cs i c low) ∙ there) in
    subst (λ (z : Choice). HasFirst config h (record z { first = first })) same (is_first config h holds)

-- the same of where it begins
pub one-begin : (rings : RingsValue) (cs : List Choice) (i first : ℕ) (c : Choice) → i < length cs
    → c ≡ slice_index_or cs i c → BeginsIn rings (record c { first = first }) → (y : Choice) → slice_get cs i ≡ Some y
    → BeginsIn rings (record y { first = first })
one-begin rings cs i first c low is begins y there =
    let same : c ≡ y = is ∙ ap (λ o. unwrap_or o y) (sym (slice_get-get_or cs i c low) ∙ there) in
    subst (λ (z : Choice). BeginsIn rings (record z { first = first })) same begins

pub all-begin : (rings : RingsValue) (s start : SessionValue) (i : ℕ) → length (chosen_of start.mode) ≤ i
    → Keeps rings i s start → OfAll (BeginsIn rings) (chosen_of s.mode)
all-begin rings s start i all keeps =
    λ j c at. keeps.begins j c (choice-within (chosen_of s.mode) j c i (omega (arith, keeps.count)) at) at
