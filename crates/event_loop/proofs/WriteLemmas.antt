-- One write to a client's port.
use Rattle.std.proofs.Common.{◌≡◌, ℕ, zero, suc, ◌<◌, ◌≤◌, true, false, not, Bool, ◌&&◌, List, [], ◌∷◌, length, refl}
use Rattle.std.proofs.Common.{sym, ap, ap₂, subst, ◌∙◌, is_some, Option, Some, None, Ok, Err, option_map, unwrap_or}
use Rattle.std.proofs.Common.{arith}
use Rattle.protocol.specs.Catalog.{Config}
use Rattle.protocol.specs.Client.{Client, offered, is_nothing}
use Rattle.protocol.specs.World.{World, step, taken_by}
use Rattle.protocol.specs.World.Event.{Take, Close}
use Rattle.server_core.specs.declared.client.Offer.{Offer}
use Rattle.server_core.specs.declared.client.Offer.TheVariants.{Bytes, Ended, Idle}
use Rattle.server_core.specs.Refusals.{is_idle as finds_none, offer_when, offer_of}
use Rattle.server_core.specs.ServerValues.{ServerValue, StandsAt}
use Rattle.server_core.specs.Filling.{client_at, lent_to}
use Rattle.server_core.specs.Marks.{IsSpared}
use Rattle.event_loop.specs.declared.seat.Seat.{Seat}
use Rattle.ports.specs.declared.answers.Put.TheVariants.{Took, Later}
use Rattle.ports.specs.declared.answers.PortFault.{PortFault}
use Rattle.event_loop.specs.declared.passes.Onward.TheVariants.{On, Stop, Over}
use Rattle.ports.specs.Calls.{Call, Tells}
use Rattle.ports.specs.Calls.Call.{Write, Shut}
use Rattle.event_loop.specs.Deeds.{Tally}
use Rattle.event_loop.specs.Deeds.Deed.{Writes, Offers, Closes}
use Rattle.event_loop.specs.Passes.{ClientWrites, MayWrite, is_over_in, unwritable}
use Rattle.event_loop.specs.Passes.ClientWrites.{enough, not_writable, idle, ended, took, took_none, later, failed}
use Rattle.event_loop.specs.Going.{Once, Whole}
use Rattle.event_loop.proofs.DeedLemmas.{Tells-nil, Tells-trans}
use Rattle.server_core.proofs.TakeLemmas.{offered-there, offer-then-take}

-- what an offer found
abbrev Found : World → ℕ → Option Offer → Type 0
Found w k o = o ≡ option_map (λ c. offer_of (offered w.history c)) (client_at w k)

is_some_bytes : (a b : Bool) → offer_when a b ≡ Bytes → a ≡ false
is_some_bytes true true e = absurd cc
is_some_bytes true false e = absurd cc
is_some_bytes false b e = refl

is_idle : (a b : Bool) → offer_when a b ≡ Idle → (a ≡ true) × (b ≡ false)
is_idle true true e = absurd cc
is_idle true false e = (refl, refl)
is_idle false b e = absurd cc

is_ended : (a b : Bool) → offer_when a b ≡ Ended → (a ≡ true) × (b ≡ true)
is_ended true true e = (refl, refl)
is_ended true false e = absurd cc
is_ended false b e = absurd cc

is_empty : (xs : List ℕ) → is_nothing xs ≡ true → xs ≡ []
is_empty [] e = refl
is_empty (x ∷ xs) e = absurd cc

some_inside : {A : Type 0} (a b : A) → Some a ≡ Some b → a ≡ b
some_inside a b e = ap (λ o. unwrap_or o a) e

-- Where an offer found bytes, some wait for the client, if it is open.
pub bytes-found : (w : World) (k : ℕ) → Found w k (Some Bytes) → (c : Client) → client_at w k ≡ Some c
    → is_nothing (offered w.history c).waiting ≡ false
bytes-found w k found c there =
    let e = found ∙ ap (option_map (λ x. offer_of (offered w.history x))) there in
    is_some_bytes _ _ (sym (some_inside Bytes (offer_of (offered w.history c)) e))

pub idle-lent : (w : World) (k : ℕ) → Found w k (Some Idle) → lent_to w k ≡ []
idle-lent w k found = by (client_at w k) found
  where
    by : (o : Option Client) → Some Idle ≡ option_map (λ c. offer_of (offered w.history c)) o
        → unwrap_or (option_map (λ c. (offered w.history c).waiting) o) [] ≡ []
    by None e = refl
    by (Some c) e = is_empty _ (is_idle _ _ (sym (some_inside Idle (offer_of (offered w.history c)) e))).0

pub idle-goes-on : (w : World) (k : ℕ) → Found w k (Some Idle) → is_over_in w k ≡ false
idle-goes-on w k found = by (client_at w k) found
  where
    by : (o : Option Client) → Some Idle ≡ option_map (λ c. offer_of (offered w.history c)) o
        → (taken_by w.history o 0).ended ≡ false
    by None e = absurd cc
    by (Some c) e = let i = is_idle _ _ (sym (some_inside Idle (offer_of (offered w.history c)) e)) in ap₂
        (λ a b. a && b) i.0 i.1

pub ended-over : (w : World) (k : ℕ) → Found w k (Some Ended) → is_over_in w k ≡ true
ended-over w k found = by (client_at w k) found
  where
    by : (o : Option Client) → Some Ended ≡ option_map (λ c. offer_of (offered w.history c)) o
        → (taken_by w.history o 0).ended ≡ true
    by None e = refl
    by (Some c) e = let i = is_ended _ _ (sym (some_inside Ended (offer_of (offered w.history c)) e)) in ap₂
        (λ a b. a && b) i.0 i.1

pub gone-over : (w : World) (k : ℕ) → Found w k None → is_over_in w k ≡ true
gone-over w k found = by (client_at w k) found
  where
    by : (o : Option Client) → None ≡ option_map (λ c. offer_of (offered w.history c)) o
        → (taken_by w.history o 0).ended ≡ true
    by None e = refl
    by (Some c) e = absurd cc

-- what waits then
pub lent-waiting : (config : Config) (w : World) (k : ℕ) (bytes : List ℕ)
    → Some bytes ≡ option_map (λ c. c.waiting) (client_at (step config w (Take k 0)) k) → lent_to w k ≡ bytes
lent-waiting config w k bytes e = by (client_at w k) (e ∙ ap (option_map (λ c. c.waiting)) (offered-there config w k))
  where
    by : (o : Option Client) → Some bytes ≡ option_map (λ c. c.waiting) (option_map (offered w.history) o)
        → unwrap_or (option_map (λ c. (offered w.history c).waiting) o) [] ≡ bytes
    by None e = absurd cc
    by (Some c) e = sym (some_inside bytes (offered w.history c).waiting e)

-- ---- steps

pub write-idle : (config : Config) (w : World) (k : ℕ) (calls : Option (List Call)) (server' : ServerValue) (t : Tally)
    (s : Seat) → s.writable ≡ true → Found w k (Some Idle) → StandsAt server' config (step config w (Take k 0))
    → Once (ClientWrites config k) config w calls calls server' t t s s Stop
write-idle config w k calls server' t s may found stands =
    record {
      deeds = Offers k ∷ [];
      does = record { tells = Tells-nil calls; stands = stands; counted = refl; faithful = (tt, tt) };
      how = λ n. idle may (idle-lent w k found) (idle-goes-on w k found);
    }

pub write-ended : (config : Config) (w : World) (k : ℕ) (a b : Option (List Call)) (mid server' : ServerValue)
    (t : Tally) (s : Seat) → s.writable ≡ true → is_over_in w k ≡ true → StandsAt mid config (step config w (Take k 0))
    → Tells a b (Shut s.port ∷ [])
    → ((c : Config) (v : World) → StandsAt mid c v → StandsAt server' c (step c v (Close k)))
    → Once (ClientWrites config k) config w a b server' t t s s Over
write-ended config w k a b mid server' t s may over there tells stands =
    record {
      deeds = Offers k ∷ Closes k s.port ∷ [];
      does = record {
        tells = tells;
        stands = stands config (step config w (Take k 0)) there;
        counted = refl;
        faithful = (tt, (tt, tt));
      };
      how = λ n. ended may over;
    }

pub write-took : (config : Config) (w : World) (k count : ℕ) (bytes : List ℕ) (a b : Option (List Call))
    (server' : ServerValue) (t : Tally) (s : Seat) → MayWrite w k s bytes → 0 < count → count ≤ length bytes
    → Found w k (Some Bytes) → Tells a b (Write s.port bytes (Ok (Took count)) ∷ [])
    → StandsAt server' config (step config (step config w (Take k 0)) (Take k count))
    → Once (ClientWrites config k) config w a b server' t t s s On
write-took config w k count bytes a b server' t s may some fits found tells stands =
    record {
      deeds = Writes k s.port bytes (Ok (Took count)) ∷ [];
      does =
          record {
            tells = tells;
            stands =
                subst (StandsAt server' config) (offer-then-take config w k count (bytes-found w k found)) stands;
            counted = refl;
            faithful = (may.all, tt);
          };
      how = λ n ds w' o rest. took bytes count may some fits rest;
    }

pub write-none : (config : Config) (w : World) (k : ℕ) (bytes : List ℕ) (a b : Option (List Call))
    (server' : ServerValue) (t : Tally) (s : Seat) → MayWrite w k s bytes
    → Tells a b (Write s.port bytes (Ok (Took 0)) ∷ []) → StandsAt server' config (step config w (Take k 0))
    → Once (ClientWrites config k) config w a b server' t t s s Stop
write-none config w k bytes a b server' t s may tells stands =
    record {
      deeds = Writes k s.port bytes (Ok (Took 0)) ∷ [];
      does = record { tells = tells; stands = stands; counted = refl; faithful = (may.all, tt) };
      how = λ n. took_none bytes may;
    }

pub write-later : (config : Config) (w : World) (k : ℕ) (bytes : List ℕ) (a b : Option (List Call))
    (server' : ServerValue) (t : Tally) (s : Seat) → MayWrite w k s bytes
    → Tells a b (Write s.port bytes (Ok Later) ∷ []) → StandsAt server' config (step config w (Take k 0))
    → Once (ClientWrites config k) config w a b server' t t s (unwritable s) Stop
write-later config w k bytes a b server' t s may tells stands =
    record {
      deeds = Writes k s.port bytes (Ok Later) ∷ [];
      does = record { tells = tells; stands = stands; counted = refl; faithful = (may.all, tt) };
      how = λ n. later bytes may;
    }

pub write-failed : (config : Config) (w : World) (k : ℕ) (bytes : List ℕ) (fault : PortFault)
    (a b c : Option (List Call)) (mid server' : ServerValue) (t : Tally) (s : Seat) → MayWrite w k s bytes
    → Tells a b (Write s.port bytes (Err fault) ∷ []) → Tells b c (Shut s.port ∷ [])
    → StandsAt mid config (step config w (Take k 0))
    → ((c : Config) (v : World) → StandsAt mid c v → StandsAt server' c (step c v (Close k)))
    → Once (ClientWrites config k) config w a c server' t t s s Over
write-failed config w k bytes fault a b c mid server' t s may tells shut there stands =
    record {
      deeds = Writes k s.port bytes (Err fault) ∷ Closes k s.port ∷ [];
      does = record {
        tells = Tells-trans a b c _ _ tells shut;
        stands = stands config (step config w (Take k 0)) there;
        counted = refl;
        faithful = (may.all, (tt, tt));
      };
      how = λ n. failed bytes fault may;
    }

pub write-unwritable : (config : Config) (w : World) (k limit : ℕ) (calls : Option (List Call)) (server' : ServerValue)
    (t : Tally) (s : Seat) → s.writable ≡ false → StandsAt server' config w
    → Whole (ClientWrites config k) limit config w calls calls server' t t s (Some s)
write-unwritable config w k zero calls server' t s shown stands =
    record {
      deeds = [];
      does = record { tells = Tells-nil calls; stands = stands; counted = refl; faithful = tt };
      how = enough;
    }
write-unwritable config w k (suc n) calls server' t s shown stands =
    record {
      deeds = [];
      does = record { tells = Tells-nil calls; stands = stands; counted = refl; faithful = tt };
      how = not_writable shown;
    }

-- No write is allowed.
pub write-none-left : (config : Config) (w : World) (k limit : ℕ) (calls : Option (List Call)) (server' : ServerValue)
    (t : Tally) (s : Seat) → limit ≡ 0 → StandsAt server' config w
    → Whole (ClientWrites config k) limit config w calls calls server' t t s (Some s)
write-none-left config w k limit calls server' t s none stands =
    subst (λ n. Whole (ClientWrites config k) n config w calls calls server' t t s (Some s)) (sym none)
    (record {
      deeds = [];
      does = record { tells = Tells-nil calls; stands = stands; counted = refl; faithful = tt };
      how = enough;
    })

-- An offer that would find nothing is as good as made.
pub write-spared : (config : Config) (w : World) (k limit : ℕ) (calls : Option (List Call)) (server' : ServerValue)
    (t : Tally) (s : Seat) → s.writable ≡ true → Found w k (Some Idle) → step config w (Take k 0) ≡ w
    → StandsAt server' config w → Whole (ClientWrites config k) limit config w calls calls server' t t s (Some s)
write-spared config w k zero calls server' t s may found nothing stands =
    record {
      deeds = [];
      does = record { tells = Tells-nil calls; stands = stands; counted = refl; faithful = tt };
      how = enough;
    }
write-spared config w k (suc n) calls server' t s may found nothing stands =
    record {
      deeds = Offers k ∷ [];
      does = record {
        tells = Tells-nil calls;
        stands = subst (StandsAt server' config) (sym nothing) stands;
        counted = refl;
        faithful = (tt, tt);
      };
      how = idle may (idle-lent w k found) (idle-goes-on w k found);
    }

pub not-set : (b : Bool) → not b ≡ true → b ≡ false
not-set true e = sym e
not-set false e = refl

-- A client that is open and may be spared is offered nothing.
pub spared-found : (config : Config) (w : World) (k : ℕ) → IsSpared config w k → is_some (client_at w k) ≡ true
    → Found w k (Some Idle)
spared-found config w k spared there = by (client_at w k) refl there
  where
    is-it : (o : Offer) → finds_none o ≡ true → Idle ≡ o
    is-it Idle e = refl
    is-it Bytes e = absurd cc
    is-it Ended e = absurd cc

    by : (o : Option Client) → client_at w k ≡ o → is_some o ≡ true
        → Some Idle ≡ option_map (λ c. offer_of (offered w.history c)) o
    by None e open-there = absurd cc
    by (Some c) e open-there = ap Some (is-it (offer_of (offered w.history c)) (spared.idle c e))

-- ---- what can't be

-- An offer that found bytes lends some.
pub never-empty : (config : Config) (w : World) (k : ℕ) (bytes : List ℕ) → Found w k (Some Bytes)
    → Some bytes ≡ option_map (λ c. c.waiting) (client_at (step config w (Take k 0)) k) → length bytes ≡ 0 → ⊥
never-empty config w k bytes found e none =
    by (client_at w k) found (e ∙ ap (option_map (λ c. c.waiting)) (offered-there config w k))
  where
    nothing : (xs : List ℕ) → length xs ≡ 0 → is_nothing xs ≡ true
    nothing [] z = refl
    nothing (x ∷ xs) z = absurd (omega (arith, z))

    by : (o : Option Client) → Some Bytes ≡ option_map (λ c. offer_of (offered w.history c)) o
        → Some bytes ≡ option_map (λ c. c.waiting) (option_map (offered w.history) o) → ⊥
    by None f g = cc
    by (Some c) f g =
        let some : is_nothing (offered w.history c).waiting
        ≡ false = is_some_bytes _ _ (sym (some_inside Bytes (offer_of (offered w.history c)) f)) in
        let none_waits : is_nothing (offered w.history c).waiting
        ≡ true = ap is_nothing (sym (some_inside bytes (offered w.history c).waiting g)) ∙ nothing bytes none in
        let both : true ≡ false = sym none_waits ∙ some in
        cc

pub never-gone : (config : Config) (w : World) (k : ℕ) → Found w k (Some Bytes)
    → None ≡ option_map (λ c. c.waiting) (client_at (step config w (Take k 0)) k) → ⊥
never-gone config w k found e =
    by (client_at w k) found (e ∙ ap (option_map (λ c. c.waiting)) (offered-there config w k))
  where
    by : (o : Option Client) → Some Bytes ≡ option_map (λ c. offer_of (offered w.history c)) o
        → None ≡ option_map (λ c. c.waiting) (option_map (offered w.history) o) → ⊥
    by None f g = cc
    by (Some c) f g = cc
