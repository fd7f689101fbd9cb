-- How a server goes on standing for a world.
use Rattle.std.proofs.Common.{◌≡◌, ℕ, ◌+◌, ◌<◌, ◌≤◌, true, false, ◌==◌, List, [], ◌∷◌, ◌++◌, length, Some, None, Option}
use Rattle.std.proofs.Common.{option_map, slice_get, slice_set, refl, sym, ap, ap₂, length-append, subst, ◌∙◌, arith}
use Rattle.std.proofs.Common.{zero, suc, eqb-true}
use Rattle.std.proofs.lemmas.Bool.{eqb-false}
use Rattle.protocol.specs.Catalog.{View, Config, view_of}
use Rattle.protocol.specs.Client.{Client, new_client, offered, after_take, is_nothing}
use Rattle.protocol.specs.World.{client_of, Connection, World, at, opened, changed, closed, step}
use Rattle.protocol.specs.World.Event.{Open, Close}
use Rattle.protocol.proofs.FoundLemmas.{both}
use Rattle.protocol.proofs.Connections.{length-at, slice_get-at_same, slice_get-at_here, slice_get-at_apart}
use Rattle.station_ring.specs.HeldRecords.{holdings_of}
use Rattle.slab.specs.Slab.{Slab, get, Updates}
use Rattle.session_state.specs.Sessions.{SessionValue, client_in, session_view}
use Rattle.server_core.proofs.OfferLemmas.{offered-waiting}
use Rattle.catalog.specs.Places.{view_in, Seen}
use Rattle.protocol.specs.History.{Arrival}
use Rattle.server_core.specs.ServerValues.{taking, ServerValue, client_of_open, open_client_of, OpenClient, open_client}
use Rattle.server_core.specs.ServerValues.{open_client_with, open_client_at, address_with, address_at, addressed}
use Rattle.server_core.specs.ServerValues.{goes_on, handing, StandsAt, OnlyGoesOn, SlotGoesOn}
use Rattle.server_core.specs.declared.client.Offer.{Offer}
use Rattle.server_core.specs.Refusals.{offer_of}

open_client_with-changed : (f : View → Client → Client) (v : View) (o : Option Client)
    → open_client_with v (option_map (f v) o) ≡ goes_on f (open_client_with v o)
open_client_with-changed f v None = refl
open_client_with-changed f v (Some c) = refl

open_client_at-changed : (f : View → Client → Client) (x : Option Connection)
    → open_client_at (option_map (changed f) x) ≡ goes_on f (open_client_at x)
open_client_at-changed f None = refl
open_client_at-changed f (Some k) = open_client_with-changed f k.view k.client

pub goes_on-stands : (config : Config) (h : List Arrival) (old new : List (Option SessionValue)) (w : World) (k : ℕ)
    (f : View → Client → Client) → OnlyGoesOn config h old new k f
    → ((j : ℕ) → open_client config h (slice_get old j) ≡ open_client_at (slice_get w.connections j)) → (j : ℕ)
    → open_client config h (slice_get new j) ≡ open_client_at (slice_get (at w.connections k (changed f)) j)
goes_on-stands config h old new w k f goes clients j =
    both (k == j)
    (λ e.
    let same : k ≡ j = eqb-true k j e in
    subst (λ i. open_client config h (slice_get new i) ≡ open_client_at (slice_get (at w.connections k (changed f)) i))
    same
    (goes.here ∙ ap (goes_on f) (clients k) ∙ sym (open_client_at-changed f (slice_get w.connections k))
    ∙ ap open_client_at
    (sym (slice_get-at_here w.connections k k (changed f) (subst (λ i. (k == i) ≡ true) (sym same) e)))))
    (λ e.
    let apart : k ≡ j → ⊥ = eqb-false k j e in
    ap (open_client config h) (goes.others j (λ q. apart (sym q))) ∙ clients j
    ∙ ap open_client_at (sym (slice_get-at_apart w.connections k j (changed f) apart)))

address_with-changed : (a : ℕ) (f : Client → Client) (o : Option Client)
    → address_with a (option_map f o) ≡ address_with a o
address_with-changed a f None = refl
address_with-changed a f (Some c) = refl

address_at-changed : (f : View → Client → Client) (x : Option Connection)
    → address_at (option_map (changed f) x) ≡ address_at x
address_at-changed f None = refl
address_at-changed f (Some k) = address_with-changed k.address (f k.view) k.client

-- what one client does changes no address
changed-addresses : (cs : List Connection) (k : ℕ) (f : View → Client → Client) (j : ℕ)
    → address_at (slice_get (at cs k (changed f)) j) ≡ address_at (slice_get cs j)
changed-addresses cs k f j =
    both (k == j)
    (λ e. ap address_at (slice_get-at_here cs k j (changed f) e) ∙ address_at-changed f (slice_get cs j))
    (λ e. ap address_at (slice_get-at_apart cs k j (changed f) (eqb-false k j e)))

-- what one client does, of whatever kind
pub client-stands : (f : View → Client → Client) (old new : ServerValue) (number : ℕ) → new.config ≡ old.config
    → new.rings ≡ old.rings → length new.sessions ≡ length old.sessions → new.addresses ≡ old.addresses
    → (config : Config) (w : World) → OnlyGoesOn old.config w.history old.sessions new.sessions number f
    → StandsAt old config w → StandsAt new config (record w { connections = at w.connections number (changed f) })
client-stands f old new number same kept longer from config w goes stands =
    record {
      config_is = same ∙ stands.config_is;
      holds = kept ∙ stands.holds ∙ ap (λ g. holdings_of g w.history) (sym same);
      count = longer ∙ stands.count ∙ sym (length-at w.connections number (changed f));
      clients = goes_on-stands config w.history old.sessions new.sessions w number f
          (subst (λ g. OnlyGoesOn g w.history old.sessions new.sessions number f) stands.config_is goes) stands.clients;
      addresses = λ j. ap (λ l. addressed (slice_get l j)) from ∙ stands.addresses j
          ∙ sym (changed-addresses w.connections number f j);
    }

set_apart : {A : Type 0} (xs : List A) (k j : ℕ) (x : A) → (k ≡ j → ⊥) → slice_get (slice_set xs k x) j ≡ slice_get xs j
set_apart [] k j x apart = refl
set_apart (y ∷ xs) zero zero x apart = absurd (apart refl)
set_apart (y ∷ xs) zero (suc j) x apart = refl
set_apart (y ∷ xs) (suc k) zero x apart = refl
set_apart (y ∷ xs) (suc k) (suc j) x apart = set_apart xs k j x (λ e. apart (ap suc e))

some_waits : (ws : List ℕ) (n : ℕ) → 0 < n → n ≤ length ws → is_nothing ws ≡ false
some_waits [] n some fits = absurd (omega arith)
some_waits (b ∷ ws) n some fits = refl

-- the client of a session of which some bytes that wait were taken
pub taken-of : (config : Config) (h : List Arrival) (n : ℕ) (a m : SessionValue) → 0 < n → n ≤ length a.waiting
    → client_in config h m ≡ after_take (session_view config a) h (client_in config h a) n
    → client_in config h m ≡ taking h n (session_view config a) (client_in config h a)
unfolding taking
taken-of config h n a m some fits client = client
    ∙ ap (λ c. after_take (session_view config a) h c n)
    (offered-waiting h (client_in config h a) (some_waits a.waiting n some fits))

-- an open session of which some bytes that wait were taken
pub some-took : (config : Config) (h : List Arrival) (old new : Slab SessionValue) (slot n : ℕ) (a r : SessionValue)
    → get old slot ≡ Some a → Updates old new slot (Some r) → 0 < n → n ≤ length a.waiting
    → client_in config h r ≡ after_take (session_view config a) h (client_in config h a) n → r.places ≡ a.places
    → SlotGoesOn config h old new slot (taking h n)
some-took config h old new slot n a r there updates some fits client places =
    let seat : open_client_of config h r
    ≡ record {
      view = session_view config a;
      client = taking h n (session_view config a) (client_in config h a);
    } =
    ap₂ (λ (p : Seen) (q : Client). let t : OpenClient = record { view = view_in config p; client = q } in t) places
    (taken-of config h n a r some fits client) in
    record {
      here = ap (λ o. open_client config h (Some o)) updates.changed ∙ ap Some seat
          ∙ ap (λ o. goes_on (taking h n) (open_client config h (Some o))) (sym there);
      others = updates.others;
    }

-- and for which what comes next was made to wait then
pub some-handed : (config : Config) (h : List Arrival) (old new : Slab SessionValue) (slot n : ℕ)
    (a m r : SessionValue) → get old slot ≡ Some a → Updates old new slot (Some r) → 0 < n → n ≤ length a.waiting
    → client_in config h m ≡ after_take (session_view config a) h (client_in config h a) n → m.places ≡ a.places
    → client_in config h r ≡ offered h (client_in config h m) → r.places ≡ m.places
    → SlotGoesOn config h old new slot (handing h n)
some-handed config h old new slot n a m r there updates some fits client places next still =
    let seat : open_client_of config h r
    ≡ record {
      view = session_view config a;
      client = handing h n (session_view config a) (client_in config h a);
    } =
    ap₂ (λ (p : Seen) (q : Client). let t : OpenClient = record { view = view_in config p; client = q } in t)
    (still ∙ places) (next ∙ ap (offered h) (taken-of config h n a m some fits client)) in
    record {
      here = ap (λ o. open_client config h (Some o)) updates.changed ∙ ap Some seat
          ∙ ap (λ o. goes_on (handing h n) (open_client config h (Some o))) (sym there);
      others = updates.others;
    }

-- what the offer finds
pub handed-answer : (config : Config) (h : List Arrival) (old : Slab SessionValue) (slot n : ℕ) (a m : SessionValue)
    (found : Offer) → get old slot ≡ Some a → 0 < n → n ≤ length a.waiting
    → client_in config h m ≡ after_take (session_view config a) h (client_in config h a) n
    → found ≡ offer_of (offered h (client_in config h m))
    → Some found ≡ option_map (λ c. offer_of (offered h c))
    (client_of_open (goes_on (taking h n) (open_client config h (Some (get old slot)))))
handed-answer config h old slot n a m found there some fits client is =
    ap Some (is ∙ ap (λ c. offer_of (offered h c)) (taken-of config h n a m some fits client))
    ∙ ap (λ o. option_map (λ c. offer_of (offered h c))
    (client_of_open (goes_on (taking h n) (open_client config h (Some o))))) (sym there)

pub client_of-open : (x : Option Connection) → client_of x ≡ client_of_open (open_client_at x)
client_of-open None = refl
client_of-open (Some k) = open_or_not k.view k.client
  where
    open_or_not : (v : View) (o : Option Client) → o ≡ client_of_open (open_client_with v o)
    open_or_not v None = refl
    open_or_not v (Some c) = refl

-- the client of a number is that of the world's connection
pub open_client_seen : (server : ServerValue) (number : ℕ) (config : Config) (w : World) → StandsAt server config w
    → client_of_open (open_client server.config w.history (slice_get server.sessions number))
    ≡ client_of (slice_get w.connections number)
open_client_seen server number config w stands =
    ap (λ g. client_of_open (open_client g w.history (slice_get server.sessions number))) stands.config_is
    ∙ ap client_of_open (stands.clients number)
    ∙ sym (client_of-open (slice_get w.connections number))

pub pushed : {A B C : Type 0} (f : Option A → C) (g : Option B → C) (xs : List A) (ys : List B) (x : A) (y : B)
    → length xs ≡ length ys → ((k : ℕ) → f (slice_get xs k) ≡ g (slice_get ys k)) → f (Some x) ≡ g (Some y) → (k : ℕ)
    → f (slice_get (xs ++ x ∷ []) k) ≡ g (slice_get (ys ++ y ∷ []) k)
pushed f g [] [] x y e h here zero = here
pushed f g [] [] x y e h here (suc k) = h (suc k)
pushed f g [] (b ∷ ys) x y e h here k = absurd (omega (arith, e))
pushed f g (a ∷ xs) [] x y e h here k = absurd (omega (arith, e))
pushed f g (a ∷ xs) (b ∷ ys) x y e h here zero = h zero
pushed f g (a ∷ xs) (b ∷ ys) x y e h here (suc k) = pushed f g xs ys x y (omega (arith, e)) (λ i. h (suc i)) here k

pub open-stands : (old new : ServerValue) (s : SessionValue) (a : ℕ) → new.config ≡ old.config → new.rings ≡ old.rings
    → new.sessions ≡ old.sessions ++ Some s ∷ [] → new.addresses ≡ old.addresses ++ Some a ∷ []
    → length old.addresses ≡ length old.sessions → view_in old.config s.places ≡ view_of old.config a
    → ((h : List Arrival) → client_in old.config h s ≡ new_client) → (config : Config) (w : World)
    → StandsAt old config w → StandsAt new config (step config w (Open a))
open-stands old new s a same kept longer from counted view client config w stands =
    let x = opened config a in
    let v : view_in config s.places ≡ view_of config a = rw stands.config_is at view in
    let c : client_in config w.history s ≡ new_client = rw stands.config_is at (client w.history) in
    let here : open_client config w.history (Some (Some s))
    ≡ open_client_at (Some x) =
    ap₂ (λ (p : View) (q : Client). let t : Option OpenClient = Some (record { view = p; client = q }) in t) v c in
    record {
      config_is = same ∙ stands.config_is;
      holds = kept ∙ stands.holds ∙ ap (λ g. holdings_of g w.history) (sym same);
      count = ap length longer ∙ length-append old.sessions (Some s ∷ []) ∙ ap (λ n. n + 1) stands.count
          ∙ sym (length-append w.connections (x ∷ []));
      clients = λ k. ap (λ l. open_client config w.history (slice_get l k)) longer
          ∙ pushed (open_client config w.history) open_client_at old.sessions w.connections
          (Some s) x stands.count stands.clients here k;
      addresses = λ k. ap (λ l. addressed (slice_get l k)) from
          ∙ pushed addressed address_at old.addresses w.connections (Some a) x
          (counted ∙ stands.count) stands.addresses refl k;
    }

-- ---- a client that is gone
open_client_at-closed : (x : Option Connection) → open_client_at (option_map closed x) ≡ None
open_client_at-closed None = refl
open_client_at-closed (Some k) = refl

opened_nobody : (config : Config) (h : List Arrival) (xs : List (Option SessionValue)) (k : ℕ)
    → open_client config h (slice_get (slice_set xs k None) k) ≡ None
opened_nobody config h [] k = refl
opened_nobody config h (x ∷ xs) zero = refl
opened_nobody config h (x ∷ xs) (suc k) = opened_nobody config h xs k

length-set_one : (xs : List (Option SessionValue)) (k : ℕ) (x : Option SessionValue)
    → length (slice_set xs k x) ≡ length xs
length-set_one [] k x = refl
length-set_one (y ∷ xs) zero x = refl
length-set_one (y ∷ xs) (suc k) x = ap suc (length-set_one xs k x)

address_at-closed : (x : Option Connection) → address_at (option_map closed x) ≡ None
address_at-closed None = refl
address_at-closed (Some k) = refl

addressed_nobody : (xs : List (Option ℕ)) (k : ℕ) → addressed (slice_get (slice_set xs k None) k) ≡ None
addressed_nobody [] k = refl
addressed_nobody (x ∷ xs) zero = refl
addressed_nobody (x ∷ xs) (suc k) = addressed_nobody xs k

pub close-stands : (old new : ServerValue) (number : ℕ) → new.config ≡ old.config → new.rings ≡ old.rings
    → new.sessions ≡ slice_set old.sessions number None → new.addresses ≡ slice_set old.addresses number None
    → (config : Config) (w : World) → StandsAt old config w → StandsAt new config (step config w (Close number))
close-stands old new number same kept set unset config w stands =
    record {
      config_is = same ∙ stands.config_is;
      holds = kept ∙ stands.holds ∙ ap (λ g. holdings_of g w.history) (sym same);
      count = ap length set ∙ length-set_one old.sessions number None ∙ stands.count
          ∙ sym (length-at w.connections number closed);
      clients = λ k.
          ap (λ l. open_client config w.history (slice_get l k)) set
          ∙ both (number == k)
          (λ y. let e : number ≡ k = eqb-true number k y in
          subst (λ i. open_client config w.history (slice_get (slice_set old.sessions number None) i)
          ≡ open_client_at (slice_get (at w.connections number closed) i)) e
          (opened_nobody config w.history old.sessions number
          ∙ sym (ap open_client_at (slice_get-at_same w.connections number closed)
          ∙ open_client_at-closed (slice_get w.connections number))))
          (λ n. let apart = eqb-false number k n in
          ap (open_client config w.history) (set_apart old.sessions number k None apart) ∙ stands.clients k
          ∙ ap open_client_at (sym (slice_get-at_apart w.connections number k closed apart)));
      addresses = λ k.
          ap (λ l. addressed (slice_get l k)) unset
          ∙ both (number == k)
          (λ y. let e : number ≡ k = eqb-true number k y in
          subst (λ i. addressed (slice_get (slice_set old.addresses number None) i)
          ≡ address_at (slice_get (at w.connections number closed) i)) e
          (addressed_nobody old.addresses number
          ∙ sym (ap address_at (slice_get-at_same w.connections number closed)
          ∙ address_at-closed (slice_get w.connections number))))
          (λ n. let apart = eqb-false number k n in
          ap addressed (set_apart old.addresses number k None apart) ∙ stands.addresses k
          ∙ ap address_at (sym (slice_get-at_apart w.connections number k closed apart)));
    }
