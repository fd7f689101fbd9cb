-- What a server stands for while one of its clients goes on in its slot.
use Rattle.std.proofs.Common.{◌≡◌, ℕ, ◌∙◌, zero, suc, Some, None, Option, option_map, is_some, Bool, List, [], ◌∷◌}
use Rattle.std.proofs.Common.{slice_get, slice_index_or, refl, sym, ap, subst}
use Rattle.slab.specs.Slab.{Slab, get}
use Rattle.protocol.specs.Catalog.{View, Config}
use Rattle.protocol.specs.Client.{Client}
use Rattle.protocol.specs.World.{Connection, World, at, changed, client_of, step}
use Rattle.protocol.specs.World.Event.{Take}
use Rattle.station_ring.specs.HeldRecords.{RingsValue}
use Rattle.protocol.specs.History.{Arrival}
use Rattle.session_state.specs.Sessions.{SessionValue, client_in}
use Rattle.server_core.specs.declared.clients.Clients.{Clients}
use Rattle.server_core.specs.Clients.{IsTable, session_of, sessions_of, addresses_of, slot_in}
use Rattle.server_core.specs.ServerValues.{ServerValue, SlotGoesOn, StandsAt, client_of_open, open_client, taking}
use Rattle.server_core.specs.ServerValues.{open_client_at}
use Rattle.server_core.proofs.NumberLemmas.{slot_in-below}
use Rattle.server_core.proofs.SlotLemmas.{goes-by-number, nowhere-goes, session-is, session-nowhere, session-there}
use Rattle.server_core.proofs.SlotLemmas.{sessions-counted}
use Rattle.server_core.proofs.StandsLemmas.{client-stands, open_client_seen}
use Rattle.server_core.proofs.TakeLemmas.{same-at}

-- a server of these clients, with no marks
abbrev pub serving : Config → RingsValue → Clients → ServerValue
serving g rings c = record {
  config = g;
  rings = rings;
  sessions = sessions_of c;
  addresses = addresses_of c;
  marks = [];
}

-- What a server stands for is the same with whatever marks.
pub with-marks : (server : ServerValue) (marks : List Bool) (config : Config) (w : World) → StandsAt server config w
    → StandsAt (record server { marks = marks }) config w
with-marks server marks config w stands =
    record {
      config_is = stands.config_is;
      holds = stands.holds;
      count = stands.count;
      clients = stands.clients;
      addresses = stands.addresses;
    }

-- Where a client was looked for, a server stands for what it stood for before.
pub found : (g : Config) (rings : RingsValue) (before after : Clients) (marks : List Bool) (server : ServerValue)
    (config : Config) (w : World) → record (serving g rings before) { marks = marks } ≡ server
    → sessions_of after ≡ sessions_of before → addresses_of after ≡ addresses_of before → StandsAt server config w
    → StandsAt (serving g rings after) config w
found g rings before after marks server config w is same from stands =
    subst (λ (xs : List (Option SessionValue)). StandsAt
    (record { config = g; rings = rings; sessions = xs; addresses = addresses_of after; marks = [] }) config w)
    (sym same)
    (subst
    (λ (from_ : List (Option ℕ)). StandsAt
    (record { config = g; rings = rings; sessions = sessions_of before; addresses = from_; marks = [] }) config w)
    (sym from)
    (with-marks (record (serving g rings before) { marks = marks }) [] config w
    (subst (λ s. StandsAt s config w) (sym is) stands)))

-- The client of a number is that of its session.
as-client : (g : Config) (h : List Arrival) (xs : List (Option SessionValue)) (k : ℕ)
    → option_map (client_in g h) (slice_index_or xs k None) ≡ client_of_open (open_client g h (slice_get xs k))
as-client g h [] k = refl
as-client g h (None ∷ xs) zero = refl
as-client g h (Some s ∷ xs) zero = refl
as-client g h (x ∷ xs) (suc k) = as-client g h xs k

pub seen-by : (server : ServerValue) (number : ℕ) (config : Config) (w : World) → StandsAt server config w
    → option_map (client_in server.config w.history) (slice_index_or server.sessions number None)
    ≡ client_of (slice_get w.connections number)
seen-by server number config w stands = as-client server.config w.history server.sessions number
    ∙ open_client_seen server number config w stands

module _ (g : Config) (rings : RingsValue) (c : Clients) (number : ℕ) (config : Config) (w : World) where
  pub goes-there : (f : View → Client → Client) (new : Slab SessionValue) (slot : ℕ) → IsTable c
      → slot_in c.opened.items number ≡ Some slot → SlotGoesOn g w.history c.slots new slot f
      → StandsAt (serving g rings c) config w
      → StandsAt (serving g rings (record c { slots = new })) config
      (record w { connections = at w.connections number (changed f) })
  unfolding sessions_of addresses_of
  goes-there f new slot table there goes stands =
      client-stands f (serving g rings c) (serving g rings (record c { slots = new })) number refl refl
      (sessions-counted (record c { slots = new }) ∙ sym (sessions-counted c)) refl config w
      (goes-by-number g w.history c.opened.items c.slots new c.opens number slot f table.apart there
      (slot_in-below c.opens c.opened.items number slot table.below there) goes)
      stands

  pub looked-there : (new : Slab SessionValue) (slot : ℕ) → IsTable c → slot_in c.opened.items number ≡ Some slot
      → SlotGoesOn g w.history c.slots new slot (λ v x. x) → StandsAt (serving g rings c) config w
      → StandsAt (serving g rings (record c { slots = new })) config w
  looked-there new slot table there goes stands =
      subst (λ (cs : List Connection). StandsAt (serving g rings (record c { slots = new })) config
      (record w { connections = cs })) (same-at w.connections number (λ v x. x) (λ k x at is. refl))
      (goes-there (λ v x. x) new slot table there goes stands)

  pub goes-nowhere : (f : View → Client → Client) → slot_in c.opened.items number ≡ None
      → StandsAt (serving g rings c) config w
      → StandsAt (serving g rings c) config (record w { connections = at w.connections number (changed f) })
  goes-nowhere f none stands =
      client-stands f (serving g rings c) (serving g rings c) number refl refl refl refl config w
      (nowhere-goes g w.history (sessions_of c) number f (session-nowhere g w.history c number none)) stands

  pub seen-there : (slot : ℕ) → IsTable c → slot_in c.opened.items number ≡ Some slot
      → StandsAt (serving g rings c) config w
      → client_of_open (open_client g w.history (Some (get c.slots slot))) ≡ client_of (slice_get w.connections number)
  seen-there slot table there stands =
      ap (λ (o : Option (Option SessionValue)). client_of_open (open_client g w.history o))
      (sym (session-there c number slot table there)) ∙ open_client_seen (serving g rings c) number config w stands

  pub opened-there : (slot : ℕ) → IsTable c → slot_in c.opened.items number ≡ Some slot
      → StandsAt (serving g rings c) config w
      → open_client g w.history (Some (get c.slots slot)) ≡ open_client_at (slice_get w.connections number)
  opened-there slot table there stands =
      ap (open_client g w.history) (sym (session-there c number slot table there))
      ∙ subst (λ x. open_client x w.history (slice_get (sessions_of c) number)
      ≡ open_client_at (slice_get w.connections number)) (sym stands.config_is) (stands.clients number)

  pub seen-nowhere : slot_in c.opened.items number ≡ None → StandsAt (serving g rings c) config w
      → None ≡ client_of (slice_get w.connections number)
  seen-nowhere none stands =
      sym (ap client_of_open (session-nowhere g w.history c number none))
      ∙ open_client_seen (serving g rings c) number config w stands

  pub took-there : (n : ℕ) (new : Slab SessionValue) (slot : ℕ) → IsTable c → slot_in c.opened.items number ≡ Some slot
      → SlotGoesOn g w.history c.slots new slot (taking w.history n) → StandsAt (serving g rings c) config w
      → StandsAt (serving g rings (record c { slots = new })) config (step config w (Take number n))
  unfolding taking
  took-there n new slot table there goes stands = goes-there (taking w.history n) new slot table there goes stands

  pub took-nowhere : (n : ℕ) → slot_in c.opened.items number ≡ None → StandsAt (serving g rings c) config w
      → StandsAt (serving g rings c) config (step config w (Take number n))
  unfolding taking
  took-nowhere n none stands = goes-nowhere (taking w.history n) none stands

  pub seen-session : IsTable c → StandsAt (serving g rings c) config w
      → is_some (session_of c.opened.items c.slots number) ≡ is_some (client_of (slice_get w.connections number))
  seen-session table stands =
      ap is_some (sym (session-is c number table)) ∙ mapped (slice_index_or (sessions_of c) number None)
      ∙ ap is_some (seen-by (serving g rings c) number config w stands)
    where
      mapped : (o : Option SessionValue) → is_some o ≡ is_some (option_map (client_in g w.history) o)
      mapped None = refl
      mapped (Some s) = refl
