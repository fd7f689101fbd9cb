-- What a server stands for: a world of clients over one history.
use Rattle.std.specs.Prelude.{◌≡◌, ◌≢◌, ◌<◌, ◌≤◌, ℕ, Bool, false, List, length, slice_get, slice_index_or}
use Rattle.std.specs.Prelude.{Option, Some, None}
use Rattle.std.specs.Prelude.{IsSome, option_map}
use Rattle.slab.specs.Slab.{Slab, get}
use Rattle.protocol.specs.Catalog.{Config, View}
use Rattle.protocol.specs.Client.{Client, after_take, offered}
use Rattle.protocol.specs.History.{Arrival}
use Rattle.protocol.specs.World.{Event, World, Connection, config_after, world_after}
use Rattle.station_ring.specs.HeldRecords.{RingsValue, holdings_of}
use Rattle.session_state.specs.declared.news.News.{News}
use Rattle.session_state.specs.declared.session.State.TheVariants.{Starting}
use Rattle.session_state.specs.Sessions.{SessionValue, HasPlaces, client_in, session_view}
use Rattle.transfer.specs.Cursors.{ArePassed}

-- a server: its configuration, what it holds of all stations, and for the k-th client its session and its address,
-- while that is open, and whether an offer may find something for it
pub record ServerValue : Type 0 where
  pub config : Config
  pub rings : RingsValue
  pub sessions : List (Option SessionValue)
  pub addresses : List (Option ℕ)
  pub marks : List Bool

-- the mark of the k-th client, while that is open
abbrev pub mark_at : ServerValue → ℕ → Option Bool
mark_at server k = option_map (λ s. slice_index_or server.marks k false) (slice_index_or server.sessions k None)

-- what a session has to tell of its client's negotiation, if there is one
abbrev pub news_of : Option SessionValue → Option News
news_of None = None
news_of (Some s) = s.news

-- the same of the k-th client, while that is open
abbrev pub news_at : ServerValue → ℕ → Option News
news_at server k = news_of (slice_index_or server.sessions k None)

-- So many of the bytes that wait for the k-th client, one at least, can be taken.
abbrev pub MayTake : ServerValue → (k count : ℕ) → Type 0
MayTake server k count = (s : SessionValue) → slice_get server.sessions k ≡ Some (Some s)
    → (0 < count) × (count ≤ length s.waiting)

-- an open connection's view and client
pub record OpenClient : Type 0 where
  pub view : View
  pub client : Client

-- The rings hold what is held of the history.
abbrev pub HoldsOf : Config → RingsValue → List Arrival → Type 0
HoldsOf config rings h = rings ≡ holdings_of config h

-- the open client of a session after the history
abbrev pub open_client_of : Config → List Arrival → SessionValue → OpenClient
open_client_of config h s = record { view = session_view config s; client = client_in config h s }

-- the open client of a number, of a server's sessions
abbrev pub open_client : Config → List Arrival → Option (Option SessionValue) → Option OpenClient
open_client config h None = None
open_client config h (Some None) = None
open_client config h (Some (Some s)) = Some (open_client_of config h s)

-- the open client of a connection that is open
abbrev pub open_client_with : View → Option Client → Option OpenClient
open_client_with v None = None
open_client_with v (Some c) = Some (record { view = v; client = c })

-- the open client of a number, of a world's connections
abbrev pub open_client_at : Option Connection → Option OpenClient
open_client_at None = None
open_client_at (Some k) = open_client_with k.view k.client

-- a open client whose client goes on
abbrev pub goes_on : (View → Client → Client) → Option OpenClient → Option OpenClient
goes_on f None = None
goes_on f (Some x) = Some (record x { client = f x.view x.client })

-- the client of a open client
abbrev pub client_of_open : Option OpenClient → Option Client
client_of_open o = option_map (λ s. s.client) o

-- the address of a connection that is open
abbrev pub address_with : ℕ → Option Client → Option ℕ
address_with a None = None
address_with a (Some c) = Some a

abbrev pub address_at : Option Connection → Option ℕ
address_at None = None
address_at (Some k) = address_with k.address k.client

-- the address of a number, of a server's addresses
abbrev pub addressed : Option (Option ℕ) → Option ℕ
addressed None = None
addressed (Some o) = o

-- A session's stations are there, no transfer of it is still to start, and its cursors have passed nothing in the rings
-- that it may still want.
pub record IsSettled (config : Config) (rings : RingsValue) (s : SessionValue) : Type 0 where
  pub places : HasPlaces config s
  pub started : s.state ≢ Starting
  pub passed : ArePassed rings s

-- the same of the session in each slot
abbrev pub AreSettled : Config → RingsValue → Slab SessionValue → Type 0
AreSettled config rings slots = (slot : ℕ) (s : SessionValue) → get slots slot ≡ Some s → IsSettled config rings s

-- The server has the configuration, what is held of the history, a session for each connection, and at each number the
-- same view, client and address.
pub record StandsAt (server : ServerValue) (config : Config) (w : World) : Type 0 where
  pub config_is : server.config ≡ config
  pub holds : HoldsOf server.config server.rings w.history
  pub count : length server.sessions ≡ length w.connections
  pub clients : (k : ℕ) → open_client config w.history (slice_get server.sessions k)
      ≡ open_client_at (slice_get w.connections k)
  pub addresses : (k : ℕ) → addressed (slice_get server.addresses k) ≡ address_at (slice_get w.connections k)

-- It stands for the world after events, under the configuration in force by then.
abbrev pub Stands : ServerValue → Config → List Event → Type 0
Stands server config events = StandsAt server (config_after config events) (world_after config events)

-- Only the k-th session goes on.
pub record OnlyGoesOn (config : Config) (h : List Arrival) (old new : List (Option SessionValue)) (k : ℕ)
    (f : View → Client → Client) : Type 0 where
  pub here : open_client config h (slice_get new k) ≡ goes_on f (open_client config h (slice_get old k))
  pub others : (j : ℕ) → j ≢ k → slice_get new j ≡ slice_get old j

-- Each slot that has a session keeps one.
abbrev pub StayOpen : Slab SessionValue → Slab SessionValue → Type 0
StayOpen old new = (slot : ℕ) → IsSome (get old slot) → IsSome (get new slot)

-- Only the session in a slot goes on.
pub record SlotGoesOn (config : Config) (h : List Arrival) (old new : Slab SessionValue) (slot : ℕ)
    (f : View → Client → Client) : Type 0 where
  pub here : open_client config h (Some (get new slot)) ≡ goes_on f (open_client config h (Some (get old slot)))
  pub others : (other : ℕ) → other ≢ slot → get new other ≡ get old other

-- the client after a Take; contracts need not look into it
unfoldable pub taking : List Arrival → ℕ → View → Client → Client
taking h n v c = after_take v h (offered h c) n

-- the client after a Take, and what comes next made to wait
abbrev pub handing : List Arrival → ℕ → View → Client → Client
handing h n v c = offered h (taking h n v c)
