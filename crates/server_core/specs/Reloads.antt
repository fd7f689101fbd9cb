-- Sessions that a new configuration cuts.
-- This project's own.
use Rattle.std.specs.Prelude.{◌≡◌, ℕ, Bool, false, not, if◌then◌else◌, List, [], Option, Some, None, slice_get}
use Rattle.std.specs.Prelude.{slice_index_or}
use Rattle.slab.specs.Slab.{Slab, get}
use Rattle.protocol.specs.Catalog.{Config, view_of, is_same_view}
use Rattle.protocol.specs.History.{Arrival}
use Rattle.station_ring.specs.HeldRecords.{RingsValue}
use Rattle.session_state.specs.declared.session.State.TheVariants.{Ending}
use Rattle.session_state.specs.Sessions.{SessionValue, session_view}
use Rattle.server_core.specs.declared.clients.Opened.{Opened}
use Rattle.server_core.specs.Clients.{address_in, slot_in}
use Rattle.server_core.specs.ServerValues.{HoldsOf, ServerValue}

-- the session that is cut
abbrev pub cut_session : SessionValue → SessionValue
cut_session s = record s { state = Ending; unread = [] }

-- a session from an address, under the new configuration: cut where the address has another view than the session
abbrev pub reviewed_session : Config → ℕ → SessionValue → SessionValue
reviewed_session new a s = if is_same_view (view_of new a) (session_view new s) then s else cut_session s

-- Each open client's session was reviewed.
abbrev pub AreReviewed : Config → List Opened → Slab SessionValue → Slab SessionValue → Type 0
AreReviewed new os old slots = (k slot a : ℕ) (s : SessionValue) → slot_in os k ≡ Some slot → address_in os k ≡ Some a →
    get old slot ≡ Some s → get slots slot ≡ Some (reviewed_session new a s)

-- ---- between two configurations

-- It is in its end, and nothing is unread.
abbrev pub IsCut : SessionValue → Type 0
IsCut s = (s.state ≡ Ending) × (s.unread ≡ [])

-- A session has the view that its address has under the configuration, or it is cut.
abbrev pub IsCurrent : Config → ℕ → SessionValue → Type 0
IsCurrent config a s = is_same_view (view_of config a) (session_view config s) ≡ false → IsCut s

-- the same of the session of each open client
abbrev pub AreCurrent : Config → List (Option SessionValue) → List (Option ℕ) → Type 0
AreCurrent config sessions addresses = (k a : ℕ) (s : SessionValue) → slice_get sessions k ≡ Some (Some s) →
    slice_get addresses k ≡ Some (Some a) → IsCurrent config a s

-- the same of the sessions in their slots
abbrev pub AreCurrentIn : Config → List Opened → Slab SessionValue → Type 0
AreCurrentIn config os slots = (k slot a : ℕ) (s : SessionValue) → slot_in os k ≡ Some slot → address_in os k ≡ Some a →
    get slots slot ≡ Some s → IsCurrent config a s

-- An address has another view under the configuration than a session has. Without one of the two nothing differs.
abbrev pub has_other_view : Config → Option ℕ → Option SessionValue → Bool
has_other_view config (Some a) (Some s) = not (is_same_view (view_of config a) (session_view config s))
has_other_view config (Some a) None = false
has_other_view config None o = false

-- The k-th client is cut: it is open, and its address has another view under the configuration in force than the client
-- has had since it opened.
abbrev pub is_cut_at : ServerValue → (k : ℕ) → Bool
is_cut_at server k =
    has_other_view server.config (slice_index_or server.addresses k None) (slice_index_or server.sessions k None)

-- There is a history of which the rings hold what is held.
pub record HasHistory (config : Config) (rings : RingsValue) : Type 0 where
  pub history : List Arrival
  pub holds : HoldsOf config rings history
