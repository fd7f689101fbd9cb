-- Packets that an open client is handed one after the other, by how many they are.
-- This project's own.
use Rattle.std.specs.Prelude.{◌≡◌, ℕ, zero, suc, List, [], ◌∷◌, ◌++◌, length, true, Option, Some, None}
use Rattle.std.specs.List.{concat}
use Rattle.protocol.specs.Catalog.{Config, View}
use Rattle.protocol.specs.Client.{Client, offered}
use Rattle.protocol.specs.History.{Arrival}
use Rattle.session_state.specs.Sessions.{SessionValue, client_in, session_view}
use Rattle.transfer.specs.Choosing.{is_transfer}
use Rattle.server_core.specs.ServerValues.{OpenClient, goes_on, handing}

-- the client after so many packets, and what comes next made to wait after each
unfoldable pub handing_on : List Arrival → ℕ → View → Client → Client
handing_on h zero v c = c
handing_on h (suc n) v c = handing h 520 v (handing_on h n v c)

-- what waits for an open client
abbrev pub waiting_at : Option OpenClient → List ℕ
waiting_at None = []
waiting_at (Some x) = x.client.waiting

-- what waits for it after so many packets
abbrev pub waiting_after : List Arrival → ℕ → Option OpenClient → List ℕ
waiting_after h n o = waiting_at (goes_on (handing_on h n) o)

-- so many packets
unfoldable pub packets_of : List Arrival → ℕ → Option OpenClient → List (List ℕ)
packets_of h zero o = []
packets_of h (suc n) o = packets_of h n o ++ waiting_after h n o ∷ []

-- Each of them is whole.
unfoldable pub AreWhole : List Arrival → ℕ → Option OpenClient → Type 0
AreWhole h zero o = Unit {0}
AreWhole h (suc n) o = AreWhole h n o × (length (waiting_after h n o) ≡ 520)

-- So many packets of an open client were appended to some bytes, and it went on after each.
pub record HandsPackets (h : List Arrival) (before after : Option OpenClient) (n : ℕ) (out out' : List ℕ)
    : Type 0 where
  pub goes : after ≡ goes_on (handing_on h n) before
  pub bytes : out' ≡ out ++ concat (packets_of h n before)
  pub whole : AreWhole h n before

-- the open client of a session that is offered something
abbrev pub offered_open_of : Config → List Arrival → SessionValue → OpenClient
offered_open_of config h s = record { view = session_view config s; client = offered h (client_in config h s) }

-- The session is in a transfer in which nothing waits and nothing is unread.
pub record OnlySends (s : SessionValue) : Type 0 where
  pub sends : is_transfer s.state ≡ true
  pub nothing : s.waiting ≡ []
  pub read : s.unread ≡ []
