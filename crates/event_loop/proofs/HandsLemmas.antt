-- What clients' ports take is what the definitions hand, and so what a client alone is handed.
use Rattle.std.proofs.Common.{◌≡◌, ℕ, zero, suc, ◌==◌, true, false, Bool, if◌then◌else◌, List, [], ◌∷◌, ◌++◌, take, map}
use Rattle.std.proofs.Common.{flat_map, refl, sym, ap, ap₂, ◌∙◌, append_assoc, append-nil, Option, Some, None}
use Rattle.std.proofs.Common.{option_map, unwrap_or}
use Rattle.std.proofs.lemmas.Grind.{flat_map-append}
use Rattle.protocol.specs.Catalog.{Config}
use Rattle.protocol.specs.Client.{Client, Taken, offered}
use Rattle.protocol.specs.World.{World, Handed, step, config_after, world_after, handed_from, told, taken_by}
use Rattle.protocol.specs.World.Event.{Arrive}
use Rattle.protocol.specs.Alone.{alone, own_view, seen, handed_to}
use Rattle.protocol.proofs.AloneLemmas.{goes-on}
use Rattle.protocol.proofs.Connections.{handed_from-append}
use Rattle.server_core.specs.Filling.{client_at, lent_to}
use Rattle.ports.specs.Calls.{taken}
use Rattle.ports.specs.Calls.Given.{Piece, Nothing, TheEnd, Failure}
use Rattle.event_loop.specs.Deeds.{Deed, events_of, events_in, taken_at, taken_in}
use Rattle.event_loop.specs.Deeds.Deed.{Hears, Opens, Feeds, TurnsAway, Reads, ReadsFeed, Writes, Offers, Closes}
use Rattle.event_loop.specs.Deeds.Deed.{ShutsFeed}
use Rattle.event_loop.specs.Passes.{beyond}
use Rattle.event_loop.specs.Faithful.{IsFaithful, AreFaithful}
use Rattle.event_loop.specs.Turns.{HandsAsAlone, bytes_alone}
use Rattle.event_loop.proofs.DeedLemmas.{deed-keeps}

abbrev nothing : List ℕ
nothing = []

abbrev bytes_of : List Taken → List ℕ
bytes_of ts = flat_map (λ t. t.bytes) ts

-- the bytes that are handed to the k-th client
abbrev bytes_to : ℕ → List Handed → List ℕ
bytes_to k hs = bytes_of (handed_to k hs)

handed_to-cons : (k : ℕ) (x : Handed) (hs : List Handed)
    → bytes_to k (x ∷ hs) ≡ (if x.client == k then x.bytes else []) ++ bytes_to k hs
handed_to-cons k x hs = by (x.client == k) refl
  where
    by : (b : Bool) → x.client == k ≡ b → bytes_to k (x ∷ hs) ≡ (if b then x.bytes else []) ++ bytes_to k hs
    by true e = rw e
    by false e = rw e

pub bytes_to-append : (k : ℕ) (xs ys : List Handed) → bytes_to k (xs ++ ys) ≡ bytes_to k xs ++ bytes_to k ys
bytes_to-append k [] ys = refl
bytes_to-append k (x ∷ xs) ys =
    handed_to-cons k x (xs ++ ys)
    ∙ ap (λ l. (if x.client == k then x.bytes else []) ++ l) (bytes_to-append k xs ys)
    ∙ sym (append_assoc (if x.client == k then x.bytes else []) (bytes_to k xs) (bytes_to k ys))
    ∙ ap (λ l. l ++ bytes_to k ys) (sym (handed_to-cons k x xs))

arrivals-hand : (config : Config) (w : World) (records : List (List ℕ)) → handed_from config w (map Arrive records) ≡ []
arrivals-hand config w [] = refl
arrivals-hand config w (r ∷ rs) = arrivals-hand config (step config w (Arrive r)) rs

-- what a Take hands is a beginning of what waits
lent-taken : (w : World) (k n : ℕ) → (taken_by w.history (client_at w k) n).bytes ≡ take n (lent_to w k)
lent-taken w k n = by (client_at w k)
  where
    none : (n : ℕ) → [] ≡ take {A = ℕ} n []
    none zero = refl
    none (suc n) = refl

    by : (o : Option Client) → (taken_by w.history o n).bytes
        ≡ take n (unwrap_or (option_map (λ c. (offered w.history c).waiting) o) [])
    by None = none n
    by (Some c) = refl

-- one deed
deed-hands : (config : Config) (w : World) (k : ℕ) (d : Deed) → IsFaithful w d
    → bytes_to k (handed_from config w (events_of d)) ≡ taken_at k d
deed-hands config w k (Hears answer) h = refl
deed-hands config w k (Opens port address) h = refl
deed-hands config w k (Feeds port) h = refl
deed-hands config w k (TurnsAway happening port) h = refl
deed-hands config w k (Reads client port most (Piece bytes)) h = refl
deed-hands config w k (Reads client port most Nothing) h = refl
deed-hands config w k (Reads client port most TheEnd) h = refl
deed-hands config w k (Reads client port most Failure) h = refl
deed-hands config w k (ReadsFeed port most gave records refused) h = ap (bytes_to k) (arrivals-hand config w records)
deed-hands config w k (Writes client port bytes answer) h =
    handed_to-cons k (told client (taken_by w.history (client_at w client) (taken answer))) []
    ∙ append-nil (if client == k then (taken_by w.history (client_at w client) (taken answer)).bytes else [])
    ∙ ap (λ l. if client == k then l else []) (lent-taken w client (taken answer) ∙ ap (take (taken answer)) h)
deed-hands config w k (Offers client) h =
    handed_to-cons k (told client (taken_by w.history (client_at w client) 0)) []
    ∙ append-nil (if client == k then (taken_by w.history (client_at w client) 0).bytes else [])
    ∙ ap (λ l. if client == k then l else []) (lent-taken w client 0)
    ∙ either (client == k)
  where
    either : (b : Bool) → (if b then nothing else nothing) ≡ nothing
    either true = refl
    either false = refl
deed-hands config w k (Closes client port) h = refl
deed-hands config w k (ShutsFeed port) h = refl

-- all of them
pub deeds-hand : (config : Config) (w : World) (k : ℕ) (ds : List Deed) → AreFaithful config w ds
    → bytes_to k (handed_from config w (events_in ds)) ≡ taken_in k ds
deeds-hand config w k [] h = refl
deeds-hand config w k (d ∷ ds) h =
    ap (bytes_to k) (handed_from-append config w (events_of d) (events_in ds)
    ∙ ap (λ c. handed_from config w (events_of d) ++ handed_from c (beyond config w d) (events_in ds))
    (deed-keeps config d))
    ∙ bytes_to-append k (handed_from config w (events_of d)) (handed_from config (beyond config w d) (events_in ds))
    ∙ ap₂ (λ a b. a ++ b) (deed-hands config w k d h.0) (deeds-hand config (beyond config w d) k ds h.1)

pub hands-as-alone : (config : Config) (w : World) (ds : List Deed) → AreFaithful config w ds → HandsAsAlone config w ds
hands-as-alone config w ds faithful first h in_force there k =
    let es = events_in ds in
    ap bytes_of (goes-on first h es k)
    ∙ flat_map-append (λ t. t.bytes) (alone (own_view first h k) (seen first h k))
    (handed_to k (handed_from (config_after first h) (world_after first h) es))
    ∙ ap (λ l. bytes_alone first h k ++ l)
    (ap₂ (λ (c : Config) (v : World). bytes_to k (handed_from c v es)) in_force there
    ∙ deeds-hand config w k ds faithful)
