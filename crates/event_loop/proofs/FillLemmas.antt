-- Pieces that are handed to a client's port, each by a write that takes all of it.
use Rattle.std.proofs.Common.{◌≡◌, ℕ, ◌+◌, ◌≤◌, suc, true, arith, List, [], ◌∷◌, ◌++◌, length, map, refl, sym, ap}
use Rattle.std.proofs.Common.{subst, ◌∙◌, Option, Result, Ok}
use Rattle.std.specs.List.{All, concat}
use Rattle.protocol.specs.Catalog.{Config}
use Rattle.protocol.specs.World.{World}
use Rattle.server_core.specs.declared.client.Filled.{Filled}
use Rattle.server_core.specs.declared.client.Gone.{Gone}
use Rattle.server_core.specs.declared.client.Offer.{Offer}
use Rattle.server_core.specs.Filling.{Fills, IsFilled, IsOffered}
use Rattle.server_core.specs.Filling.Fills.{none, more}
use Rattle.server_core.specs.ServerValues.{ServerValue}
use Rattle.ports.specs.Calls.{Call, whole_write, Tells}
use Rattle.ports.specs.declared.answers.Put.TheVariants.{Took}
use Rattle.event_loop.specs.declared.seat.Role.TheVariants.{Client as ClientRole}
use Rattle.event_loop.specs.declared.seat.Seat.{Seat}
use Rattle.event_loop.specs.Deeds.{Deed, Tally, calls_in, tallied, world_beyond}
use Rattle.event_loop.specs.Deeds.Deed.{Writes}
use Rattle.event_loop.specs.Faithful.{AreFaithful}
use Rattle.event_loop.specs.Offering.{HandsPieces, OnceOffered}
use Rattle.event_loop.specs.Passes.{ClientWrites}
use Rattle.event_loop.specs.Passes.ClientWrites.{took}
use Rattle.event_loop.proofs.DeedLemmas.{Tells-nil}

-- the write of a piece
abbrev pub whole : (k port : ℕ) → List ℕ → Deed
whole k port bytes = Writes k port bytes (Ok (Took (length bytes)))

-- the writes of all pieces
abbrev pub wholes : (k port : ℕ) → List (List ℕ) → List Deed
wholes k port pieces = map (whole k port) pieces

-- their calls
pub wholes-calls : (k port : ℕ) (pieces : List (List ℕ))
    → calls_in (wholes k port pieces) ≡ map (whole_write port) pieces
wholes-calls k port [] = refl
wholes-calls k port (p ∷ ps) = ap (λ l. whole_write port p ∷ l) (wholes-calls k port ps)

-- Nothing is counted.
pub wholes-counted : (t : Tally) (k port : ℕ) (pieces : List (List ℕ)) → t ≡ tallied t (wholes k port pieces)
wholes-counted t k port [] = refl
wholes-counted t k port (p ∷ ps) = wholes-counted t k port ps

-- the world after them
pub wholes-beyond : (config : Config) (k port : ℕ) (w w' : World) (pieces : List (List ℕ))
    → Fills config k w pieces w' → world_beyond config w (wholes k port pieces) ≡ w'
wholes-beyond config k port w w' pieces none = refl
wholes-beyond config k port w w' pieces (more bytes some all rest) = wholes-beyond config k port _ w' _ rest

-- Each is of all that waits.
pub wholes-faithful : (config : Config) (k port : ℕ) (w w' : World) (pieces : List (List ℕ))
    → Fills config k w pieces w' → AreFaithful config w (wholes k port pieces)
wholes-faithful config k port w w' pieces none = tt
wholes-faithful config k port w w' pieces (more bytes some all rest) =
    (all, wholes-faithful config k port _ w' _ rest)

-- They are as many writes of a pass.
pub wholes-writes : (config : Config) (k : ℕ) (w w' : World) (s : Seat) (pieces : List (List ℕ))
    → s.role ≡ ClientRole k → s.writable ≡ true → Fills config k w pieces w'
    → (n : ℕ) (ds : List Deed) (u : World) (o : Option Seat) → ClientWrites config k n w' s ds u o
    → ClientWrites config k (n + length pieces) w s (wholes k s.port pieces ++ ds) u o
wholes-writes config k w w' s pieces role writable none n ds u o after =
    let same : n ≡ n + 0 = omega arith in
    subst (λ m. ClientWrites config k m w s ds u o) same after
wholes-writes config k w w' s pieces role writable (more {rest = ps} bytes some all rest) n ds u o after =
    let same : suc (n + length ps) ≡ n + suc (length ps) = omega arith in
    let all_of : length bytes ≤ length bytes = omega arith in
    subst (λ m. ClientWrites config k m w s (whole k s.port bytes ∷ (wholes k s.port ps ++ ds)) u o) same
    (took bytes (length bytes) (record { role = role; writable = writable; some = some; all = all }) some all_of
    (wholes-writes config k _ w' s ps role writable rest n ds u o after))

-- Pieces were handed, and the client was offered what comes next.
pub pieces-on : (config : Config) (w : World) (k : ℕ) (a b : Option (List Call)) (last : ServerValue) (t : Tally)
    (s : Seat) (filled : Filled) → s.role ≡ ClientRole k → s.writable ≡ true
    → HandsPieces config w k s.port a b filled last
    → OnceOffered config k w a b last t s s filled.found filled.count
pieces-on config w k a b last t s filled role writable hands =
    let ps : List (List ℕ) = hands.pieces in
    let there : world_beyond config w (wholes k s.port ps) ≡ hands.beyond =
    wholes-beyond config k s.port w hands.beyond ps hands.fills in
    record {
      deeds = wholes k s.port ps;
      tells = subst (Tells a b) (sym (wholes-calls k s.port ps)) hands.tells;
      offers = subst (λ v. IsOffered config v k filled.found last) (sym there) hands.offers;
      counted = wholes-counted t k s.port ps;
      faithful = wholes-faithful config k s.port w hands.beyond ps hands.fills;
      how = λ n ds w' o after.
          subst (λ m. ClientWrites config k (n + m) w s (wholes k s.port ps ++ ds) w' o) hands.count
          (wholes-writes config k w hands.beyond s ps role writable hands.fills n ds w' o
          (subst (λ v. ClientWrites config k n v s ds w' o) there after));
    }

-- Where no piece was handed, what was found is what was offered at the start.
pub none-filled : (config : Config) (w : World) (k port : ℕ) (a b : Option (List Call)) (filled : Filled)
    (server : ServerValue) → filled.count ≡ 0 → HandsPieces config w k port a b filled server
    → IsOffered config w k filled.found server
none-filled config w k port a b filled server nothing hands =
    by hands.pieces hands.beyond (hands.count ∙ nothing) hands.fills hands.offers
  where
    by : (ps : List (List ℕ)) (v : World) → length ps ≡ 0 → Fills config k w ps v
        → IsOffered config v k filled.found server → IsOffered config w k filled.found server
    by ps v e none offers = offers
    by ps v e (more bytes some all rest) offers = absurd (omega (arith, e))

-- ---- what is handed

-- No piece is.
pub hands-none : (config : Config) (w : World) (k port : ℕ) (a b : Option (List Call)) (found : Result Offer Gone)
    (server : ServerValue) → b ≡ a → IsOffered config w k found server
    → HandsPieces config w k port a b (record { count = 0; found = found }) server
hands-none config w k port a b found server same offers = record {
  pieces = [];
  beyond = w;
  fills = none;
  offers = offers;
  count = refl;
  tells = subst (λ x. Tells a x []) (sym same) (Tells-nil a);
}

no-pieces : (pieces : List (List ℕ)) → length pieces ≡ 0 → pieces ≡ []
no-pieces [] e = refl
no-pieces (p ∷ ps) e = absurd (omega (arith, e))

-- Nothing was filled.
pub hands-nothing : (config : Config) (w : World) (k port : ℕ) (a b : Option (List Call)) (out out' : List ℕ)
    (filled : Filled) (server : ServerValue) → b ≡ a → filled.count ≡ 0
    → IsFilled config w k out out' filled server → HandsPieces config w k port a b filled server
hands-nothing config w k port a b out out' filled server same nothing x = record {
  pieces = x.pieces;
  beyond = x.beyond;
  fills = x.fills;
  offers = x.offers;
  count = x.count;
  tells = subst (λ ps. Tells a b (map (whole_write port) ps)) (sym (no-pieces x.pieces (x.count ∙ nothing)))
      (subst (λ y. Tells a y []) (sym same) (Tells-nil a));
}

-- All that was filled into an empty buffer is.
pub hands-filled : (config : Config) (w : World) (k port : ℕ) (a b c : Option (List Call)) (out out' : List ℕ)
    (filled : Filled) (server : ServerValue) → b ≡ a → out ≡ []
    → IsFilled config w k out out' filled server
    → ((pieces : List (List ℕ)) → out' ≡ concat pieces → All (λ p. length p ≡ 520) pieces
    → Tells b c (map (whole_write port) pieces))
    → HandsPieces config w k port a c filled server
hands-filled config w k port a b c out out' filled server same empty x told = record {
  pieces = x.pieces;
  beyond = x.beyond;
  fills = x.fills;
  offers = x.offers;
  count = x.count;
  tells = subst (λ y. Tells y c (map (whole_write port) x.pieces)) same
      (told x.pieces (x.bytes ∙ ap (λ l. l ++ concat x.pieces) empty) x.sizes);
}
