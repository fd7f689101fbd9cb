-- For how many bytes a port has room, by what is kept of its connection.
use Rattle.std.proofs.Common.{◌≡◌, ◌≢◌, ℕ, zero, suc, ◌<◌, true, List, [], ◌∷◌, get_or, set, length, if◌then◌else◌}
use Rattle.std.proofs.Common.{Some, None, refl, sym, ap, subst, ◌∙◌, arith}
use Rattle.slab.specs.Slab.{Slab, Updates, get, with_value}
use Rattle.ports_socket.specs.declared.connection.Connection.{Connection}
use Rattle.ports_socket.specs.declared.connections.ConnectionPlace.{ConnectionPlace}
use Rattle.ports_socket.specs.declared.kept_connection.KeptConnection.{KeptConnection}
use Rattle.ports_socket.specs.Connections.{room_at, socket_of, values}
use Rattle.ports_socket.specs.Places.{AreOthers, IsPlaceOf, IsTable, IsThere, Rise, connections_at}
use Rattle.ports_socket.specs.Places.{numbers_of}
use Rattle.ports_socket.specs.Waiting.{room_in}
use Rattle.ports_socket.proofs.ConnectionLemmas.{IsChanged, is-other, is-same, number-of-new, place-set, rise-set}
use Rattle.ports_socket.proofs.PlaceLemmas.{above-at, long, number-read}
use Rattle.ports_socket.proofs.TableLemmas.{numbers_in, rise-there, some-same, there-place}
use Rattle.ports_socket.proofs.TableLemmas.{written, wrote}

room-here : (n : ℕ) (c : Connection) (cs : List Connection) → c.number ≡ n
    → room_at n (values (c ∷ cs)) ≡ room_in c.unsent
room-here n c cs same =
    ap (λ b. if b then room_in c.unsent else room_at n (values cs)) (is-same c.number n same)

room-past : (n : ℕ) (c : Connection) (cs : List Connection) → c.number ≢ n
    → room_at n (values (c ∷ cs)) ≡ room_at n (values cs)
room-past n c cs other =
    ap (λ b. if b then room_in c.unsent else room_at n (values cs)) (is-other c.number n other)

-- a port that is not open has none
pub room-none : (n : ℕ) (cs : List Connection) → AreOthers n (numbers_in cs) → room_at n (values cs) ≡ 0
room-none n [] h = refl
room-none n (c ∷ cs) h =
    room-past n c cs (h 0 (omega arith)) ∙ room-none n cs (λ j lt. h (suc j) (omega (arith, lt)))

room-found : (n : ℕ) (cs : List Connection) (at : ℕ) (c : Connection)
    → Rise (numbers_in cs) → IsPlaceOf n (numbers_in cs) at → c ≡ get_or cs at c
    → room_at n (values cs) ≡ room_in c.unsent
room-found n [] at c rise is read = absurd (omega (arith, is.inside))
room-found n (x ∷ xs) zero c rise is read =
    room-here n x xs is.has_number ∙ ap (λ (y : Connection). room_in y.unsent) (sym read)
room-found n (x ∷ xs) (suc at) c rise is read =
    let inside : at < length (numbers_in xs) = omega (arith, is.inside) in
    let here : get_or (numbers_in xs) at 0 ≡ n = is.has_number in
    let lower : x.number < n = subst (λ m. x.number < m) here (above-at x.number (numbers_in xs) rise.0 at inside) in
    let other : x.number ≢ n = omega (arith, lower) in
    room-past n x xs other ∙ room-found n xs at c rise.1 (record { inside = inside; has_number = here }) read

-- the connection that was changed
room-set : (n : ℕ) (cs : List Connection) (at : ℕ) (c new : Connection) → IsChanged n cs at c new
    → room_at n (values (set cs at new)) ≡ room_in new.unsent
room-set n cs at c new h =
    let there = place-set n cs at new h.place (number-of-new n cs at c new h) in
    room-found n (set cs at new) at new (rise-set n cs at c new h) there.0 there.1

-- what is kept of an open connection
pub room-kept : (slots : Slab KeptConnection) (ps : List ConnectionPlace) (key : ℕ) (h : KeptConnection) (n : ℕ)
    → IsTable slots ps → get slots key ≡ Some h → h.is_open ≡ true → h.connection.number ≡ n
    → room_at n (values (connections_at slots ps)) ≡ room_in h.connection.unsent
room-kept slots ps key h n table kept opened number =
    let same : Updates slots slots key (Some h) = record { changed = kept; others = λ other differs. refl } in
    let w = written slots slots key h h kept same ps opened table in
    subst (λ m. room_at m (values (connections_at slots ps)) ≡ room_in h.connection.unsent) number
    (room-found h.connection.number (connections_at slots ps) w.at h.connection (rise-there slots ps table) w.place
    w.read)

-- and after a change of it
pub room-changed : (slots : Slab KeptConnection) (ps : List ConnectionPlace) (key : ℕ) (h : KeptConnection) (n : ℕ)
    (d : Connection) → IsTable slots ps → get slots key ≡ Some h → h.is_open ≡ true → h.connection.number ≡ n
    → socket_of d ≡ socket_of h.connection
    → room_at n (values (connections_at (with_value slots key (record h { connection = d })) ps)) ≡ room_in d.unsent
room-changed slots ps key h n d table kept opened number socket =
    let new : Slab KeptConnection = with_value slots key (record h { connection = d }) in
    let w = written slots new key h (record h { connection = d }) kept
    (wrote slots key h (record h { connection = d }) kept) ps opened table in
    let changes : IsChanged h.connection.number (connections_at slots ps) w.at h.connection d = record {
      rise = rise-there slots ps table;
      place = w.place;
      read = w.read;
      socket = socket;
    } in
    subst (λ m. room_at m (values (connections_at new ps)) ≡ room_in d.unsent) number
    (ap (λ (l : List Connection). room_at h.connection.number (values l)) w.is
    ∙ room-set h.connection.number (connections_at slots ps) w.at h.connection d changes)

-- ---- one that was found by its number

-- It is open, and has that number.
pub record IsOpenAt (n : ℕ) (h : KeptConnection) : Type 0 where
  pub opened : h.is_open ≡ true
  pub number : h.connection.number ≡ n

module _ (slots : Slab KeptConnection) (ps : List ConnectionPlace) (n at : ℕ) (q : ConnectionPlace)
    (table : IsTable slots ps) (place : IsPlaceOf n (numbers_of ps) at) (read : q ≡ get_or ps at q) where
  inside : at < length ps
  inside = omega (arith, place.inside, long ps)

  there : IsThere slots q
  there = there-place slots ps at table.there inside q read

  numbered : q.number ≡ n
  numbered = ap (λ (x : ConnectionPlace). x.number) read ∙ sym (number-read ps at q inside) ∙ place.has_number

  pub open-at : (h : KeptConnection) → get slots q.key ≡ Some h → IsOpenAt n h
  open-at h kept =
      let same : there.held ≡ h = some-same there.held h (sym there.kept ∙ kept) in
      record {
        opened = ap (λ (x : KeptConnection). x.is_open) (sym same) ∙ there.opened;
        number = ap (λ (x : KeptConnection). x.connection.number) (sym same) ∙ there.number ∙ numbered;
      }

  pub not-vacant : get slots q.key ≡ None → ⊥
  not-vacant vacant = let no : Some there.held ≡ None = sym there.kept ∙ vacant in absurd (cc)
