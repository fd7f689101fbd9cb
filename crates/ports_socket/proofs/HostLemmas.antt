-- How many clients of each address are connected, by addresses that rise.
use Rattle.std.proofs.Common.{◌≡◌, ℕ, zero, suc, ◌+◌, ◌<◌, ◌≤◌, ◌==◌, nat_lt, nat_le, Bool, true, false, List}
use Rattle.std.proofs.Common.{◌&&◌, [], ◌∷◌, ◌++◌, length, get_or, count_by, IsTrue, ◌↔◌, Option, Some, None}
use Rattle.std.proofs.Common.{refl, sym, ap, subst, ◌∙◌, arith}
use Rattle.std.specs.List.{insert, remove}
use Rattle.std.specs.List.Sorted.{IsNonDecreasing, IsPartitionPoint}
use Rattle.std.proofs.lemmas.List.Sorted.{IsNonDecreasingBy-from_default}
use Rattle.std.proofs.lemmas.List.Sums.{sum_by-append, sum_by-cons, sum_by-insert, sum_by-remove}
use Rattle.std.proofs.lemmas.Bool.Decides.{nat_tests}
use Rattle.std.specs.Net.Addr.{ipv4_bits}
use Rattle.ports_socket.specs.Admissions.{HasPlace, IsAdmitted, IsFewer, clients_at, is_client}
use Rattle.ports_socket.specs.Hosts.{AreFrom, Ascend, CountsClients, CountsIn, CountsOut, IsCounted, IsUncounted}
use Rattle.ports_socket.specs.Hosts.{Parts, clients_of, is_client_of, one_if}
use Rattle.ports_socket.specs.Peers.{no_peer}
use Rattle.std.specs.declared.net.ipv4_addr.Ipv4Addr.{Ipv4Addr}
use Rattle.ports_socket.specs.declared.admission.Admission.{Admission}
use Rattle.ports_socket.specs.declared.peer.PeerKind.{PeerKind}
use Rattle.ports_socket.specs.declared.peer.PeerKind.TheVariants.{Client, Feed}
use Rattle.ports_socket.specs.declared.peer.Peer.{Peer}

-- ---- numbers that do not fall

from-at : (n : ℕ) (xs : List ℕ) → AreFrom n xs → (j : ℕ) → j < length xs → n ≤ get_or xs j 0
from-at n [] h j lt = absurd (omega (arith, lt))
from-at n (x ∷ xs) h zero lt = h.0
from-at n (x ∷ xs) h (suc j) lt = from-at n xs h.1 j (omega (arith, lt))

ascend-at : (xs : List ℕ) → Ascend xs → (i j : ℕ) → i ≤ j → j < length xs → get_or xs i 0 ≤ get_or xs j 0
ascend-at [] h i j le lt = absurd (omega (arith, lt))
ascend-at (x ∷ xs) h zero zero le lt = omega arith
ascend-at (x ∷ xs) h (suc i) zero le lt = absurd (omega (arith, le))
ascend-at (x ∷ xs) h zero (suc j) le lt = from-at x xs h.0 j (omega (arith, lt))
ascend-at (x ∷ xs) h (suc i) (suc j) le lt = ascend-at xs h.1 i j (omega (arith, le)) (omega (arith, lt))

pub non-decreasing : (xs : List ℕ) → Ascend xs → IsNonDecreasing xs
non-decreasing xs h = IsNonDecreasingBy-from_default (λ x. x) xs 0 (ascend-at xs h)

-- ---- a place by which a list is parted

pub parts-from : (p : ℕ → Bool) (xs : List ℕ) (at : ℕ) → at ≤ length xs
    → IsPartitionPoint (λ x. p x ≡ true) (λ x. p x ≡ false) xs at → Parts p xs at
parts-from p xs at inside point = record {
  inside = inside;
  before = λ i lt. point.0 i 0 (omega arith) lt;
  after = λ i le lt. point.1 i 0 le lt;
}

parts-tail : (p : ℕ → Bool) (x : ℕ) (xs : List ℕ) (at : ℕ) → Parts p (x ∷ xs) (suc at) → Parts p xs at
parts-tail p x xs at h = record {
  inside = omega (arith, h.inside);
  before = λ i lt. h.before (suc i) (omega (arith, lt));
  after = λ i le lt. h.after (suc i) (omega (arith, le)) (omega (arith, lt));
}

parts-rest : (p : ℕ → Bool) (x : ℕ) (xs : List ℕ) → Parts p (x ∷ xs) zero → Parts p xs zero
parts-rest p x xs h = record {
  inside = omega arith;
  before = λ i lt. absurd (omega (arith, lt));
  after = λ i le lt. h.after (suc i) (omega arith) (omega (arith, lt));
}

is-below : (x a : ℕ) → nat_lt x a ≡ true → (x == a) ≡ false
is-below x a h = grind (arith, nat_tests)

is-above : (x a : ℕ) → nat_le x a ≡ false → (x == a) ≡ false
is-above x a h = grind (arith, nat_tests)

is-equal : (x a : ℕ) → nat_lt x a ≡ false → nat_le x a ≡ true → (x == a) ≡ true
is-equal x a h k = grind (arith, nat_tests)

not-both : (x a : ℕ) → nat_lt x a ≡ true → nat_le x a ≡ true
not-both x a h = grind (arith, nat_tests)

counted : (x a : ℕ) (xs : List ℕ) (same : Bool) → (x == a) ≡ same
    → clients_of a (x ∷ xs) ≡ one_if same + clients_of a xs
counted x a xs same e =
    sum_by-cons (λ y. one_if (y == a)) x xs ∙ ap (λ b. one_if b + clients_of a xs) e

-- The numbers that are an address lie between the two places.
pub between : (a : ℕ) (xs : List ℕ) (from to : ℕ) → Parts (λ x. nat_lt x a) xs from → Parts (λ x. nat_le x a) xs to
    → clients_of a xs + from ≡ to
between a [] from to lower upper = omega (arith, lower.inside, upper.inside)
between a (x ∷ xs) zero zero lower upper =
    let rest : clients_of a xs + zero ≡ zero =
    between a xs zero zero (parts-rest _ x xs lower) (parts-rest _ x xs upper) in
    let first = counted x a xs false (is-above x a (upper.after 0 (omega arith) (omega arith))) in
    omega (arith, first, rest)
between a (x ∷ xs) zero (suc to) lower upper =
    let rest : clients_of a xs + zero ≡ to = between a xs zero to (parts-rest _ x xs lower) (parts-tail _ x xs to upper)
    in
    let first = counted x a xs true
    (is-equal x a (lower.after 0 (omega arith) (omega arith)) (upper.before 0 (omega arith))) in
    omega (arith, first, rest)
between a (x ∷ xs) (suc from) zero lower upper =
    let no : true ≡ false =
    sym (not-both x a (lower.before 0 (omega arith))) ∙ upper.after 0 (omega arith) (omega arith) in
    absurd cc
between a (x ∷ xs) (suc from) (suc to) lower upper =
    let rest : clients_of a xs + from ≡ to =
    between a xs from to (parts-tail _ x xs from lower) (parts-tail _ x xs to upper) in
    let first = counted x a xs false (is-below x a (lower.before 0 (omega arith))) in
    omega (arith, first, rest)

-- ---- one more, and one less

from-insert : (n a : ℕ) (xs : List ℕ) (at : ℕ) → AreFrom n xs → n ≤ a → at ≤ length xs → AreFrom n (insert xs at a)
from-insert n a xs zero h le inside = (le, h)
from-insert n a [] (suc at) h le inside = absurd (omega (arith, inside))
from-insert n a (x ∷ xs) (suc at) h le inside = (h.0, from-insert n a xs at h.1 le (omega (arith, inside)))

le-above : (x a : ℕ) → nat_le x a ≡ false → a ≤ x
le-above x a h = grind (arith, nat_tests)

le-below : (x a : ℕ) → nat_le x a ≡ true → x ≤ a
le-below x a h = grind (arith, nat_tests)

from-after : (a : ℕ) (xs : List ℕ) → Parts (λ x. nat_le x a) xs zero → AreFrom a xs
from-after a [] h = tt
from-after a (x ∷ xs) h =
    (le-above x a (h.after 0 (omega arith) (omega arith)), from-after a xs (parts-rest _ x xs h))

pub ascend-insert : (a : ℕ) (xs : List ℕ) (at : ℕ) → Ascend xs → Parts (λ x. nat_le x a) xs at
    → Ascend (insert xs at a)
ascend-insert a xs zero h parts = (from-after a xs parts, h)
ascend-insert a [] (suc at) h parts = absurd (omega (arith, parts.inside))
ascend-insert a (x ∷ xs) (suc at) h parts = (
  from-insert x a xs at h.0 (le-below x a (parts.before 0 (omega arith))) (omega (arith, parts.inside)),
  ascend-insert a xs at h.1 (parts-tail _ x xs at parts),
)

from-remove : (n : ℕ) (xs : List ℕ) (i : ℕ) → AreFrom n xs → AreFrom n (remove xs i)
from-remove n [] zero h = tt
from-remove n [] (suc i) h = tt
from-remove n (x ∷ xs) zero h = h.1
from-remove n (x ∷ xs) (suc i) h = (h.0, from-remove n xs i h.1)

pub ascend-remove : (xs : List ℕ) (i : ℕ) → Ascend xs → Ascend (remove xs i)
ascend-remove [] zero h = tt
ascend-remove [] (suc i) h = tt
ascend-remove (x ∷ xs) zero h = h.1
ascend-remove (x ∷ xs) (suc i) h = (from-remove x xs i h.0, ascend-remove xs i h.1)

pub counted-insert : (a : ℕ) (xs : List ℕ) (at : ℕ) → IsCounted a xs (insert xs at a)
counted-insert a xs at = λ other. sum_by-insert (λ x. one_if (x == other)) xs at a

le-from : (x a : ℕ) → nat_lt x a ≡ false → a ≤ x
le-from x a h = grind (arith, nat_tests)

equal-numbers : (x a : ℕ) → a ≤ x → (suc a ≤ x → ⊥) → x ≡ a
equal-numbers x a le most = le-both x a le (below x a most)
  where
    below : (x a : ℕ) → (suc a ≤ x → ⊥) → x ≤ a
    below x a most = grind (arith, nat_tests)

    le-both : (x a : ℕ) → a ≤ x → x ≤ a → x ≡ a
    le-both x a le ge = omega (arith, le, ge)

-- An address that has a client is at the place before which all are lower.
none-above : (a : ℕ) (xs : List ℕ) → AreFrom (suc a) xs → clients_of a xs ≡ 0
none-above a [] h = refl
none-above a (x ∷ xs) h =
    let first = counted x a xs false (not-above x a h.0) in
    let rest = none-above a xs h.1 in
    omega (arith, first, rest)
  where
    not-above : (x a : ℕ) → suc a ≤ x → (x == a) ≡ false
    not-above x a h = grind (arith, nat_tests)

from-more : (m n : ℕ) (xs : List ℕ) → m ≤ n → AreFrom n xs → AreFrom m xs
from-more m n [] le h = tt
from-more m n (x ∷ xs) le h = (omega (arith, le, h.0), from-more m n xs le h.1)

pub at-place : (a : ℕ) (xs : List ℕ) (at : ℕ) → Ascend xs → Parts (λ x. nat_lt x a) xs at → 0 < clients_of a xs
    → (at < length xs) × (get_or xs at 0 ≡ a)
at-place a [] at h lower some = absurd (let none : clients_of a [] ≡ 0 = refl in omega (arith, some, none))
at-place a (x ∷ xs) zero h lower some = (omega arith, by-order x a (lower.after 0 (omega arith) (omega arith)) above)
  where
    by-order : (x a : ℕ) → nat_lt x a ≡ false → (suc a ≤ x → ⊥) → x ≡ a
    by-order x a low most = equal-numbers x a (le-from x a low) most

    above : suc a ≤ x → ⊥
    above gt =
        let none = none-above a (x ∷ xs) (gt, from-more (suc a) x xs gt h.0) in
        omega (arith, none, some)
at-place a (x ∷ xs) (suc at) h lower some =
    let first = counted x a xs false (is-below x a (lower.before 0 (omega arith))) in
    let rest = at-place a xs at h.1 (parts-tail _ x xs at lower) (omega (arith, first, some)) in
    (omega (arith, rest.0), rest.1)

pub uncounted-remove : (a : ℕ) (xs : List ℕ) (at : ℕ) → at < length xs → get_or xs at 0 ≡ a
    → IsUncounted a xs (remove xs at)
uncounted-remove a xs at inside is = λ other.
    sym (subst (λ x. clients_of other (remove xs at) + one_if (x == other) ≡ clients_of other xs) is
    (sum_by-remove (λ x. one_if (x == other)) xs at 0 inside))

-- ---- beside the open ports

pub counts-push : (p : Peer) (before after : List ℕ) (ps : List Peer) → CountsClients before ps
    → CountsIn p before after → CountsClients after (ps ++ p ∷ [])
counts-push p before after ps all more = λ a.
    let f : Peer → ℕ = λ q. one_if (is_client_of a q) in
    let append = sum_by-append f ps (p ∷ []) in
    let last = sum_by-cons f p [] in
    let was = all a in
    let now = more a in
    omega (arith, append, last, was, now)

-- a port that is open counts
pub counted-there : (a : ℕ) (ps : List Peer) (at : ℕ) → at < length ps → is_client_of a (get_or ps at no_peer) ≡ true
    → 0 < count_by (is_client_of a) ps
counted-there a ps at inside is =
    let all = sum_by-remove (λ q. one_if (is_client_of a q)) ps at no_peer inside in
    let one : one_if (is_client_of a (get_or ps at no_peer)) ≡ 1 = ap one_if is in
    omega (arith, all, one)

pub counts-remove : (before after : List ℕ) (ps : List Peer) (at : ℕ) → CountsClients before ps → at < length ps
    → CountsOut (get_or ps at no_peer) before after → CountsClients after (remove ps at)
counts-remove before after ps at all inside less = λ a.
    let there = sum_by-remove (λ q. one_if (is_client_of a q)) ps at no_peer inside in
    let was = all a in
    let now = less a in
    omega (arith, there, was, now)

-- a client's port is one of its own address
pub own-address : (p : Peer) → is_client p.kind ≡ true → is_client_of (ipv4_bits p.address) p ≡ true
own-address p is = ap (λ b. b && (ipv4_bits p.address == ipv4_bits p.address)) is ∙ same (ipv4_bits p.address)
  where
    same : (n : ℕ) → (n == n) ≡ true
    same n = grind (arith, nat_tests)

-- ---- who is admitted

fewer-place : (most : Option ℕ) (opened : List Peer) (address : Ipv4Addr) (n : ℕ) (r : Bool)
    → n ≡ clients_at opened address → IsTrue r ↔ IsFewer most n → IsTrue r ↔ HasPlace most opened address
fewer-place None opened address n r e h = h
fewer-place (Some most) opened address n r e h = subst (λ m. IsTrue r ↔ (m < most)) e h

pub admitted : (admission : Admission) (opened : List Peer) (kind : PeerKind) (address : Ipv4Addr) (n : ℕ) (r : Bool)
    → kind ≡ Client → n ≡ clients_at opened address → IsTrue r ↔ IsFewer admission.per_address n
    → IsTrue r ↔ IsAdmitted admission opened kind address
admitted admission opened Client address n r is e h = fewer-place admission.per_address opened address n r e h
admitted admission opened Feed address n r is e h = absurd cc
