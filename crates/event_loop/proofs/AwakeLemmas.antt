-- Which seats sleep, while calls are made and seats come, go on and leave.
use Rattle.std.proofs.Common.{◌≡◌, ℕ, zero, suc, ◌+◌, ◌-◌, ◌<◌, ◌≤◌, ◌==◌, nat_lt, if◌then◌else◌, Bool, true, false}
use Rattle.std.proofs.Common.{List, [], ◌∷◌, length, get_or}
use Rattle.std.proofs.Common.{set, take, drop, map, Option, None, Some, refl, sym, ap, subst, ◌∙◌, arith}
use Rattle.std.specs.Prelude.{◌≢◌, slice_index, is_some}
use Rattle.std.specs.List.{insert, remove}
use Rattle.std.proofs.lemmas.Bool.Decides.{nat_tests}
use Rattle.std.proofs.lemmas.List.{get_or-set_other, get_or-set_same, length-set, set-get_or}
use Rattle.std.proofs.lemmas.List.Edits.{get_or-insert_above, get_or-insert_at, get_or-insert_below, length-insert}
use Rattle.std.proofs.lemmas.List.Edits.{get_or-remove_above, get_or-remove_below, length-remove}
use Rattle.protocol.specs.Catalog.{Config}
use Rattle.protocol.specs.World.{World}
use Rattle.protocol.proofs.FoundLemmas.{both}
use Rattle.server_core.specs.Marks.{OpensNext}
use Rattle.server_core.specs.ServerValues.{ServerValue, mark_at}
use Rattle.event_loop.specs.declared.seat.Role.{Role}
use Rattle.event_loop.specs.declared.seat.Role.TheVariants.{Client as ClientRole, Feed as FeedRole}
use Rattle.event_loop.specs.declared.seat.Seat.{Seat}
use Rattle.ports.specs.Calls.{Call}
use Rattle.event_loop.specs.Deeds.{Tally}
use Rattle.event_loop.specs.Hearing.{readable_at, writable_at}
use Rattle.event_loop.specs.Sleeping.{AreKnown, AreSeated, AreWoken, IsAsleep, IsWoken, LeavesRest, OnlyWakes, role_at}
use Rattle.event_loop.specs.Sleeping.{seat_at}
use Rattle.event_loop.specs.Tables.{PassesSoFar, no_seat}
use Rattle.event_loop.proofs.PassesLemmas.{passes-stay}
use Rattle.event_loop.proofs.SleepLemmas.{SparesUnmarked, asleep-pass}

pub some-number : (a b : ℕ) → ClientRole a ≡ ClientRole b → a ≡ b
some-number a b e = cc

-- ---- calls on one client

-- Another seat sleeps on.
pub sleeps-on : (a b : ServerValue) (s : Seat)
    → ((k : ℕ) → s.role ≡ ClientRole k → mark_at b k ≡ mark_at a k) → IsAsleep a s → IsAsleep b s
sleeps-on a b s keeps asleep = record {
  unreadable = asleep.unreadable;
  unmarked = λ k role writable. keeps k role ∙ asleep.unmarked k role writable;
}

module _ (a b : ServerValue) (ss : List Seat) (at : ℕ) (s' : Seat) (brought : Bool) (inside : at < length ss)
    (seated : AreSeated a ss) (leaves : LeavesRest (seat_at ss at) (brought ≡ false) a b)
    (whose : (k : ℕ) → s'.role ≡ ClientRole k → role_at ss at ≡ ClientRole k) where
  pub seated-set : AreSeated b (set ss at s')
  seated-set = record {
    apart = λ i j k li lj ri rj. seated.apart i j k (subst (λ n. i < n) (length-set ss at s') li)
        (subst (λ n. j < n) (length-set ss at s') lj) (before i k li ri) (before j k lj rj);
    opened = λ i k li ri.
        let old = seated.opened i k (subst (λ n. i < n) (length-set ss at s') li) (before i k li ri) in
        let c = leaves.count in omega (arith, old, c);
  }
    where
      before : (i k : ℕ) → i < length (set ss at s') → role_at (set ss at s') i ≡ ClientRole k
          → role_at ss i ≡ ClientRole k
      before i k li ri =
          both (i == at)
          (λ yes. let e : i ≡ at = grind (arith, nat_tests) in
          ap (role_at ss) e
          ∙ whose k (sym (ap (λ (s : Seat). s.role) (get_or-set_same ss at s' no_seat inside))
          ∙ ap (role_at (set ss at s')) (sym e) ∙ ri))
          (λ no. let apart : i ≢ at = grind (arith, nat_tests) in
          sym (ap (λ (s : Seat). s.role) (get_or-set_other ss at i s' no_seat apart)) ∙ ri)

module _ (a b : ServerValue) (ss : List Seat) (awake awake' : List ℕ) (at : ℕ) (s' : Seat) (brought : Bool)
    (inside : at < length ss) (known : AreKnown a ss awake) (seated : AreSeated a ss)
    (leaves : LeavesRest (seat_at ss at) (brought ≡ false) a b)
    (whose : (k : ℕ) → s'.role ≡ ClientRole k → role_at ss at ≡ ClientRole k)
    (wakes : OnlyWakes awake awake') (woken : brought ≡ true → AreWoken b (set ss at s') awake') where
  -- the others, after a pass over the seat at a place
  others-asleep : (i : ℕ) → i < length ss → i ≢ at → slice_index awake' i ≢ 1 → IsAsleep b (seat_at (set ss at s') i)
  others-asleep i within apart zero-byte =
      subst (IsAsleep b) (sym (get_or-set_other ss at i s' no_seat apart))
      (both brought
      (λ yes. record {
        unreadable = slept.unreadable;
        unmarked = λ k role writable. by k role (slept.unmarked k role writable) yes (mark_at b k) refl;
      })
      (λ no. sleeps-on a b (seat_at ss i) (λ k role. leaves.marks no k (other k role)) slept))
    where
      slept : IsAsleep a (seat_at ss i)
      slept = known.asleep i within (wakes.bytes i zero-byte)

      other : (k : ℕ) → role_at ss i ≡ ClientRole k → role_at ss at ≢ ClientRole k
      other k role mine = apart (seated.apart i at k within inside role mine)

      -- A client that was not marked before is not marked now, since its seat would not sleep.
      by : (k : ℕ) → role_at ss i ≡ ClientRole k → mark_at a k ≡ Some false → brought ≡ true → (o : Option Bool)
          → mark_at b k ≡ o → mark_at b k ≡ Some false
      by k role unmarked came None e =
          absurd (let q : false ≡ true = sym (ap is_some e) ∙ leaves.kept k (other k role) ∙ ap is_some unmarked in cc)
      by k role unmarked came (Some false) e = e
      by k role unmarked came (Some true) e =
          absurd
          (zero-byte
          (woken came k e i (subst (λ n. i < n) (sym (length-set ss at s')) within)
          (ap (λ (s : Seat). s.role) (get_or-set_other ss at i s' no_seat apart) ∙ role)))

  -- The seat stays, and its byte is settled.
  pub known-stays : (last : List ℕ) → length last ≡ length awake'
      → (slice_index last at ≢ 1 → IsAsleep b (seat_at (set ss at s') at))
      → ((i : ℕ) → i ≢ at → slice_index last i ≡ slice_index awake' i) → AreKnown b (set ss at s') last
  known-stays last counted here elsewhere = record {
    count = counted ∙ wakes.count ∙ known.count ∙ sym (length-set ss at s');
    asleep = λ i within byte.
        both (i == at)
        (λ yes. let e : i ≡ at = grind (arith, nat_tests) in
        subst (λ n. IsAsleep b (seat_at (set ss at s') n)) (sym e)
        (here (subst (λ n. slice_index last n ≢ 1) e byte)))
        (λ no. let apart : i ≢ at = grind (arith, nat_tests) in
        others-asleep i (subst (λ n. i < n) (length-set ss at s') within) apart
        (λ one. byte (elsewhere i apart ∙ one)));
  }

  -- The seat is gone, with its byte.
  pub known-gone : AreKnown b (remove (set ss at s') at) (remove awake' at)
  known-gone =
      let full = length-set ss at s' in
      let n = known.count in
      let count = wakes.count in
      let seats-left = length-remove (set ss at s') at (omega (arith, full, inside)) in
      let bytes-left = length-remove awake' at (omega (arith, n, count, inside)) in
      record {
        count = omega (arith, full, n, count, seats-left, bytes-left);
        asleep = λ i within byte.
            both (nat_lt i at)
            (λ below. let lt : i < at = grind (arith, nat_tests) in
            subst (IsAsleep b) (sym (get_or-remove_below (set ss at s') at no_seat i lt (omega (arith, full, inside))))
            (others-asleep i (omega (arith, lt, inside)) (λ e. omega (arith, e, lt))
            (λ one. byte (get_or-remove_below awake' at 0 i lt (omega (arith, n, count, inside)) ∙ one))))
            (λ above. let le : at ≤ i = grind (arith, nat_tests) in
            subst (IsAsleep b) (sym (get_or-remove_above (set ss at s') at no_seat i le (omega (arith, full, inside))))
            (others-asleep (i + 1) (omega (arith, full, seats-left, within)) (λ e. omega (arith, e, le))
            (λ one. byte (get_or-remove_above awake' at 0 i le (omega (arith, n, count, inside)) ∙ one))));
      }

pub inside-set : (ss : List Seat) (at : ℕ) (s : Seat) → at < length ss → at < length (set ss at s)
inside-set ss at s inside = let full = length-set ss at s in omega (arith, full, inside)

-- the seats but one
pub seated-remove : (a : ServerValue) (ss : List Seat) (at : ℕ) → at < length ss → AreSeated a ss
    → AreSeated a (remove ss at)
seated-remove a ss at inside seated =
    record {
      apart = λ i j k li lj ri rj.
          let p = was i k li ri in let q = was j k lj rj in
          let same = seated.apart p.0 q.0 k p.1 q.1 p.2 q.2 in
          both (nat_lt i at)
          (λ x. both (nat_lt j at)
          (λ y. p.3 (grind (arith, nat_tests)) ∙ same ∙ sym (q.3 (grind (arith, nat_tests))))
          (λ y. absurd (let u = p.3 (grind (arith, nat_tests)) in let v = q.4 (grind (arith, nat_tests)) in
          let lt : i < at = grind (arith, nat_tests) in let le : at ≤ j = grind (arith, nat_tests) in
          omega (arith, u, v, same, lt, le))))
          (λ x. both (nat_lt j at)
          (λ y. absurd (let u = p.4 (grind (arith, nat_tests)) in let v = q.3 (grind (arith, nat_tests)) in
          let le : at ≤ i = grind (arith, nat_tests) in let lt : j < at = grind (arith, nat_tests) in
          omega (arith, u, v, same, lt, le)))
          (λ y. let u = p.4 (grind (arith, nat_tests)) in let v = q.4 (grind (arith, nat_tests)) in
          omega (arith, u, v, same)));
      opened = λ i k li ri. let p = was i k li ri in seated.opened p.0 k p.1 p.2;
    }
  where
    -- where it was
    was : (i k : ℕ) → i < length (remove ss at) → role_at (remove ss at) i ≡ ClientRole k
        → (p : ℕ) × (p < length ss) × (role_at ss p ≡ ClientRole k) × (i < at → i ≡ p) × (at ≤ i → i + 1 ≡ p)
    was i k li ri =
        let left = length-remove ss at inside in
        both (nat_lt i at)
        (λ below. let lt : i < at = grind (arith, nat_tests) in (
          i,
          omega (arith, lt, inside),
          sym (ap (λ (s : Seat). s.role) (get_or-remove_below ss at no_seat i lt inside)) ∙ ri,
          λ x. refl,
          λ x. absurd (omega (arith, lt, x)),
        ))
        (λ above. let le : at ≤ i = grind (arith, nat_tests) in (
          i + 1,
          omega (arith, left, li),
          sym (ap (λ (s : Seat). s.role) (get_or-remove_above ss at no_seat i le inside)) ∙ ri,
          λ x. absurd (omega (arith, le, x)),
          λ x. refl,
        ))

-- ---- seats that sleep are passed over

pub passes-skip : (limit : ℕ) (config : Config) (w : World) (calls calls' : Option (List Call)) (server : ServerValue)
    (t t' : Tally) (ss seats : List Seat) (awake : List ℕ) → SparesUnmarked server → AreKnown server seats awake
    → (n from : ℕ) → from + n ≤ length seats
    → ((i : ℕ) → from ≤ i → i < from + n → slice_index awake i ≢ 1)
    → PassesSoFar limit config w calls calls' server t t' ss (take from seats) (drop from seats)
    → PassesSoFar limit config w calls calls' server t t' ss (take (from + n) seats) (drop (from + n) seats)
passes-skip limit config w calls calls' server t t' ss seats awake spares known zero from fits asleep so_far =
    let e : from ≡ from + 0 = omega arith in
    subst (λ m. PassesSoFar limit config w calls calls' server t t' ss (take m seats) (drop m seats)) e so_far
passes-skip limit config w calls calls' server t t' ss seats awake spares known (suc n) from fits asleep so_far =
    let inside : from < length seats = omega (arith, fits) in
    let s : Seat = seat_at seats from in
    let sleeping = known.asleep from inside (asleep from (omega arith) (omega arith)) in
    let past : PassesSoFar limit config w calls calls' server t t' ss (take (from + 1) (set seats from s))
    (drop (from + 1) (set seats from s)) =
    passes-stay limit config w calls calls' calls' server server t t' t' ss seats from s s inside refl so_far
    (λ v there. asleep-pass config limit v calls' server t' s spares sleeping there) in
    let one : PassesSoFar limit config w calls calls' server t t' ss (take (from + 1) seats) (drop (from + 1) seats) =
    subst (λ xs. PassesSoFar limit config w calls calls' server t t' ss (take (from + 1) xs) (drop (from + 1) xs))
    (set-get_or seats from no_seat) past in
    let e : from + 1 + n ≡ from + suc n = omega arith in
    subst (λ m. PassesSoFar limit config w calls calls' server t t' ss (take m seats) (drop m seats)) e
    (passes-skip limit config w calls calls' server t t' ss seats awake spares known n (from + 1)
    (omega (arith, fits)) (λ i le lt. asleep i (omega (arith, le)) (omega (arith, lt))) one)

pub passes-skip-to : (limit : ℕ) (config : Config) (w : World) (calls calls' : Option (List Call))
    (server : ServerValue) (t t' : Tally) (ss seats : List Seat) (awake : List ℕ) → SparesUnmarked server
    → AreKnown server seats awake → (from to : ℕ) → from ≤ to → to ≤ length seats
    → ((i : ℕ) → from ≤ i → i < to → slice_index awake i ≢ 1)
    → PassesSoFar limit config w calls calls' server t t' ss (take from seats) (drop from seats)
    → PassesSoFar limit config w calls calls' server t t' ss (take to seats) (drop to seats)
passes-skip-to limit config w calls calls' server t t' ss seats awake spares known from to le fits asleep so_far =
    let e : from + (to - from) ≡ to = omega (arith, le) in
    subst (λ m. PassesSoFar limit config w calls calls' server t t' ss (take m seats) (drop m seats)) e
    (passes-skip limit config w calls calls' server t t' ss seats awake spares known (to - from) from
    (omega (arith, e, fits)) (λ i lo hi. asleep i lo (omega (arith, e, hi))) so_far)

-- ---- seats that are told something

pub known-told : (a : ServerValue) (ss ss' : List Seat) (awake awake' : List ℕ) → length ss' ≡ length ss
    → length awake' ≡ length awake
    → ((i : ℕ) → slice_index awake' i ≢ 1 → (slice_index awake i ≢ 1) × (seat_at ss' i ≡ seat_at ss i))
    → AreKnown a ss awake → AreKnown a ss' awake'
known-told a ss ss' awake awake' seats bytes others known = record {
  count = bytes ∙ known.count ∙ sym seats;
  asleep = λ i within byte. let was = others i byte in
      subst (IsAsleep a) (sym was.1) (known.asleep i (subst (λ n. i < n) seats within) was.0);
}

pub length-told : (g : Seat → Seat) (ss : List Seat) → length (map g ss) ≡ length ss
length-told g [] = refl
length-told g (s ∷ ss) = ap suc (length-told g ss)

role-told : (g : Seat → Seat) → ((s : Seat) → (let t : Seat = g s in t.role) ≡ s.role) → (ss : List Seat) (i : ℕ)
    → i < length ss → role_at (map g ss) i ≡ role_at ss i
role-told g same [] i lt = absurd (omega (arith, lt))
role-told g same (s ∷ ss) zero lt = same s
role-told g same (s ∷ ss) (suc i) lt = role-told g same ss i (omega (arith, lt))

pub seated-told : (a : ServerValue) (g : Seat → Seat) (ss : List Seat)
    → ((s : Seat) → (let t : Seat = g s in t.role) ≡ s.role) → AreSeated a ss → AreSeated a (map g ss)
seated-told a g ss same seated =
    let n = length-told g ss in
    record {
      apart = λ i j k li lj ri rj.
          let li' : i < length ss = omega (arith, n, li) in let lj' : j < length ss = omega (arith, n, lj) in
          seated.apart i j k li' lj' (sym (role-told g same ss i li') ∙ ri) (sym (role-told g same ss j lj') ∙ rj);
      opened = λ i k li ri. let li' : i < length ss = omega (arith, n, li) in
          seated.opened i k li' (sym (role-told g same ss i li') ∙ ri);
    }

role-same : (s : Seat) (port : ℕ) (f : Seat → Seat) → (f s).role ≡ s.role
    → (let t : Seat = if s.port == port then f s else s in t.role) ≡ s.role
role-same s port f r = both (s.port == port) (λ yes. rw yes r) (λ no. rw no refl)

pub role-readable : (port : ℕ) (s : Seat) → (let t : Seat = readable_at port s in t.role) ≡ s.role
role-readable port s = role-same s port (λ x. record x { readable = true }) refl

pub role-writable : (port : ℕ) (s : Seat) → (let t : Seat = writable_at port s in t.role) ≡ s.role
role-writable port s = role-same s port (λ x. record x { writable = true }) refl

-- ---- a seat more

module _ (a b : ServerValue) (ss : List Seat) (awake : List ℕ) (at : ℕ) (new : Seat) (inside : at ≤ length ss)
    (seated : AreSeated a ss) where
  -- where a seat of the seats with the new one was
  was-before : (i : ℕ) → i < length ss + 1 → i ≢ at
      → (p : ℕ) × (p < length ss) × (seat_at (insert ss at new) i ≡ seat_at ss p) × (i < at → i ≡ p)
      × (at < i → i ≡ p + 1) × ((bytes : List ℕ) → length bytes ≡ length ss
      → slice_index (insert bytes at 1) i ≡ slice_index bytes p)
  was-before i within apart =
      both (nat_lt i at)
      (λ below. let lt : i < at = grind (arith, nat_tests) in (
        i,
        omega (arith, lt, inside),
        get_or-insert_below ss at new no_seat i lt inside,
        λ x. refl,
        λ x. absurd (omega (arith, lt, x)),
        λ bytes e. get_or-insert_below bytes at 1 0 i lt (omega (arith, e, inside)),
      ))
      (λ above. let le : at ≤ i = grind (arith, nat_tests) in
      let gt : at < i = grind (arith, apart) in
      let back : i ≡ i - 1 + 1 = omega (arith, gt) in (
        i - 1,
        omega (arith, gt, within),
        ap (seat_at (insert ss at new)) back
            ∙ get_or-insert_above ss at new no_seat (i - 1) (omega (arith, gt)) inside,
        λ x. absurd (omega (arith, le, x)),
        λ x. back,
        λ bytes e. ap (slice_index (insert bytes at 1)) back
            ∙ get_or-insert_above bytes at 1 0 (i - 1) (omega (arith, gt)) (omega (arith, e, inside)),
      ))

  pub known-more : AreKnown a ss awake → ((k : ℕ) → k < length a.sessions → mark_at b k ≡ mark_at a k)
      → AreKnown b (insert ss at new) (insert awake at 1)
  known-more known keeps =
      let n = length-insert ss at new inside in
      let c = known.count in
      let m = length-insert awake at 1 (omega (arith, c, inside)) in
      record {
        count = omega (arith, n, c, m);
        asleep = λ i within byte.
            both (i == at)
            (λ yes. let e : i ≡ at = grind (arith, nat_tests) in
            absurd (byte (ap (slice_index (insert awake at 1)) e
            ∙ get_or-insert_at awake at 1 0 (omega (arith, c, inside)))))
            (λ no. let apart : i ≢ at = grind (arith, nat_tests) in
            let p = was-before i (omega (arith, n, within)) apart in
            subst (IsAsleep b) (sym p.2)
            (sleeps-on a b (seat_at ss p.0) (λ k role. keeps k (seated.opened p.0 k p.1 role))
            (known.asleep p.0 p.1 (λ one. byte (p.5 awake known.count ∙ one)))));
      }

  pub seated-more : length a.sessions ≤ length b.sessions
      → ((k : ℕ) → new.role ≡ ClientRole k → (length a.sessions ≤ k) × (k < length b.sessions))
      → AreSeated b (insert ss at new)
  seated-more more fresh =
      let n = length-insert ss at new inside in
      record {
        apart = λ i j k li lj ri rj.
            both (i == at)
            (λ x. let ei : i ≡ at = grind (arith, nat_tests) in
            both (j == at) (λ y. let ej : j ≡ at = grind (arith, nat_tests) in ei ∙ sym ej)
            (λ y. let aj : j ≢ at = grind (arith, nat_tests) in
            absurd (mixed i j k ei aj (omega (arith, n, lj)) ri rj)))
            (λ x. let ai : i ≢ at = grind (arith, nat_tests) in
            both (j == at)
            (λ y. let ej : j ≡ at = grind (arith, nat_tests) in
            absurd (mixed j i k ej ai (omega (arith, n, li)) rj ri))
            (λ y. let aj : j ≢ at = grind (arith, nat_tests) in
            let p = was-before i (omega (arith, n, li)) ai in
            let q = was-before j (omega (arith, n, lj)) aj in
            let same = seated.apart p.0 q.0 k p.1 q.1 (sym (ap (λ (s : Seat). s.role) p.2) ∙ ri)
            (sym (ap (λ (s : Seat). s.role) q.2) ∙ rj) in
            grind (arith, same, p.3, p.4, q.3, q.4, ai, aj)));
        opened = λ i k li ri.
            both (i == at)
            (λ x. let e : i ≡ at = grind (arith, nat_tests) in (fresh k (role-new i k e ri)).1)
            (λ x. let ai : i ≢ at = grind (arith, nat_tests) in
            let p = was-before i (omega (arith, n, li)) ai in
            let old = seated.opened p.0 k p.1 (sym (ap (λ (s : Seat). s.role) p.2) ∙ ri) in
            omega (arith, old, more));
      }
    where
      role-new : (i k : ℕ) → i ≡ at → role_at (insert ss at new) i ≡ ClientRole k → new.role ≡ ClientRole k
      role-new i k e ri =
          sym (ap (λ (s : Seat). s.role) (get_or-insert_at ss at new no_seat inside))
          ∙ ap (role_at (insert ss at new)) (sym e) ∙ ri

      mixed : (i j k : ℕ) → i ≡ at → j ≢ at → j < length ss + 1 → role_at (insert ss at new) i ≡ ClientRole k
          → role_at (insert ss at new) j ≡ ClientRole k → ⊥
      mixed i j k e aj lj ri rj =
          let p = was-before j lj aj in
          let old = seated.opened p.0 k p.1 (sym (ap (λ (s : Seat). s.role) p.2) ∙ rj) in
          let new-one = (fresh k (role-new i k e ri)).0 in
          omega (arith, old, new-one)

-- ---- all are woken

pub known-woken : (a : ServerValue) (ss : List Seat) (awake : List ℕ) → length awake ≡ length ss
    → ((i : ℕ) → i < length awake → slice_index awake i ≡ 1) → AreKnown a ss awake
known-woken a ss awake count woken = record {
  count = count;
  asleep = λ i within byte. absurd (byte (woken i (omega (arith, count, within))));
}

pub seated-counted : (a b : ServerValue) (ss : List Seat) → length b.sessions ≡ length a.sessions → AreSeated a ss
    → AreSeated b ss
seated-counted a b ss count seated = record {
  apart = seated.apart;
  opened = λ i k li ri. let old = seated.opened i k li ri in omega (arith, old, count);
}

-- ---- those that are marked are woken

pub only-wakes-none : (awake : List ℕ) → OnlyWakes awake awake
only-wakes-none awake = record { count = refl; bytes = λ i byte. byte }

pub only-wakes-then : (a b c : List ℕ) → OnlyWakes a b → OnlyWakes b c → OnlyWakes a c
only-wakes-then a b c p q = record { count = q.count ∙ p.count; bytes = λ i byte. p.bytes i (q.bytes i byte) }

pub only-wakes-one : (a b : List ℕ) (at : ℕ) → length b ≡ length a → slice_index b at ≡ 1
    → ((i : ℕ) → i ≢ at → slice_index b i ≡ slice_index a i) → OnlyWakes a b
only-wakes-one a b at count here others = record {
  count = count;
  bytes = λ i byte one.
      both (i == at)
      (λ yes. let e : i ≡ at = grind (arith, nat_tests) in byte (ap (slice_index b) e ∙ here))
      (λ no. let apart : i ≢ at = grind (arith, nat_tests) in byte (others i apart ∙ one));
}

pub only-wakes-all : (a b : List ℕ) → length b ≡ length a → ((i : ℕ) → i < length b → slice_index b i ≡ 1)
    → OnlyWakes a b
only-wakes-all a b count woken = record {
  count = count;
  bytes = λ i byte one.
      both (nat_lt i (length b))
      (λ yes. let lt : i < length b = grind (arith, nat_tests) in byte (woken i lt))
      (λ no. let le : length b ≤ i = grind (arith, nat_tests) in
      let none = beyond a i (omega (arith, count, le)) in omega (arith, none, one));
}
  where
    beyond : (xs : List ℕ) (i : ℕ) → length xs ≤ i → slice_index xs i ≡ 0
    beyond [] i le = refl
    beyond (x ∷ xs) zero le = absurd (omega (arith, le))
    beyond (x ∷ xs) (suc i) le = beyond xs i (omega (arith, le))

-- The seat at a place is the client's, and so no other is.
pub woken-at : (a : ServerValue) (ss : List Seat) (awake : List ℕ) (at k : ℕ) → AreSeated a ss → at < length ss
    → role_at ss at ≡ ClientRole k → slice_index awake at ≡ 1 → IsWoken ss awake k
woken-at a ss awake at k seated inside role byte i within mine =
    ap (slice_index awake) (seated.apart i at k within inside mine role) ∙ byte

pub woken-on : (ss : List Seat) (a b : List ℕ) (k : ℕ) → OnlyWakes a b → IsWoken ss a k → IsWoken ss b k
woken-on ss a b k wakes woken i within role =
    both (slice_index b i == 1) (λ yes. grind (arith, nat_tests))
    (λ no. absurd (wakes.bytes i (grind (arith, nat_tests)) (woken i within role)))
