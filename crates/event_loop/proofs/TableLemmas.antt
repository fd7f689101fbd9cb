-- Seats by rising port: where one is found, and what an edit at that place does.
use Rattle.std.proofs.Common.{◌≡◌, ℕ, zero, suc, ◌+◌, ◌<◌, ◌≤◌, ◌==◌, nat_lt, Bool, true, false, if◌then◌else◌, List}
use Rattle.std.proofs.Common.{[], ◌∷◌, map, count_by, length, get_or, set, Result, Ok, Err, IfOk, IfErr, refl, sym, ap}
use Rattle.std.proofs.Common.{ap₂, subst, ◌∙◌, arith}
use Rattle.std.specs.List.{insert, remove}
use Rattle.std.specs.List.Sorted.{IsSearchInRange, IsBinarySearchResult, IsNonDecreasingBy}
use Rattle.std.specs.Ordering.{nat_cmp, ordering_index}
use Rattle.std.proofs.lemmas.Cmp.{ranked}
use Rattle.std.proofs.lemmas.List.Sorted.{IsNonDecreasingBy-from_default}
use Rattle.std.proofs.lemmas.List.Folds.{list_any_at}
use Rattle.std.proofs.lemmas.List.Sums.{sum_by-cons, sum_by-insert}
use Rattle.std.proofs.lemmas.Bool.Decides.{nat_tests}
use Rattle.protocol.proofs.FoundLemmas.{both}
use Rattle.event_loop.specs.declared.seat.Seat.{Seat}
use Rattle.event_loop.specs.Hearing.{is_client, is_seated, clients_in, feeds_in, open_client, readable_at, writable_at}
use Rattle.event_loop.specs.Tables.{no_seat, port_at, AreRising, IsSeatOf, IsGapFor, IsTable, IsSameSeat}

-- ---- rising ports, by recursion

-- All ports are above a number.
abbrev pub AreAbove : ℕ → List Seat → Type 0
AreAbove p [] = Unit {0}
AreAbove p (s ∷ ss) = (p < s.port) × AreAbove p ss

abbrev pub Rise : List Seat → Type 0
Rise [] = Unit {0}
Rise (s ∷ ss) = AreAbove s.port ss × Rise ss

above-from : (p : ℕ) (ss : List Seat) → ((j : ℕ) → j < length ss → p < port_at ss j) → AreAbove p ss
above-from p [] h = tt
above-from p (s ∷ ss) h = (h 0 (omega arith), above-from p ss (λ j lt. h (suc j) (omega (arith, lt))))

above-at : (p : ℕ) (ss : List Seat) → AreAbove p ss → (j : ℕ) → j < length ss → p < port_at ss j
above-at p [] h j lt = absurd (omega (arith, lt))
above-at p (s ∷ ss) h zero lt = h.0
above-at p (s ∷ ss) h (suc j) lt = above-at p ss h.1 j (omega (arith, lt))

pub rise-from : (ss : List Seat) → AreRising ss → Rise ss
rise-from [] h = tt
rise-from (s ∷ ss) h = (
  above-from s.port ss (λ j lt. h 0 (suc j) (omega arith) (omega (arith, lt))),
  rise-from ss (λ i j lt inside. h (suc i) (suc j) (omega (arith, lt)) (omega (arith, inside))),
)

pub rising-from : (ss : List Seat) → Rise ss → AreRising ss
rising-from [] h i j lt inside = absurd (omega (arith, inside))
rising-from (s ∷ ss) h i zero lt inside = absurd (omega (arith, lt))
rising-from (s ∷ ss) h zero (suc j) lt inside = above-at s.port ss h.0 j (omega (arith, inside))
rising-from (s ∷ ss) h (suc i) (suc j) lt inside = rising-from ss h.1 i j (omega (arith, lt)) (omega (arith, inside))

-- ---- where a port's seat is found

module _ (l : List Seat) (rising : AreRising l) (k : ℕ) where
  -- the comparisons with k rise along the list, as a binary search asks
  comparisons_rise : IsNonDecreasingBy (λ s. ordering_index (nat_cmp s.port k)) l
  comparisons_rise = IsNonDecreasingBy-from_default (λ s. ordering_index (nat_cmp s.port k)) l no_seat
      (λ i j le in_range.
      let ports_rise : port_at l i ≤ port_at l j = grind (arith, rising i j, λ (same : i ≡ j). ap (port_at l) same) in
      grind (arith, nat_tests))

  -- a binary search ends at the seat, or at the gap for it
  pub searched : (r : Result ℕ ℕ) → IsSearchInRange r (length l) → IsBinarySearchResult (λ s. nat_cmp s.port k) l r →
      record { found : IfOk r (IsSeatOf l k); absent : IfErr r (IsGapFor l k) }
  searched (Ok at) in_range equal =
      record { found = record { inside = in_range; has_port = ranked _ k _ (sym (equal no_seat)) }; absent = tt }
  searched (Err at) in_range parted = record {
    found = tt;
    absent = record {
      inside = in_range;
      lower_before = λ j lt. ranked _ k _ (sym ((parted comparisons_rise).0 j no_seat (omega arith) lt));
      higher_after = λ j le lt. ranked _ k _ (sym ((parted comparisons_rise).1 j no_seat le lt));
    };
  }

-- ---- tests of one port

not-eqb : (a b : ℕ) → (a < b) → (a == b) ≡ false
not-eqb a b lt = grind (arith, nat_tests)

not-eqb-above : (a b : ℕ) → (b < a) → (a == b) ≡ false
not-eqb-above a b lt = grind (arith, nat_tests)

is-eqb : (a b : ℕ) → a ≡ b → (a == b) ≡ true
is-eqb a b e = grind (arith, nat_tests)

-- ---- a port that has a seat

seat-tail : (s : Seat) (ss : List Seat) (port at : ℕ) → IsSeatOf (s ∷ ss) port (suc at) → IsSeatOf ss port at
seat-tail s ss port at is = record { inside = omega (arith, is.inside); has_port = is.has_port }

pub is-seated : (ss : List Seat) (port at : ℕ) → IsSeatOf ss port at → is_seated port ss ≡ true
is-seated ss port at is = list_any_at (λ s. s.port == port) ss at no_seat is.inside (is-eqb _ _ is.has_port)

-- Ports above another are not changed by a mark of it.
module _ (port : ℕ) (f : Seat → Seat) (g : Seat → Seat) where
  -- g is f at the port's own seat, and leaves the others
  abbrev Marks : Type 0
  Marks = (s : Seat) → g s ≡ (if s.port == port then f s else s)

  pub none-marked : (ss : List Seat) → Marks → AreAbove port ss → map g ss ≡ ss
  none-marked [] m h = refl
  none-marked (s ∷ ss) m h =
      ap₂ (λ x xs. x ∷ xs) (m s ∙ ap (λ b. if b then f s else s) (not-eqb-above s.port port h.0)) (none-marked ss m h.1)

  pub one-marked : (ss : List Seat) (at : ℕ) → Marks → Rise ss → IsSeatOf ss port at
      → map g ss ≡ set ss at (f (get_or ss at no_seat))
  one-marked [] at m h is = absurd (omega (arith, is.inside))
  one-marked (s ∷ ss) zero m h is =
      let same : s.port ≡ port = is.has_port in
      ap₂ (λ x xs. x ∷ xs) (m s ∙ ap (λ b. if b then f s else s) (is-eqb s.port port same))
      (none-marked ss m (subst (λ p. AreAbove p ss) same h.0))
  one-marked (s ∷ ss) (suc at) m h is =
      let tail = seat-tail s ss port at is in
      let lower : s.port < port = subst (λ p. s.port < p) tail.has_port (above-at s.port ss h.0 at tail.inside) in
      ap₂ (λ x xs. x ∷ xs) (m s ∙ ap (λ b. if b then f s else s) (not-eqb s.port port lower))
      (one-marked ss at m h.1 tail)

  pub none-marked-unseated : (ss : List Seat) → Marks → is_seated port ss ≡ false → map g ss ≡ ss
  none-marked-unseated [] m h = refl
  none-marked-unseated (s ∷ ss) m h =
      both (s.port == port)
      (λ yes. absurd (let e : true ≡ false =
      sym (list_any_at (λ x. x.port == port) (s ∷ ss) 0 no_seat (omega arith) yes) ∙ h in cc))
      (λ no. ap₂ (λ x xs. x ∷ xs) (m s ∙ ap (λ b. if b then f s else s) no) (none-marked-unseated ss m (rw no at h)))

-- ---- a port that has none

gap-tail : (s : Seat) (ss : List Seat) (port at : ℕ) → IsGapFor (s ∷ ss) port (suc at) → IsGapFor ss port at
gap-tail s ss port at gap = record {
  inside = omega (arith, gap.inside);
  lower_before = λ j lt. gap.lower_before (suc j) (omega (arith, lt));
  higher_after = λ j le lt. gap.higher_after (suc j) (omega (arith, le)) (omega (arith, lt));
}

unseated-above : (port : ℕ) (ss : List Seat) → AreAbove port ss → is_seated port ss ≡ false
unseated-above port [] h = refl
unseated-above port (s ∷ ss) h = rw (not-eqb-above s.port port h.0) (unseated-above port ss h.1)

pub is-unseated : (ss : List Seat) (port at : ℕ) → IsGapFor ss port at → is_seated port ss ≡ false
is-unseated [] port at gap = refl
is-unseated (s ∷ ss) port zero gap =
    unseated-above port (s ∷ ss) (above-from port (s ∷ ss) (λ j lt. gap.higher_after j (omega arith) lt))
is-unseated (s ∷ ss) port (suc at) gap =
    rw (not-eqb s.port port (gap.lower_before 0 (omega arith))) (is-unseated ss port at (gap-tail s ss port at gap))

lt-true : (a b : ℕ) → a < b → nat_lt a b ≡ true
lt-true a b h = grind (arith, nat_tests)

lt-false : (a b : ℕ) → b < a → nat_lt a b ≡ false
lt-false a b h = grind (arith, nat_tests)

pub inserted : (ss : List Seat) (new : Seat) (at : ℕ) → IsGapFor ss new.port at → insert ss at new ≡ open_client new ss
inserted [] new zero gap = refl
inserted [] new (suc at) gap = absurd (omega (arith, gap.inside))
inserted (s ∷ ss) new zero gap =
    sym
    (ap (λ b. if b then new ∷ s ∷ ss else s ∷ open_client new ss)
    (lt-true new.port s.port (gap.higher_after 0 (omega arith) (omega arith))))
inserted (s ∷ ss) new (suc at) gap =
    ap (λ l. s ∷ l) (inserted ss new at (gap-tail s ss new.port at gap))
    ∙ sym
    (ap (λ b. if b then new ∷ s ∷ ss else s ∷ open_client new ss)
    (lt-false new.port s.port (gap.lower_before 0 (omega arith))))

above-insert : (p : ℕ) (ss : List Seat) (new : Seat) (at : ℕ) → at ≤ length ss → AreAbove p ss → p < new.port
    → AreAbove p (insert ss at new)
above-insert p ss new zero inside h lt = (lt, h)
above-insert p [] new (suc at) inside h lt = (lt, tt)
above-insert p (s ∷ ss) new (suc at) inside h lt = (h.0, above-insert p ss new at (omega (arith, inside)) h.1 lt)

pub rise-insert : (ss : List Seat) (new : Seat) (at : ℕ) → IsGapFor ss new.port at → Rise ss → Rise (insert ss at new)
rise-insert ss new zero gap h = (above-from new.port ss (λ j lt. gap.higher_after j (omega arith) lt), h)
rise-insert [] new (suc at) gap h = (tt, tt)
rise-insert (s ∷ ss) new (suc at) gap h = (
  above-insert s.port ss new at (omega (arith, gap.inside)) h.0 (gap.lower_before 0 (omega arith)),
  rise-insert ss new at (gap-tail s ss new.port at gap) h.1,
)

-- ---- edits that leave ports and kinds

above-set : (p : ℕ) (ss : List Seat) (i : ℕ) (x : Seat) → x.port ≡ port_at ss i → AreAbove p ss
    → AreAbove p (set ss i x)
above-set p [] i x e h = tt
above-set p (s ∷ ss) zero x e h = (subst (λ q. p < q) (sym e) h.0, h.1)
above-set p (s ∷ ss) (suc i) x e h = (h.0, above-set p ss i x e h.1)

rise-set : (ss : List Seat) (i : ℕ) (x : Seat) → x.port ≡ port_at ss i → Rise ss → Rise (set ss i x)
rise-set [] i x e h = tt
rise-set (s ∷ ss) zero x e h = (subst (λ q. AreAbove q ss) (sym e) h.0, h.1)
rise-set (s ∷ ss) (suc i) x e h = (above-set s.port ss i x e h.0, rise-set ss i x e h.1)

above-remove : (p : ℕ) (ss : List Seat) (i : ℕ) → AreAbove p ss → AreAbove p (remove ss i)
above-remove p [] zero h = tt
above-remove p [] (suc i) h = tt
above-remove p (s ∷ ss) zero h = h.1
above-remove p (s ∷ ss) (suc i) h = (h.0, above-remove p ss i h.1)

rise-remove : (ss : List Seat) (i : ℕ) → Rise ss → Rise (remove ss i)
rise-remove [] zero h = tt
rise-remove [] (suc i) h = tt
rise-remove (s ∷ ss) zero h = h.1
rise-remove (s ∷ ss) (suc i) h = (above-remove s.port ss i h.0, rise-remove ss i h.1)

-- ---- how many there are

-- one where it passes
abbrev weight : (Seat → Bool) → Seat → ℕ
weight p s = if p s then 1 else 0

count-set : (p : Seat → Bool) (ss : List Seat) (i : ℕ) (x : Seat) → p x ≡ p (get_or ss i no_seat)
    → count_by p (set ss i x) ≡ count_by p ss
count-set p [] i x e = refl
count-set p (s ∷ ss) zero x e =
    sum_by-cons (weight p) x ss ∙ ap (λ (b : Bool). (if b then 1 else 0) + count_by p ss) e
    ∙ sym (sum_by-cons (weight p) s ss)
count-set p (s ∷ ss) (suc i) x e =
    sum_by-cons (weight p) s (set ss i x) ∙ ap (λ n. weight p s + n) (count-set p ss i x e)
    ∙ sym (sum_by-cons (weight p) s ss)

count-remove : (p : Seat → Bool) (ss : List Seat) (i : ℕ) → count_by p (remove ss i) ≤ count_by p ss
count-remove p [] zero = omega arith
count-remove p [] (suc i) = omega arith
count-remove p (s ∷ ss) zero = let c = sum_by-cons (weight p) s ss in omega (arith, c)
count-remove p (s ∷ ss) (suc i) =
    let h = count-remove p ss i in let c = sum_by-cons (weight p) s ss in let d = sum_by-cons (weight p) s
    (remove ss i) in omega (arith, h, c, d)

pub count-insert : (p : Seat → Bool) (ss : List Seat) (new : Seat) (i : ℕ)
    → count_by p (insert ss i new) ≡ count_by p ss + (if p new then 1 else 0)
count-insert p ss new i = sum_by-insert (weight p) ss i new

-- ---- tables

is-feed : Seat → Bool
is-feed s = if is_client s.role then false else true

pub table-set : (max_clients : ℕ) (ss : List Seat) (i : ℕ) (x : Seat) → IsSameSeat (get_or ss i no_seat) x
    → IsTable max_clients ss → IsTable max_clients (set ss i x)
table-set max_clients ss i x same table = record {
  rising = rising-from (set ss i x) (rise-set ss i x same.port (rise-from ss table.rising));
  few_clients = subst (λ n. n ≤ max_clients) (sym (count-set (λ s. is_client s.role) ss i x same.kind))
      table.few_clients;
  few_feeds =
      subst (λ n. n ≤ 16)
      (sym
      (count-set (λ s. if is_client s.role then false else true) ss i x
      (ap (λ b. if b then false else true) same.kind))) table.few_feeds;
}

pub table-remove : (max_clients : ℕ) (ss : List Seat) (i : ℕ) → IsTable max_clients ss
    → IsTable max_clients (remove ss i)
table-remove max_clients ss i table = record {
  rising = rising-from (remove ss i) (rise-remove ss i (rise-from ss table.rising));
  few_clients = let h = count-remove (λ s. is_client s.role) ss i in omega (arith, h, table.few_clients);
  few_feeds = let h = count-remove (λ s. if is_client s.role then false else true) ss i in omega (
    arith,
    h,
    table.few_feeds,
  );
}

-- a new client's port, where fewer are open
pub table-client : (max_clients : ℕ) (ss : List Seat) (new : Seat) (at : ℕ) → is_client new.role ≡ true
    → IsGapFor ss new.port at →
    clients_in ss < max_clients → IsTable max_clients ss → IsTable max_clients (insert ss at new)
table-client max_clients ss new at kind gap few table = record {
  rising = rising-from (insert ss at new) (rise-insert ss new at gap (rise-from ss table.rising));
  few_clients = let h = count-insert (λ s. is_client s.role) ss new at in let e : ◌≡◌ {A = ℕ}
      (if is_client new.role then 1 else 0) 1 = ap (λ (b : Bool). if b then 1 else 0) kind in omega (arith, h, e, few);
  few_feeds = let h = count-insert (λ s. if is_client s.role then false else true) ss new at in let e : ◌≡◌ {A = ℕ}
      (if (if is_client new.role then false else true) then 1 else 0) 0 =
      ap (λ (b : Bool). if (if b then false else true) then 1 else 0) kind in omega (arith, h, e, table.few_feeds);
}

pub table-feed : (max_clients : ℕ) (ss : List Seat) (new : Seat) (at : ℕ) → is_client new.role ≡ false
    → IsGapFor ss new.port at →
    feeds_in ss < 16 → IsTable max_clients ss → IsTable max_clients (insert ss at new)
table-feed max_clients ss new at kind gap few table = record {
  rising = rising-from (insert ss at new) (rise-insert ss new at gap (rise-from ss table.rising));
  few_clients = let h = count-insert (λ s. is_client s.role) ss new at in let e : ◌≡◌ {A = ℕ}
      (if is_client new.role then 1 else 0) 0 =
      ap (λ (b : Bool). if b then 1 else 0) kind in omega (arith, h, e, table.few_clients);
  few_feeds = let h = count-insert (λ s. if is_client s.role then false else true) ss new at in let e : ◌≡◌ {A = ℕ}
      (if (if is_client new.role then false else true) then 1 else 0) 1 =
      ap (λ (b : Bool). if (if b then false else true) then 1 else 0) kind in omega (arith, h, e, few);
}

-- ---- how many feeds there are

-- a seat's count by whose it is
as-client : (s : Seat) (b : Bool) → is_client s.role ≡ b → ◌≡◌ {A = ℕ} (if is_client s.role then 1 else 0)
    (if b then 1 else 0)
as-client s b e = ap (λ (x : Bool). if x then 1 else 0) e

as-feed : (s : Seat) (b : Bool) → is_client s.role ≡ b
    → ◌≡◌ {A = ℕ} (if (if is_client s.role then false else true) then 1 else 0) (if b then 0 else 1)
as-feed s b e = ap (λ (x : Bool). if (if x then false else true) then 1 else 0) e ∙ by b
  where
    by : (x : Bool) → ◌≡◌ {A = ℕ} (if (if x then false else true) then 1 else 0) (if x then 0 else 1)
    by true = refl
    by false = refl

-- Each port is a client's or a feed's.
pub kinds-in : (ss : List Seat) → clients_in ss + feeds_in ss ≡ length ss
kinds-in [] = refl
kinds-in (s ∷ ss) =
    let h = kinds-in ss in
    let c = sum_by-cons (weight (λ x. is_client x.role)) s ss in
    let d = sum_by-cons (weight (λ x. if is_client x.role then false else true)) s ss in
    both (is_client s.role)
    (λ y. let e = as-client s true y in let f = as-feed s true y in omega (arith, h, c, d, e, f))
    (λ n. let e = as-client s false n in let f = as-feed s false n in omega (arith, h, c, d, e, f))

count-removed : (p : Seat → Bool) (ss : List Seat) (i : ℕ) → i < length ss
    → count_by p (remove ss i) + (if p (get_or ss i no_seat) then 1 else 0) ≡ count_by p ss
count-removed p [] i inside = absurd (omega (arith, inside))
count-removed p (s ∷ ss) zero inside = let c = sum_by-cons (weight p) s ss in omega (arith, c)
count-removed p (s ∷ ss) (suc i) inside =
    let h = count-removed p ss i (omega (arith, inside)) in let c = sum_by-cons (weight p) s ss in let d = sum_by-cons
    (weight p) s (remove ss i) in omega (arith, h, c, d)

-- one port gone: a client's or a feed's
pub client-gone : (ss : List Seat) (i : ℕ) → i < length ss → (x : Seat) → x ≡ get_or ss i no_seat
    → is_client x.role ≡ true → feeds_in (remove ss i) ≡ feeds_in ss
client-gone ss i inside x is kind =
    let h = count-removed (λ s. if is_client s.role then false else true) ss i inside in
    let e = as-feed (get_or ss i no_seat) true (ap (λ (s : Seat). is_client s.role) (sym is) ∙ kind) in
    omega (arith, h, e)

pub feed-gone : (ss : List Seat) (i : ℕ) → i < length ss → (x : Seat) → x ≡ get_or ss i no_seat
    → is_client x.role ≡ false → feeds_in (remove ss i) + 1 ≡ feeds_in ss
feed-gone ss i inside x is kind =
    let h = count-removed (λ s. if is_client s.role then false else true) ss i inside in
    let e = as-feed (get_or ss i no_seat) false (ap (λ (s : Seat). is_client s.role) (sym is) ∙ kind) in
    omega (arith, h, e)

-- one more
pub client-more : (ss : List Seat) (new : Seat) (at : ℕ) → is_client new.role ≡ true
    → feeds_in (insert ss at new) ≡ feeds_in ss
client-more ss new at kind =
    let h = count-insert (λ s. if is_client s.role then false else true) ss new at in
    let e = as-feed new true kind in omega (arith, h, e)

pub feed-more : (ss : List Seat) (new : Seat) (at : ℕ) → is_client new.role ≡ false
    → feeds_in (insert ss at new) ≡ feeds_in ss + 1
feed-more ss new at kind =
    let h = count-insert (λ s. if is_client s.role then false else true) ss new at in
    let e = as-feed new false kind in omega (arith, h, e)

-- a seat that stays whose it is
pub feeds-set : (ss : List Seat) (i : ℕ) (x : Seat) → IsSameSeat (get_or ss i no_seat) x
    → feeds_in (set ss i x) ≡ feeds_in ss
feeds-set ss i x same =
    count-set (λ s. if is_client s.role then false else true) ss i x (ap (λ b. if b then false else true) same.kind)

-- ---- marks

mark-same : (s : Seat) (port : ℕ) (f : Seat → Seat) → (f s).port ≡ s.port → (f s).role ≡ s.role →
    IsSameSeat s (if s.port == port then f s else s)
mark-same s port f e r = both (s.port == port) (λ yes. rw yes (record { port = e; kind = ap is_client r }))
    (λ no. rw no (record { port = refl; kind = refl }))

module _ (g : Seat → Seat) (same : (s : Seat) → IsSameSeat s (g s)) where
  above-map : (p : ℕ) (ss : List Seat) → AreAbove p ss → AreAbove p (map g ss)
  above-map p [] h = tt
  above-map p (s ∷ ss) h = (subst (λ q. p < q) (sym (same s).port) h.0, above-map p ss h.1)

  rise-map : (ss : List Seat) → Rise ss → Rise (map g ss)
  rise-map [] h = tt
  rise-map (s ∷ ss) h = (
    subst (λ q. AreAbove q (map g ss)) (sym (same s).port) (above-map s.port ss h.0),
    rise-map ss h.1,
  )

  count-map : (p : Bool → Bool) (ss : List Seat)
      → count_by (λ s. p (is_client s.role)) (map g ss) ≡ count_by (λ s. p (is_client s.role)) ss
  count-map p [] = refl
  count-map p (s ∷ ss) =
      sum_by-cons (weight (λ x. p (is_client x.role))) (g s) (map g ss)
      ∙ ap₂ (λ (b : Bool) (n : ℕ). (if p b then 1 else 0) + n) (same s).kind (count-map p ss)
      ∙ sym (sum_by-cons (weight (λ x. p (is_client x.role))) s ss)

  pub feeds-map : (ss : List Seat) → feeds_in (map g ss) ≡ feeds_in ss
  feeds-map ss = count-map (λ b. if b then false else true) ss

  pub table-map : (max_clients : ℕ) (ss : List Seat) → IsTable max_clients ss → IsTable max_clients (map g ss)
  table-map max_clients ss table = record {
    rising = rising-from (map g ss) (rise-map ss (rise-from ss table.rising));
    few_clients = subst (λ n. n ≤ max_clients) (sym (count-map (λ b. b) ss)) table.few_clients;
    few_feeds = subst (λ n. n ≤ 16) (sym (count-map (λ b. if b then false else true) ss)) table.few_feeds;
  }

pub readable-same : (port : ℕ) (s : Seat) → IsSameSeat s (readable_at port s)
readable-same port s = mark-same s port (λ x. record x { readable = true }) refl refl

pub writable-same : (port : ℕ) (s : Seat) → IsSameSeat s (writable_at port s)
writable-same port s = mark-same s port (λ x. record x { writable = true }) refl refl
