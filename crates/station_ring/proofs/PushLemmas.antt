-- What a ring holds after pushes.
use Rattle.std.proofs.Common.{◌≡◌, ℕ, ◌+◌, ◌-◌, ◌<◌, ◌≤◌, List, [], ◌∷◌, ◌++◌, length, drop, All, arith, sym, ◌∙◌, ap}
use Rattle.std.proofs.Common.{append_assoc, length-append, length-drop}
use Rattle.std.proofs.lemmas.List.{append-nil, drop-append-le, drop-drop, drop_all, get_or-drop}
use Rattle.std.proofs.lemmas.List.Quantifiers.{all_pairs_push}
use Rattle.std.proofs.lemmas.List.Elements.{All-drop, All-push}
use Rattle.station_ring.specs.declared.held.Held.{Held}
use Rattle.station_ring.specs.Rings.{RingValue, IsRing, AreRising, empty, last_of, pushed, pushed_all, holding_of}

-- What is let go by one push more would be let go at once.
pub last_of-last_of : (n : ℕ) (items : List Held) (h : Held)
    → last_of n (last_of n items ++ h ∷ []) ≡ last_of n (items ++ h ∷ [])
last_of-last_of n items h =
    let gone : ℕ = length items - n in
    let within : gone ≤ length items = omega arith in
    let joined : drop gone items ++ h ∷ []
    ≡ drop gone (items ++ h ∷ []) = sym (drop-append-le gone items (h ∷ []) within) in
    let more : ℕ = length (drop gone items ++ h ∷ []) - n in
    let count : gone + more ≡ length (items ++ h ∷ []) - n =
    simp (length-append, length-drop) (omega arith) in
    ap (drop more) joined ∙ drop-drop more gone (items ++ h ∷ []) ∙ ap (λ k. drop k (items ++ h ∷ [])) count

-- one push more, by the list of all before it
pub pushed-holding_of : (capacity first : ℕ) (before : List Held) (h : Held)
    → pushed (holding_of capacity first before) h ≡ holding_of capacity first (before ++ h ∷ [])
pushed-holding_of capacity first before h =
    let count : length before + 1 ≡ length (before ++ h ∷ []) = simp length-append (omega arith) in
    ap
    (λ k. let r : RingValue =
    record {
      capacity = capacity;
      first = first;
      pushes = k;
      held = last_of capacity (last_of capacity before ++ h ∷ []);
    } in r) count
    ∙ ap (λ k. let r : RingValue =
    record { capacity = capacity; first = first; pushes = length (before ++ h ∷ []); held = k } in r)
    (last_of-last_of capacity before h)

-- further pushes, by the list of all before them
pub pushed_all-holding_of : (capacity first : ℕ) (before items : List Held)
    → pushed_all (holding_of capacity first before) items ≡ holding_of capacity first (before ++ items)
pushed_all-holding_of capacity first before [] = ap (holding_of capacity first) (sym (append-nil before))
pushed_all-holding_of capacity first before (h ∷ items) =
    ap (λ r. pushed_all r items) (pushed-holding_of capacity first before h)
    ∙ pushed_all-holding_of capacity first (before ++ h ∷ []) items
    ∙ ap (holding_of capacity first) (append_assoc before (h ∷ []) items)

-- what a ring holds to which nothing was pushed
pub empty-holding_of : (capacity first : ℕ) → empty capacity first ≡ holding_of capacity first []
empty-holding_of capacity first =
    let none : last_of capacity [] ≡ [] = drop_all (0 - capacity) [] (omega arith) in
    ap (λ held. let r : RingValue = record { capacity = capacity; first = first; pushes = 0; held = held } in r)
    (sym none)

-- what a ring holds after pushes
pub pushed_all-empty : (capacity first : ℕ) (items : List Held)
    → pushed_all (empty capacity first) items ≡ holding_of capacity first items
pushed_all-empty capacity first items =
    ap (λ r. pushed_all r items) (empty-holding_of capacity first) ∙ pushed_all-holding_of capacity first [] items

-- ---- what stays true

-- Stamps that rise do so where the first are let go.
rising_drop : (n : ℕ) (held : List Held) → AreRising held → AreRising (drop n held)
rising_drop n held rising i j d before within =
    rw (get_or-drop n held i d)
    (rw (get_or-drop n held j d)
    (rising (n + i) (n + j) d (omega arith)
    (let e : length (drop n held) ≡ length held - n = length-drop n held in omega arith)))

-- A later push keeps what is true of a ring.
pub pushed_holds : (r : RingValue) (item : Held) → IsRing r → All (λ h. h.stamp < item.stamp) r.held
    → IsRing (pushed r item)
pushed_holds r item holds later =
    let together : length (r.held ++ item ∷ []) ≡ length r.held + 1 = simp length-append (omega arith) in
    record {
      some_capacity = holds.some_capacity;
      small_capacity = holds.small_capacity;
      first_number = holds.first_number;
      count = rw (length-drop (length (r.held ++ item ∷ []) - r.capacity) (r.held ++ item ∷ []))
          (let is = holds.count in omega arith);
      rising = rising_drop (length (r.held ++ item ∷ []) - r.capacity) (r.held ++ item ∷ [])
          (all_pairs_push (λ (earlier : Held) (after : Held). earlier.stamp < after.stamp) r.held item holds.rising
          later);
    }

-- No held stamp is greater than that of the last push.
pub pushed_latest : (r : RingValue) (item : Held) → All (λ h. h.stamp < item.stamp) r.held
    → All (λ h. h.stamp ≤ item.stamp) (pushed r item).held
pushed_latest r item later =
    let within : All (λ (h : Held). h.stamp ≤ item.stamp) r.held = λ k d inside. omega (arith, later k d inside) in
    All-drop (λ (h : Held). h.stamp ≤ item.stamp) (length (r.held ++ item ∷ []) - r.capacity) (r.held ++ item ∷ [])
    (All-push (λ (h : Held). h.stamp ≤ item.stamp) r.held item within (omega arith))
