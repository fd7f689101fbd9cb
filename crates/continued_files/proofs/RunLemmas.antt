-- Each record stands once in the file of readers that go on one after the other.
use Rattle.std.proofs.Common.{◌≡◌, ◌≢◌, ◌∙◌, ◌+◌, ◌<◌, ◌≤◌, ◌++◌, ◌∷◌, [], ℕ, List, length, take, ◌-◌, inl, inr}
use Rattle.std.proofs.Common.{suc, zero, ap, arith, get_or, refl, subst, sym, length-append, true, false, Bool}
use Rattle.std.proofs.lemmas.Bool.{cases_eq, cases_lt, eq-eqb, ne_eqb}
use Rattle.std.proofs.lemmas.Bool.Decides.{nat_tests}
use Rattle.std.proofs.lemmas.List.{get_or_append_left, get_or_push, get_or-take}
use Rattle.std.proofs.lemmas.List.{length-take-le}
use Rattle.std.specs.Prelude.{◌⊎◌, if◌then◌else◌, nat_eq}
use Rattle.continued_files.specs.Runs.{AreDistinct, AreOf, HasNumbers, HoldsOnce, IsAmong, IsOf, Moment, Numbers}
use Rattle.continued_files.specs.Runs.{Reaches, Renews, Series, StandsAt, Step, after_keep, after_loss, after_record}
use Rattle.continued_files.specs.Runs.{after_renewal, after_return, after_stop, after_sync, first_moment}
use Rattle.continued_files.specs.Runs.Reaches.{Begins, Goes}
use Rattle.continued_files.specs.Runs.Step.{Forgets, Hands, Keeps, Loses, Returns, Stops, Syncs}
use Rattle.continued_files.specs.Tails.{AreOthers, IsLeft, Offers, TailValue, all_from, first_left, first_of}
use Rattle.continued_files.specs.Tails.{kept_length, tail_of, without}
use Rattle.continued_files.specs.Tails.Offers.{Adds, Passes}
use Rattle.continued_files.specs.Places.{record_at}
use Rattle.continued_files.proofs.TailLemmas.{all-end, all-left, true-false, without-left, without-was}

-- ---- numbers

le-refl : (n : ℕ) → n ≤ n
le-refl n = omega arith

le-trans : {a b c : ℕ} → a ≤ b → b ≤ c → a ≤ c
le-trans h k = omega (arith, h, k)

-- a and b change places
swap : (a b x : ℕ) → ℕ
swap a b x = if nat_eq x a then b else (if nat_eq x b then a else x)

data Swapped (a b x y : ℕ) : Type 0 where
  First : x ≡ a → y ≡ b → Swapped a b x y
  Second : x ≢ a → x ≡ b → y ≡ a → Swapped a b x y
  Other : x ≢ a → x ≢ b → y ≡ x → Swapped a b x y

swapped : (a b x : ℕ) → Swapped a b x (swap a b x)
unfolding swap
swapped a b x =
    elim (cases_eq x a) [
      | inl is ↦ First is (ap (λ t. if t then b else (if nat_eq x b then a else x)) (eq-eqb x a is))
      | inr not ↦
          let out = ap (λ t. if t then b else (if nat_eq x b then a else x)) (ne_eqb x a not) in
          elim (cases_eq x b) [
            | inl is ↦ Second not is (out ∙ ap (λ t. if t then a else x) (eq-eqb x b is))
            | inr differs ↦ Other not differs (out ∙ ap (λ t. if t then a else x) (ne_eqb x b differs))
          ]
    ]

swap-apart : (a b x y : ℕ) → swap a b x ≡ swap a b y → x ≡ y
swap-apart a b x y same =
    elim (swapped a b x) [
      | First xa is ↦
          elim (swapped a b y) [
            | First ya is2 ↦ xa ∙ sym ya
            | Second ya yb is2 ↦ absurd (ya (yb ∙ (sym is ∙ same ∙ is2)))
            | Other ya yb is2 ↦ absurd (yb (sym (sym is ∙ same ∙ is2)))
          ]
      | Second xa xb is ↦
          elim (swapped a b y) [
            | First ya is2 ↦ absurd (xa (xb ∙ sym (sym is ∙ same ∙ is2)))
            | Second ya yb is2 ↦ xb ∙ sym yb
            | Other ya yb is2 ↦ absurd (ya (sym (sym is ∙ same ∙ is2)))
          ]
      | Other xa xb is ↦
          elim (swapped a b y) [
            | First ya is2 ↦ absurd (xb (sym is ∙ same ∙ is2))
            | Second ya yb is2 ↦ absurd (xa (sym is ∙ same ∙ is2))
            | Other ya yb is2 ↦ sym is ∙ same ∙ is2
          ]
    ]

-- one place more
put : (at n : ℕ) (number : ℕ → ℕ) → ℕ → ℕ
put at n number i = if nat_eq i at then n else number i

put-here : (at n : ℕ) (number : ℕ → ℕ) (i : ℕ) → i ≡ at → put at n number i ≡ n
unfolding put
put-here at n number i is = ap (λ t. if t then n else number i) (eq-eqb i at is)

put-other : (at n : ℕ) (number : ℕ → ℕ) (i : ℕ) → i < at → put at n number i ≡ number i
unfolding put
put-other at n number i low = ap (λ t. if t then n else number i) (ne_eqb i at (λ is. omega (arith, is, low)))

-- ---- what holds at each moment

record Stands (s : Series) (m : Moment) (number : ℕ → ℕ) : Type 0 where
  numbers : HasNumbers s m.file number
  kept : (m.kept ≤ m.synced) ⊎ (length m.file < m.kept)
  synced : m.synced ≤ length m.file
  end : (i : ℕ) → IsLeft m.tail i → i < length m.file
  -- What stands in the file and may still be handed is left of the tail.
  left : (i : ℕ) → i < length m.file → IsOf m.comes (number i) → IsLeft m.tail i
  -- What is counted is not asked for.
  asked : m.kept ≤ length m.file → (i : ℕ) → i < m.kept → IsOf m.asked (number i) → ⊥
  free : AreDistinct s ⊎ (m.kept ≤ length m.file → (i : ℕ) → IsLeft m.tail i → m.kept ≤ i)
  handed : (n : ℕ) → IsAmong n m.handed → (place : ℕ) × StandsAt m.file (s n) place
  counted : (n : ℕ) → IsAmong n m.counted → (place : ℕ) × (place < m.synced) × StandsAt m.file (s n) place

-- ---- a record is handed that stands at a place which is left

-- what holds before it, and what is handed
record Met (s : Series) (m : Moment) (number : ℕ → ℕ) (n place : ℕ) (comes : Numbers) : Type 0 where
  stands : Stands s m number
  may : IsOf m.comes n
  fewer : AreOf comes m.comes
  once : IsOf comes n → ⊥
  at : IsLeft m.tail place
  here : record_at m.file place ≡ s n

-- its number is that of the place, from now on
renumbered : (n place : ℕ) (number : ℕ → ℕ) → ℕ → ℕ
renumbered n place number i = swap n (number place) (number i)

met-below : (s : Series) (m : Moment) (number : ℕ → ℕ) (n place : ℕ) (comes : Numbers) → Met s m number n place comes
    → place < length m.file
met-below s m number n place comes g = g.stands.end place g.at

met-numbers : (s : Series) (m : Moment) (number : ℕ → ℕ) (n place : ℕ) (comes : Numbers)
    → Met s m number n place comes → HasNumbers s m.file (renumbered n place number)
unfolding renumbered
met-numbers s m number n place comes g =
    let low = met-below s m number n place comes g in
    let same : s (number place) ≡ s n = sym (g.stands.numbers.known place low) ∙ g.here in
    record {
      known = λ i ilow.
          let was = g.stands.numbers.known i ilow in
          elim (swapped n (number place) (number i)) [
            | First is after ↦ was ∙ ap s is ∙ sym same ∙ ap s (sym after)
            | Second not is after ↦ was ∙ ap s is ∙ same ∙ ap s (sym after)
            | Other not differs after ↦ was ∙ ap s (sym after)
          ];
      apart = λ i j ilow jlow is.
          g.stands.numbers.apart i j ilow jlow (swap-apart n (number place) (number i) (number j) is);
    }

met-left : (s : Series) (m : Moment) (number : ℕ → ℕ) (n place : ℕ) (comes : Numbers) → Met s m number n place comes
    → (i : ℕ) → i < length m.file → IsOf comes (renumbered n place number i) → IsLeft (without m.tail place) i
unfolding renumbered
met-left s m number n place comes g i low may =
    let below = met-below s m number n place comes g in
    elim (swapped n (number place) (number i)) [
      | First is after ↦
          let at = g.stands.left i low (subst (IsOf m.comes) (sym is) g.may) in
          without-left m.tail place i g.at at
          (λ there. g.once (subst (IsOf comes) (after ∙ ap number (sym there) ∙ is) may))
      | Second not is after ↦ absurd (g.once (subst (IsOf comes) after may))
      | Other not differs after ↦
          let at = g.stands.left i low (g.fewer (number i) (subst (IsOf comes) after may)) in
          without-left m.tail place i g.at at (λ there. differs (ap number there))
    ]

met-asked : (s : Series) (m : Moment) (number : ℕ → ℕ) (n place : ℕ) (comes : Numbers) → Met s m number n place comes
    → m.kept ≤ length m.file → (i : ℕ) → i < m.kept → IsOf m.asked (renumbered n place number i) → ⊥
unfolding renumbered
met-asked s m number n place comes g size i low may =
    let below = met-below s m number n place comes g in
    let ilow : i < length m.file = omega (arith, size, low) in
    elim g.stands.free [
      | inl distinct ↦
          let is : number place ≡ n = distinct (number place) n (sym (g.stands.numbers.known place below) ∙ g.here) in
          elim (swapped n (number place) (number i)) [
            | First here after ↦
                g.stands.asked size i low (subst (IsOf m.asked) (after ∙ is ∙ sym here) may)
            | Second not here after ↦
                g.stands.asked size i low (subst (IsOf m.asked) (after ∙ sym is ∙ sym here) may)
            | Other not differs after ↦ g.stands.asked size i low (subst (IsOf m.asked) after may)
          ]
      | inr free ↦
          elim (swapped n (number place) (number i)) [
            | First here after ↦
                let over : m.kept ≤ i = free size i (g.stands.left i ilow (subst (IsOf m.comes) (sym here) g.may)) in
                absurd (omega (arith, over, low))
            | Second not here after ↦
                let there : i ≡ place = g.stands.numbers.apart i place ilow below here in
                let over : m.kept ≤ place = free size place g.at in
                absurd (omega (arith, over, low, there))
            | Other not differs after ↦ g.stands.asked size i low (subst (IsOf m.asked) after may)
          ]
    ]

met-free : (s : Series) (m : Moment) (place : ℕ)
    → AreDistinct s ⊎ (m.kept ≤ length m.file → (i : ℕ) → IsLeft m.tail i → m.kept ≤ i)
    → AreDistinct s ⊎ (m.kept ≤ length m.file → (i : ℕ) → IsLeft (without m.tail place) i → m.kept ≤ i)
met-free s m place (inl distinct) = inl distinct
met-free s m place (inr free) = inr (λ size i at. free size i (without-was m.tail place i at))

met-handed : (s : Series) (m : Moment) (number : ℕ → ℕ) (n place : ℕ) (comes : Numbers)
    → Met s m number n place comes → (k : ℕ) → IsAmong k (n ∷ m.handed) → (at : ℕ) × StandsAt m.file (s k) at
met-handed s m number n place comes g k (inl is) =
    let below = met-below s m number n place comes g in (place, (below, g.here ∙ ap s is))
met-handed s m number n place comes g k (inr among) = g.stands.handed k among

after-met : (s : Series) (m : Moment) (number : ℕ → ℕ) (n place : ℕ) (comes : Numbers)
    → Met s m number n place comes
    → Stands s (after_record m n comes (without m.tail place) m.file) (renumbered n place number)
after-met s m number n place comes g =
    record {
      numbers = met-numbers s m number n place comes g;
      kept = g.stands.kept;
      synced = g.stands.synced;
      end = λ i at. g.stands.end i (without-was m.tail place i at);
      left = met-left s m number n place comes g;
      asked = met-asked s m number n place comes g;
      free = met-free s m place g.stands.free;
      handed = met-handed s m number n place comes g;
      counted = g.stands.counted;
    }

-- ---- a record is handed that stands at no place which is left

record Missed (s : Series) (m : Moment) (number : ℕ → ℕ) (n : ℕ) (comes : Numbers) : Type 0 where
  stands : Stands s m number
  may : IsOf m.comes n
  fewer : AreOf comes m.comes
  once : IsOf comes n → ⊥
  short : length m.file < m.kept → length (m.file ++ s n ∷ []) < m.kept
  others : AreOthers m.tail m.file (s n)

-- its number is that of the new place
numbered : (m : Moment) (n : ℕ) (number : ℕ → ℕ) → ℕ → ℕ
numbered m n number = put (length m.file) n number

push-length : (rs : List (List ℕ)) (r : List ℕ) → length (rs ++ r ∷ []) ≡ length rs + 1
push-length rs r = length-append rs (r ∷ [])

-- no place has it yet
missed-apart : (s : Series) (m : Moment) (number : ℕ → ℕ) (n : ℕ) (comes : Numbers) → Missed s m number n comes
    → (i : ℕ) → i < length m.file → number i ≡ n → ⊥
missed-apart s m number n comes g i low is =
    g.others i (g.stands.left i low (subst (IsOf m.comes) (sym is) g.may))
    (g.stands.numbers.known i low ∙ ap s is)

-- a place of the file after it
data Place (m : Moment) (n : ℕ) (number : ℕ → ℕ) (r : List ℕ) (i : ℕ) : Type 0 where
  Old : i < length m.file → numbered m n number i ≡ number i → record_at (m.file ++ r ∷ []) i ≡ record_at m.file i
      → Place m n number r i
  New : i ≡ length m.file → numbered m n number i ≡ n → record_at (m.file ++ r ∷ []) i ≡ r → Place m n number r i

place-of : (m : Moment) (n : ℕ) (number : ℕ → ℕ) (r : List ℕ) (i : ℕ) → i < length (m.file ++ r ∷ [])
    → Place m n number r i
unfolding numbered
place-of m n number r i low =
    let size = push-length m.file r in
    elim (cases_lt i (length m.file)) [
      | inl under ↦
          Old under (put-other (length m.file) n number i under) (get_or_append_left m.file (r ∷ []) [] i under)
      | inr over ↦
          let is : i ≡ length m.file = omega (arith, size, low, over) in
          New is (put-here (length m.file) n number i is) (get_or_push m.file r [] i (sym is))
    ]

missed-numbers : (s : Series) (m : Moment) (number : ℕ → ℕ) (n : ℕ) (comes : Numbers) → Missed s m number n comes
    → HasNumbers s (m.file ++ s n ∷ []) (numbered m n number)
missed-numbers s m number n comes g =
    record {
      known = λ i low.
          elim (place-of m n number (s n) i low) [
            | Old under is stays ↦ stays ∙ g.stands.numbers.known i under ∙ ap s (sym is)
            | New here is new ↦ new ∙ ap s (sym is)
          ];
      apart = λ i j ilow jlow same.
          elim (place-of m n number (s n) i ilow) [
            | Old iunder iis istays ↦
                elim (place-of m n number (s n) j jlow) [
                  | Old junder jis jstays ↦
                      g.stands.numbers.apart i j iunder junder (sym iis ∙ same ∙ jis)
                  | New jhere jis jnew ↦
                      absurd (missed-apart s m number n comes g i iunder (sym iis ∙ same ∙ jis))
                ]
            | New ihere iis inew ↦
                elim (place-of m n number (s n) j jlow) [
                  | Old junder jis jstays ↦
                      absurd (missed-apart s m number n comes g j junder (sym jis ∙ sym same ∙ iis))
                  | New jhere jis jnew ↦ ihere ∙ sym jhere
                ]
          ];
    }

missed-left : (s : Series) (m : Moment) (number : ℕ → ℕ) (n : ℕ) (comes : Numbers) → Missed s m number n comes
    → (i : ℕ) → i < length (m.file ++ s n ∷ []) → IsOf comes (numbered m n number i) → IsLeft m.tail i
missed-left s m number n comes g i low may =
    elim (place-of m n number (s n) i low) [
      | Old under is stays ↦ g.stands.left i under (g.fewer (number i) (subst (IsOf comes) is may))
      | New here is new ↦ absurd (g.once (subst (IsOf comes) is may))
    ]

-- a file that is as long as the state counts was so before
missed-size : (s : Series) (m : Moment) (number : ℕ → ℕ) (n : ℕ) (comes : Numbers) → Missed s m number n comes
    → m.kept ≤ length (m.file ++ s n ∷ []) → m.kept ≤ length m.file
missed-size s m number n comes g size =
    elim (cases_lt (length m.file) m.kept) [
      | inl short ↦ let still = g.short short in absurd (omega (arith, still, size))
      | inr long ↦ long
    ]

missed-asked : (s : Series) (m : Moment) (number : ℕ → ℕ) (n : ℕ) (comes : Numbers) → Missed s m number n comes
    → m.kept ≤ length (m.file ++ s n ∷ []) → (i : ℕ) → i < m.kept → IsOf m.asked (numbered m n number i) → ⊥
missed-asked s m number n comes g size i low may =
    let was = missed-size s m number n comes g size in
    elim (place-of m n number (s n) i (omega (arith, size, low))) [
      | Old under is stays ↦ g.stands.asked was i low (subst (IsOf m.asked) is may)
      | New here is new ↦ absurd (omega (arith, here, was, low))
    ]

missed-free : (s : Series) (m : Moment) (number : ℕ → ℕ) (n : ℕ) (comes : Numbers) → Missed s m number n comes
    → AreDistinct s ⊎ (m.kept ≤ length m.file → (i : ℕ) → IsLeft m.tail i → m.kept ≤ i)
    → AreDistinct s ⊎ (m.kept ≤ length (m.file ++ s n ∷ []) → (i : ℕ) → IsLeft m.tail i → m.kept ≤ i)
missed-free s m number n comes g (inl distinct) = inl distinct
missed-free s m number n comes g (inr free) = inr (λ size i at. free (missed-size s m number n comes g size) i at)

missed-kept : (s : Series) (m : Moment) (number : ℕ → ℕ) (n : ℕ) (comes : Numbers) → Missed s m number n comes
    → (m.kept ≤ m.synced) ⊎ (length (m.file ++ s n ∷ []) < m.kept)
missed-kept s m number n comes g =
    elim g.stands.kept [ inl kept ↦ inl kept | inr short ↦ inr (g.short short) ]

push-stands : (rs : List (List ℕ)) (r x : List ℕ) (i : ℕ) → StandsAt rs x i → StandsAt (rs ++ r ∷ []) x i
push-stands rs r x i at =
    let size = push-length rs r in
    let low : i < length rs = at.0 in
    (omega (arith, size, low), get_or_append_left rs (r ∷ []) [] i low ∙ at.1)

missed-handed : (s : Series) (m : Moment) (number : ℕ → ℕ) (n : ℕ) (comes : Numbers) → Missed s m number n comes
    → (k : ℕ) → IsAmong k (n ∷ m.handed) → (at : ℕ) × StandsAt (m.file ++ s n ∷ []) (s k) at
missed-handed s m number n comes g k (inl is) =
    let size = push-length m.file (s n) in
    (length m.file, (omega (arith, size), get_or_push m.file (s n) [] (length m.file) refl ∙ ap s is))
missed-handed s m number n comes g k (inr among) =
    let at = g.stands.handed k among in (at.0, push-stands m.file (s n) (s k) at.0 at.1)

missed-counted : (s : Series) (m : Moment) (number : ℕ → ℕ) (n : ℕ) (comes : Numbers) → Missed s m number n comes
    → (k : ℕ) → IsAmong k m.counted → (at : ℕ) × (at < m.synced) × StandsAt (m.file ++ s n ∷ []) (s k) at
missed-counted s m number n comes g k among =
    let at = g.stands.counted k among in (at.0, at.1, push-stands m.file (s n) (s k) at.0 at.2)

after-missed : (s : Series) (m : Moment) (number : ℕ → ℕ) (n : ℕ) (comes : Numbers) → Missed s m number n comes
    → Stands s (after_record m n comes m.tail (m.file ++ s n ∷ [])) (numbered m n number)
after-missed s m number n comes g =
    let size = push-length m.file (s n) in
    let synced : m.synced ≤ length m.file = g.stands.synced in
    record {
      numbers = missed-numbers s m number n comes g;
      kept = missed-kept s m number n comes g;
      synced = omega (arith, synced, size);
      end = λ i at. let low : i < length m.file = g.stands.end i at in omega (arith, size, low);
      left = missed-left s m number n comes g;
      asked = missed-asked s m number n comes g;
      free = missed-free s m number n comes g g.stands.free;
      handed = missed-handed s m number n comes g;
      counted = missed-counted s m number n comes g;
    }

after-hands : (s : Series) (m : Moment) (number : ℕ → ℕ) (n : ℕ) (comes : Numbers) (tail : TailValue)
    (file : List (List ℕ)) → Stands s m number → IsOf m.comes n → AreOf comes m.comes → (IsOf comes n → ⊥)
    → (length m.file < m.kept → length file < m.kept) → Offers m.tail m.file (s n) tail file
    → (number' : ℕ → ℕ) × Stands s (after_record m n comes tail file) number'
after-hands s m number n comes _ _ h may fewer once short (Passes place at here) =
    let g : Met s m number n place comes =
    record { stands = h; may = may; fewer = fewer; once = once; at = at; here = here } in
    (renumbered n place number, after-met s m number n place comes g)
after-hands s m number n comes _ _ h may fewer once short (Adds others) =
    let g : Missed s m number n comes =
    record { stands = h; may = may; fewer = fewer; once = once; short = short; others = others } in
    (numbered m n number, after-missed s m number n comes g)

-- ---- what stands is synced

after-sync : (s : Series) (m : Moment) (number : ℕ → ℕ) → Stands s m number → Stands s (after_sync m) number
after-sync s m number h =
    record {
      numbers = h.numbers;
      kept = elim h.kept [ inl kept ↦ inl (le-trans kept h.synced) | inr short ↦ inr short ];
      synced = le-refl (length m.file);
      end = h.end;
      left = h.left;
      asked = h.asked;
      free = h.free;
      handed = h.handed;
      counted = λ n among. let at = h.counted n among in (at.0, at.2.0, at.2);
    }

-- ---- a state is kept

-- no place before the first one that is left is left
first-apart : (at : ℕ) (left : List Bool) (count k : ℕ) → at + k < first_left at left count
    → get_or left k false ≡ true → ⊥
first-apart at [] count k below is = true-false false is refl
first-apart at (true ∷ left) count k below is = omega (arith, below)
first-apart at (false ∷ left) count zero below is = true-false false is refl
first-apart at (false ∷ left) count (suc k) below is =
    first-apart (at + 1) left count k (omega (arith, below)) is

first-count : (at : ℕ) (left : List Bool) (count : ℕ) → ((k : ℕ) → get_or left k false ≡ true → at + k < count)
    → first_left at left count ≤ count
first-count at [] count within = le-refl count
first-count at (true ∷ left) count within = let low : at + 0 < count = within 0 refl in omega (arith, low)
first-count at (false ∷ left) count within =
    first-count (at + 1) left count
    (λ k is. let low : at + suc k < count = within (suc k) is in omega (arith, low))

kept-apart : (t : TailValue) (count i : ℕ) → i < kept_length t count → IsLeft t i → ⊥
kept-apart t count i below at =
    let low : t.from ≤ i = at.0 in
    let is : t.from + (i - t.from) ≡ i = omega (arith, low) in
    first-apart t.from t.left count (i - t.from) (omega (arith, is, below)) at.1

kept-count : (t : TailValue) (count : ℕ) → ((i : ℕ) → IsLeft t i → i < count) → kept_length t count ≤ count
kept-count t count within =
    first-count t.from t.left count
    (λ k is. within (t.from + k)
    (let low : t.from ≤ t.from + k = omega arith in
    let same : k ≡ (t.from + k) - t.from = omega arith in
    (low, subst (λ j. get_or t.left j false ≡ true) same is)))

among-append : (n : ℕ) (xs ys : List ℕ) → IsAmong n (xs ++ ys) → IsAmong n xs ⊎ IsAmong n ys
among-append n [] ys h = inr h
among-append n (x ∷ xs) ys (inl is) = inl (inl is)
among-append n (x ∷ xs) ys (inr among) =
    elim (among-append n xs ys among) [ inl left ↦ inl (inr left) | inr right ↦ inr right ]

kept-counted : (s : Series) (m : Moment) (number : ℕ → ℕ) → Stands s m number → m.synced ≡ length m.file → (n : ℕ)
    → IsAmong n (m.handed ++ m.counted) → (place : ℕ) × (place < m.synced) × StandsAt m.file (s n) place
kept-counted s m number h all n among =
    elim (among-append n m.handed m.counted among) [
      | inl here ↦ let at = h.handed n here in (at.0, subst (λ x. at.0 < x) (sym all) at.1.0, at.1)
      | inr before ↦ h.counted n before
    ]

after-keep : (s : Series) (m : Moment) (number : ℕ → ℕ) (kept : ℕ) (asked : Numbers) → Stands s m number
    → m.synced ≡ length m.file → kept ≤ kept_length m.tail (length m.file) → AreOf asked m.comes
    → Stands s (after_keep m kept asked) number
after-keep s m number kept asked h all low fewer =
    let size = kept-count m.tail (length m.file) h.end in
    record {
      numbers = h.numbers;
      kept = inl (omega (arith, low, size, all));
      synced = h.synced;
      end = h.end;
      left = h.left;
      asked = λ within i below may.
          kept-apart m.tail (length m.file) i (omega (arith, below, low))
          (h.left i (omega (arith, below, within)) (fewer (number i) may));
      free = inr (λ within i at.
          elim (cases_lt i kept) [
            | inl below ↦ absurd (kept-apart m.tail (length m.file) i (omega (arith, below, low)) at)
            | inr over ↦ over
          ]);
      handed = λ n among. absurd among;
      counted = kept-counted s m number h all;
    }

-- ---- a stop

first-within : (kept count : ℕ) → kept ≤ count → first_of kept count ≡ kept
first-within kept count low = grind (arith, nat_tests)

first-short : (kept count : ℕ) → count < kept → first_of kept count ≡ 0
first-short kept count low = grind (arith, nat_tests)

tail-left : (kept count i : ℕ) → first_of kept count ≤ i → i < count → IsLeft (tail_of kept count) i
tail-left kept count i low below = all-left (first_of kept count) count i low below

tail-end : (kept count i : ℕ) → IsLeft (tail_of kept count) i → i < count
tail-end kept count i at = all-end (first_of kept count) count i at

tail-from : (kept count i : ℕ) → kept ≤ count → IsLeft (tail_of kept count) i → kept ≤ i
tail-from kept count i within at = subst (λ k. k ≤ i) (first-within kept count within) at.0

stop-at : (left place : ℕ) (rs : List (List ℕ)) → place < length (take left rs) → left ≤ length rs
    → (place < left) × (record_at (take left rs) place ≡ record_at rs place)
stop-at left place rs low size =
    let count : length (take left rs) ≡ left = length-take-le left rs size in
    let below : place < left = omega (arith, count, low) in
    (below, get_or-take left rs place [] below)

stop-stands : (left place : ℕ) (rs : List (List ℕ)) (r : List ℕ) → place < left → left ≤ length rs
    → StandsAt rs r place → StandsAt (take left rs) r place
stop-stands left place rs r below size at =
    let count : length (take left rs) ≡ left = length-take-le left rs size in
    (omega (arith, count, below), get_or-take left rs place [] below ∙ at.1)

stop-numbers : (s : Series) (rs : List (List ℕ)) (number : ℕ → ℕ) (left : ℕ) → left ≤ length rs
    → HasNumbers s rs number → HasNumbers s (take left rs) number
stop-numbers s rs number left size h =
    record {
      known = λ i low.
          let a = stop-at left i rs low size in
          let below : i < left = a.0 in
          a.1 ∙ h.known i (omega (arith, below, size));
      apart = λ i j ilow jlow same.
          let a = stop-at left i rs ilow size in
          let b = stop-at left j rs jlow size in
          let ibelow : i < left = a.0 in
          let jbelow : j < left = b.0 in
          h.apart i j (omega (arith, ibelow, size)) (omega (arith, jbelow, size)) same;
    }

stop-left : (s : Series) (m : Moment) (number : ℕ → ℕ) (left : ℕ) → Stands s m number → m.synced ≤ left
    → left ≤ length m.file → (i : ℕ) → i < left → IsOf m.asked (number i) → IsLeft (tail_of m.kept left) i
stop-left s m number left h low size i below may =
    elim h.kept [
      | inl kept ↦
          let first : first_of m.kept left ≡ m.kept = first-within m.kept left (omega (arith, kept, low)) in
          elim (cases_lt i m.kept) [
            | inl under ↦ absurd (h.asked (omega (arith, kept, low, size)) i under may)
            | inr over ↦ tail-left m.kept left i (omega (arith, first, over)) below
          ]
      | inr short ↦
          let first : first_of m.kept left ≡ 0 = first-short m.kept left (omega (arith, short, size)) in
          tail-left m.kept left i (omega (arith, first)) below
    ]

after-stop : (s : Series) (m : Moment) (number : ℕ → ℕ) (left : ℕ) → Stands s m number → m.synced ≤ left
    → left ≤ length m.file → Stands s (after_stop m left) number
after-stop s m number left h low size =
    let count : length (take left m.file) ≡ left = length-take-le left m.file size in
    record {
      numbers = stop-numbers s m.file number left size h.numbers;
      kept = elim h.kept [ inl kept ↦ inl kept | inr short ↦ inr (omega (arith, short, count, size)) ];
      synced = omega (arith, count, low);
      end = λ i at. let below : i < left = tail-end m.kept left i at in omega (arith, count, below);
      left = λ i below may. stop-left s m number left h low size i (omega (arith, below, count)) may;
      asked = λ within i below may. h.asked (omega (arith, within, count, size)) i below may;
      free = inr (λ within i at. tail-from m.kept left i (omega (arith, within, count)) at);
      handed = λ n among. absurd among;
      counted = λ n among.
          let at = h.counted n among in
          let below : at.0 < m.synced = at.1 in
          (at.0, at.1, stop-stands left at.0 m.file (s n) (omega (arith, below, low)) size at.2);
    }

-- ---- another file

loss-first : (kept count : ℕ) → (count < kept) ⊎ (kept ≡ 0) → first_of kept count ≡ 0
loss-first kept count (inl short) = first-short kept count short
loss-first kept count (inr none) = first-within kept count (omega (arith, none)) ∙ none

loss-kept : (kept count : ℕ) → (count < kept) ⊎ (kept ≡ 0) → (kept ≤ 0) ⊎ (count < kept)
loss-kept kept count (inl short) = inr short
loss-kept kept count (inr none) = inl (omega (arith, none))

-- no place is counted of it
loss-none : (kept count : ℕ) → (count < kept) ⊎ (kept ≡ 0) → kept ≤ count → kept ≡ 0
loss-none kept count (inl short) within = absurd (omega (arith, short, within))
loss-none kept count (inr none) within = none

after-loss : (s : Series) (m : Moment) (file : List (List ℕ)) (number : ℕ → ℕ) (comes : Numbers)
    → HasNumbers s file number → (length file < m.kept) ⊎ (m.kept ≡ 0) → Stands s (after_loss m file comes) number
after-loss s m file number comes has lost =
    let first : first_of m.kept (length file) ≡ 0 = loss-first m.kept (length file) lost in
    record {
      numbers = has;
      kept = loss-kept m.kept (length file) lost;
      synced = omega arith;
      end = λ i at. tail-end m.kept (length file) i at;
      left = λ i below may. tail-left m.kept (length file) i (omega (arith, first)) below;
      asked = λ within i below may.
          let none : m.kept ≡ 0 = loss-none m.kept (length file) lost within in absurd (omega (arith, none, below));
      free = inr (λ within i at.
          let none : m.kept ≡ 0 = loss-none m.kept (length file) lost within in omega (arith, none));
      handed = λ n among. absurd among;
      counted = λ n among. absurd among;
    }

-- ---- numbers go back

return-free : (s : Series) (m : Moment) → AreDistinct s ⊎ (m.kept ≡ 0)
    → AreDistinct s
    ⊎ (m.kept ≤ length m.file → (i : ℕ) → IsLeft (all_from 0 (length m.file)) i → m.kept ≤ i)
return-free s m (inl distinct) = inl distinct
return-free s m (inr none) = inr (λ within i at. omega (arith, none))

after-return : (s : Series) (m : Moment) (number : ℕ → ℕ) (comes : Numbers) → Stands s m number
    → AreDistinct s ⊎ (m.kept ≡ 0) → Stands s (after_return m comes) number
after-return s m number comes h free =
    record {
      numbers = h.numbers;
      kept = h.kept;
      synced = h.synced;
      end = λ i at. all-end 0 (length m.file) i at;
      left = λ i below may. all-left 0 (length m.file) i (omega arith) below;
      asked = h.asked;
      free = return-free s m free;
      handed = h.handed;
      counted = h.counted;
    }

-- ---- a tail is made anew

renewal-free : (s : Series) (m : Moment) (tail : TailValue) → Renews s m tail
    → AreDistinct s ⊎ (m.kept ≤ length m.file → (i : ℕ) → IsLeft tail i → m.kept ≤ i)
renewal-free s m tail r =
    elim r.kept [ inl distinct ↦ inl distinct | inr over ↦ inr (λ within i at. over i at) ]

after-renewal : (s : Series) (m : Moment) (number : ℕ → ℕ) (tail : TailValue) → Stands s m number → Renews s m tail
    → Stands s (after_renewal m tail) number
after-renewal s m number tail h r =
    record {
      numbers = h.numbers;
      kept = h.kept;
      synced = h.synced;
      end = r.end;
      left = λ i below may.
          elim (r.more i (h.left i below may)) [
            | inl at ↦ at
            | inr over ↦ absurd (over (number i) (h.numbers.known i below) may)
          ];
      asked = h.asked;
      free = renewal-free s m tail r;
      handed = h.handed;
      counted = h.counted;
    }

-- ---- all of them

after-first : (s : Series) (numbers : Numbers) → Stands s (first_moment numbers) (λ i. i)
after-first s numbers =
    record {
      numbers = record { known = λ i low. absurd (omega (arith, low)); apart = λ i j low. absurd (omega (arith, low)) };
      kept = inl (le-refl 0);
      synced = le-refl 0;
      end = λ i at. tail-end 0 0 i at;
      left = λ i low. absurd (omega (arith, low));
      asked = λ within i low. absurd (omega (arith, low));
      free = inr (λ within i at. omega arith);
      handed = λ n among. absurd among;
      counted = λ n among. absurd among;
    }

-- some numbers of the places
Holds : Series → Moment → Type 0
Holds s m = (number : ℕ → ℕ) × Stands s m number

after-step : (s : Series) (m m' : Moment) → (number : ℕ → ℕ) → Stands s m number → Step s m m' → Holds s m'
unfolding Holds
after-step s m _ number h (Hands n comes tail file may fewer once short offers) =
    after-hands s m number n comes tail file h may fewer once short offers
after-step s m _ number h Syncs = (number, after-sync s m number h)
after-step s m _ number h (Keeps kept asked all low fewer) =
    (number, after-keep s m number kept asked h all low fewer)
after-step s m _ number h (Stops left low size) = (number, after-stop s m number left h low size)
after-step s m _ number h (Loses file others comes has short) =
    (others, after-loss s m file others comes has short)
after-step s m _ number h (Returns comes free) = (number, after-return s m number comes h free)
after-step s m _ number h (Forgets tail renews) = (number, after-renewal s m number tail h renews)

stands-always : (s : Series) (m : Moment) → Reaches s m → Holds s m
unfolding Holds
stands-always s _ (Begins numbers) = ((λ i. i), after-first s numbers)
stands-always s m (Goes {m = before} reaches step) =
    let h = stands-always s before reaches in after-step s before m h.0 h.1 step

once-by : (s : Series) (file : List (List ℕ)) (number : ℕ → ℕ) → HasNumbers s file number → AreDistinct s
    → (i j : ℕ) → i < length file → j < length file → record_at file i ≡ record_at file j → i ≡ j
once-by s file number h distinct i j ilow jlow same =
    h.apart i j ilow jlow (distinct (number i) (number j) (sym (h.known i ilow) ∙ same ∙ h.known j jlow))

pub holds-once : (s : Series) (m : Moment) → Reaches s m → HoldsOnce s m
unfolding Holds
holds-once s m reaches =
    let h = stands-always s m reaches in
    record {
      number = h.0;
      numbers = h.1.numbers;
      once = λ distinct. once-by s m.file h.0 h.1.numbers distinct;
      handed = h.1.handed;
      counted = h.1.counted;
    }
