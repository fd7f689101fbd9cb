-- One line of each station.
use Rattle.std.proofs.Common.{◌≡◌, ◌∙◌, ◌<◌, ◌+◌, ◌&&◌, ◌++◌, ◌∷◌, [], true, false, ℕ, Bool, List, ap, drop, get_or}
use Rattle.std.proofs.Common.{length, not, refl, subst, sym}
use Rattle.std.specs.Prelude.{Option, Some, None, is_none, if◌then◌else◌}
use Rattle.std.proofs.lemmas.List.{at_drop_more}
use Rattle.std.proofs.lemmas.Slice.Eq.{bytes_eq-Decides}
use Rattle.std.specs.Str.{bytes_eq}
use Rattle.slreader.specs.Lasts.{LastValue, is_last_of, last_at, lasts_of}
use Rattle.slreader.specs.Tallies.{ReachedValue, TallyValue}
use Rattle.slreader.specs.Wants.{WantValue}
use Rattle.reader_state.specs.States.{are_apart, is_of_another, lasts_after, one_each, others_of}
use Rattle.reader_state.proofs.ByteLemmas.{both}

-- ---- the loop that writes them

-- the first of those that are left, and the others
abbrev EachAt : List LastValue → ℕ → LastValue → Type 0
EachAt ls place l =
    one_each (drop place ls)
    ≡ (if is_of_another (drop (place + 1) ls) l then l ∷ one_each (drop (place + 1) ls)
    else one_each (drop (place + 1) ls))

each-at : (ls : List LastValue) (place : ℕ) (l d : LastValue) → place < length ls → l ≡ get_or ls place d
    → EachAt ls place l
each-at ls place l d low is =
    at_drop_more one_each ls place d low
    ∙ ap (λ (x : LastValue). if is_of_another (drop (place + 1) ls) x then x ∷ one_each (drop (place + 1) ls)
    else one_each (drop (place + 1) ls)) (sym is)

-- No other one of its station follows.
pub each-more : (ls : List LastValue) (place : ℕ) (l d : LastValue) → place < length ls → l ≡ get_or ls place d
    → is_none (last_at l.network l.station (drop (place + 1) ls)) ≡ true
    → one_each (drop place ls) ≡ l ∷ one_each (drop (place + 1) ls)
each-more ls place l d low is none =
    each-at ls place l d low is
    ∙ ap (λ b. if b then l ∷ one_each (drop (place + 1) ls) else one_each (drop (place + 1) ls)) none

-- Another one does.
pub each-passed : (ls : List LastValue) (place : ℕ) (l d : LastValue) → place < length ls → l ≡ get_or ls place d
    → is_none (last_at l.network l.station (drop (place + 1) ls)) ≡ false
    → one_each (drop place ls) ≡ one_each (drop (place + 1) ls)
each-passed ls place l d low is some =
    each-at ls place l d low is
    ∙ ap (λ b. if b then l ∷ one_each (drop (place + 1) ls) else one_each (drop (place + 1) ls)) some

-- ---- they are of stations that differ

and-true : (a b : Bool) → a ≡ true → b ≡ true → (a && b) ≡ true
and-true a b p q = rw (p, q) refl

and-assoc : (a b c : Bool) → (a && (b && c)) ≡ ((a && b) && c)
and-assoc true b c = refl
and-assoc false b c = refl

right-false : (a b : Bool) → b ≡ false → (a && b) ≡ false
right-false true b h = h
right-false false b h = refl

not-true : (c : Bool) → (c ≡ true → ⊥) → not c ≡ true
not-true true h = absurd (h refl)
not-true false h = refl

differ : (b : Bool) → b ≡ true → b ≡ false → ⊥
differ true p q = absurd cc
differ false p q = absurd cc

-- That of a station is looked for: it is the first one, or stands among the others.
first-none : (c : Bool) (r : ReachedValue) (o : Option ReachedValue)
    → is_none (if c then Some r else o) ≡ (not c && is_none o)
first-none true r o = refl
first-none false r o = refl

same-none : (c : Bool) (r : ReachedValue) (o : Option ReachedValue) → (c ≡ true → is_none o ≡ false)
    → is_none o ≡ is_none (if c then Some r else o)
same-none true r o h = h refl
same-none false r o h = refl

-- Those of one station have its codes.
codes-same : (n s : List ℕ) (l : LastValue) → is_last_of n s l ≡ true → (l.network ≡ n) × (l.station ≡ s)
codes-same n s l is =
    let parts = both (bytes_eq l.network n) (bytes_eq l.station s) is in
    ((bytes_eq-Decides l.network n).0 parts.0, (bytes_eq-Decides l.station s).0 parts.1)

own : (l : LastValue) → is_last_of l.network l.station l ≡ true
own l =
    and-true _ _ ((bytes_eq-Decides l.network l.network).1 refl) ((bytes_eq-Decides l.station l.station).1 refl)

-- What is looked for under the codes of a station is looked for under those of each packet of it.
at-own : (n s : List ℕ) (l : LastValue) (ls : List LastValue) (b : Bool) → is_last_of n s l ≡ true
    → is_none (last_at l.network l.station ls) ≡ b → is_none (last_at n s ls) ≡ b
at-own n s l ls b is none =
    let codes = codes-same n s l is in
    subst (λ (x : List ℕ). is_none (last_at x s ls) ≡ b) codes.0
    (subst (λ (x : List ℕ). is_none (last_at l.network x ls) ≡ b) codes.1 none)

none-append : (n s : List ℕ) (xs ys : List LastValue)
    → is_none (last_at n s (xs ++ ys)) ≡ (is_none (last_at n s xs) && is_none (last_at n s ys))
none-append n s [] ys = refl
none-append n s (x ∷ xs) ys =
    first-none (is_last_of n s x) x.reached (last_at n s (xs ++ ys))
    ∙ ap (λ t. not (is_last_of n s x) && t) (none-append n s xs ys)
    ∙ and-assoc (not (is_last_of n s x)) (is_none (last_at n s xs)) (is_none (last_at n s ys))
    ∙ ap (λ t. t && is_none (last_at n s ys)) (sym (first-none (is_last_of n s x) x.reached (last_at n s xs)))

each-case : (b : Bool) (n s : List ℕ) (x : LastValue) (xs : List LastValue) → is_of_another xs x ≡ b
    → is_none (last_at n s (one_each xs)) ≡ is_none (last_at n s xs)
    → is_none (last_at n s (if b then x ∷ one_each xs else one_each xs)) ≡ is_none (last_at n s (x ∷ xs))
each-case true n s x xs is rest =
    first-none (is_last_of n s x) x.reached (last_at n s (one_each xs))
    ∙ ap (λ t. not (is_last_of n s x) && t) rest
    ∙ sym (first-none (is_last_of n s x) x.reached (last_at n s xs))
each-case false n s x xs is rest =
    rest ∙ same-none (is_last_of n s x) x.reached (last_at n s xs) (λ own. at-own n s x xs false own is)

-- They are of the same stations.
each-same : (n s : List ℕ) (ls : List LastValue)
    → is_none (last_at n s (one_each ls)) ≡ is_none (last_at n s ls)
each-same n s [] = refl
each-same n s (x ∷ xs) = each-case (is_of_another xs x) n s x xs refl (each-same n s xs)

others-case : (d : Bool) (n s : List ℕ) (all : List LastValue) (b : LastValue) (bs : List LastValue)
    → not (is_last_of n s b) ≡ true → is_none (last_at n s (others_of all bs)) ≡ true
    → is_none (last_at n s (if d then b ∷ others_of all bs else others_of all bs)) ≡ true
others-case true n s all b bs other rest =
    first-none (is_last_of n s b) b.reached (last_at n s (others_of all bs)) ∙ and-true _ _ other rest
others-case false n s all b bs other rest = rest

-- Where none is of a station none of the others is.
others-none : (n s : List ℕ) (all bs : List LastValue) → is_none (last_at n s bs) ≡ true
    → is_none (last_at n s (others_of all bs)) ≡ true
others-none n s all [] none = refl
others-none n s all (b ∷ bs) none =
    let parts = both (not (is_last_of n s b)) (is_none (last_at n s bs))
    (sym (first-none (is_last_of n s b) b.reached (last_at n s bs)) ∙ none) in
    others-case (is_of_another all b) n s all b bs parts.0 (others-none n s all bs parts.1)

apart-case : (d : Bool) (all : List LastValue) (b : LastValue) (bs : List LastValue)
    → is_of_another bs b ≡ true → are_apart (others_of all bs) ≡ true
    → are_apart (if d then b ∷ others_of all bs else others_of all bs) ≡ true
apart-case true all b bs other rest = and-true _ _ (others-none b.network b.station all bs other) rest
apart-case false all b bs other rest = rest

others-apart : (all bs : List LastValue) → are_apart bs ≡ true → are_apart (others_of all bs) ≡ true
others-apart all [] h = refl
others-apart all (b ∷ bs) h =
    let parts = both (is_of_another bs b) (are_apart bs) h in
    apart-case (is_of_another all b) all b bs parts.0 (others-apart all bs parts.1)

away-case : (d : Bool) (n s : List ℕ) (all : List LastValue) (b : LastValue) (bs : List LastValue)
    → is_of_another all b ≡ d → is_none (last_at n s all) ≡ false → is_none (last_at n s (others_of all bs)) ≡ true
    → is_none (last_at n s (if d then b ∷ others_of all bs else others_of all bs)) ≡ true
away-case true n s all b bs is some rest =
    others-case true n s all b bs (not-true (is_last_of n s b) (λ own.
    differ (is_none (last_at n s all)) (at-own n s b all true own is) some)) rest
away-case false n s all b bs is some rest = rest

-- Of a station of these none of the others is.
others-away : (n s : List ℕ) (all bs : List LastValue) → is_none (last_at n s all) ≡ false
    → is_none (last_at n s (others_of all bs)) ≡ true
others-away n s all [] some = refl
others-away n s all (b ∷ bs) some =
    away-case (is_of_another all b) n s all b bs refl some (others-away n s all bs some)

-- Each station of the one list is one of the other.
abbrev AreWithin : List LastValue → List LastValue → Type 0
AreWithin ls all = (n s : List ℕ) → is_none (last_at n s ls) ≡ false → is_none (last_at n s all) ≡ false

joined-case : (b : Bool) (all before : List LastValue) (x : LastValue) (xs : List LastValue) → is_of_another xs x ≡ b
    → AreWithin (x ∷ xs) all → are_apart (one_each xs ++ others_of all before) ≡ true
    → are_apart ((if b then x ∷ one_each xs else one_each xs) ++ others_of all before) ≡ true
joined-case true all before x xs is within rest =
    let found : is_none (last_at x.network x.station (x ∷ xs)) ≡ false =
    first-none (is_last_of x.network x.station x) x.reached (last_at x.network x.station xs)
    ∙ ap (λ t. not t && is_none (last_at x.network x.station xs)) (own x) in
    and-true _ _
    (none-append x.network x.station (one_each xs) (others_of all before)
    ∙ and-true _ _ (each-same x.network x.station xs ∙ is)
    (others-away x.network x.station all before (within x.network x.station found))) rest
joined-case false all before x xs is within rest = rest

joined : (all before ls : List LastValue) → AreWithin ls all → are_apart before ≡ true
    → are_apart (one_each ls ++ others_of all before) ≡ true
joined all before [] within apart = others-apart all before apart
joined all before (x ∷ xs) within apart =
    joined-case (is_of_another xs x) all before x xs refl within (joined all before xs (λ n s some. within n s
    (first-none (is_last_of n s x) x.reached (last_at n s xs)
    ∙ right-false (not (is_last_of n s x)) (is_none (last_at n s xs)) some)) apart)

-- What is kept can be read again: no two lines are of one station.
pub kept-apart : (t : TallyValue) (wants : List WantValue) (before : List LastValue) → are_apart before ≡ true
    → are_apart (lasts_after t wants before) ≡ true
kept-apart t wants before apart = joined (lasts_of t wants) before (lasts_of t wants) (λ n s some. some) apart
