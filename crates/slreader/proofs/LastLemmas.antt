-- A state stands for what was counted.
use Rattle.std.proofs.Common.{◌≡◌, ℕ, zero, suc, ◌+◌, Bool, true, false, ◌&&◌, List, [], ◌∷◌, map, Some, None, refl}
use Rattle.std.proofs.Common.{sym, ap, ap₂, ◌∙◌, subst, arith}
use Rattle.std.specs.Prelude.{Option, option_map, slice_get, if◌then◌else◌}
use Rattle.std.proofs.lemmas.Slice.Eq.{bytes_eq-Decides}
use Rattle.slreader.specs.GoingOn.{plan_on, want_on, wants_on}
use Rattle.slreader.specs.Lasts.{AreApart, Differ, IsApart, LastValue, is_last_of, last_at, last_before}
use Rattle.slreader.specs.Lasts.{lasts_from, lasts_of, resume_after, tally_after}
use Rattle.slreader.specs.Tallies.{ReachedValue, TallyValue, number_after, reached_of}
use Rattle.slreader.specs.Wants.{WantValue}
use Rattle.slreader.specs.Wants.PlanValue.{Multi}

-- the last packet of a want
abbrev of_want : WantValue → ReachedValue → LastValue
of_want w r = record { network = w.network; station = w.station; reached = r }

and-false : (a b : Bool) → (a ≡ true → b ≡ true → ⊥) → (a && b) ≡ false
and-false true true h = absurd (h refl refl)
and-false true false h = refl
and-false false b h = refl

and-true : (a b : Bool) → a ≡ true → b ≡ true → (a && b) ≡ true
and-true a b p q = rw (p, q) refl

-- a want's own last packet
own : (w : WantValue) (l : LastValue) → l.network ≡ w.network → l.station ≡ w.station
    → is_last_of w.network w.station l ≡ true
own w l network station =
    and-true _ _ ((bytes_eq-Decides l.network w.network).1 network) ((bytes_eq-Decides l.station w.station).1 station)

-- that of another one
others : (v w : WantValue) (l : LastValue) → Differ v w → l.network ≡ v.network → l.station ≡ v.station
    → is_last_of w.network w.station l ≡ false
others v w l apart network station =
    and-false _ _ (λ a b. apart (sym network ∙ (bytes_eq-Decides l.network w.network).0 a)
    (sym station ∙ (bytes_eq-Decides l.station w.station).0 b))

take-if : {A : Type 0} → (b : Bool) (x y : A) → b ≡ true → (if b then x else y) ≡ x
take-if true x y e = refl
take-if false x y e = absurd cc

pass-if : {A : Type 0} → (b : Bool) (x y : A) → b ≡ false → (if b then x else y) ≡ y
pass-if true x y e = absurd cc
pass-if false x y e = refl

-- One that is of another station is passed over.
passed-over : (v w : WantValue) (r : Option ReachedValue) (ls : List LastValue) → Differ v w
    → last_at w.network w.station (last_before v r ls) ≡ last_at w.network w.station ls
passed-over v w None ls apart = refl
passed-over v w (Some r) ls apart =
    pass-if (is_last_of w.network w.station (of_want v r)) _ _ (others v w (of_want v r) apart refl refl)

turned : (v w : WantValue) → Differ v w → Differ w v
turned v w apart = λ network station. apart (sym network) (sym station)

-- Other wants have none of its station.
none-of : (t : TallyValue) (k : ℕ) (w : WantValue) (ws : List WantValue) → IsApart w ws
    → last_at w.network w.station (lasts_from t k ws) ≡ None
none-of t k w [] apart = refl
none-of t k w (v ∷ ws) apart =
    passed-over v w (reached_of t k) (lasts_from t (k + 1) ws) (turned w v apart.0) ∙ none-of t (k + 1) w ws apart.1

first-own : (w : WantValue) (r : Option ReachedValue) (ls : List LastValue) → last_at w.network w.station ls ≡ None
    → last_at w.network w.station (last_before w r ls) ≡ r
first-own w None ls none = none
first-own w (Some r) ls none =
    take-if (is_last_of w.network w.station (of_want w r)) _ _ (own w (of_want w r) refl refl)

-- What stands before wants of which the first has that number is passed over by all of them.
abbrev Skips : (before lasts : List LastValue) → List WantValue → Type 0
Skips before lasts [] = Unit {0}
Skips before lasts (w ∷ ws) =
    (last_at w.network w.station before ≡ last_at w.network w.station lasts) × Skips before lasts ws

skips-on : (v : WantValue) (r : Option ReachedValue) (lasts before : List LastValue) (ws : List WantValue)
    → IsApart v ws → Skips before (last_before v r lasts) ws → Skips before lasts ws
skips-on v r lasts before [] apart h = tt
skips-on v r lasts before (w ∷ ws) apart h =
    (h.0 ∙ passed-over v w r lasts apart.0, skips-on v r lasts before ws apart.1 h.1)

-- Each want goes on after its own last packet.
own-lasts : (t : TallyValue) (k : ℕ) (all : List LastValue) (ws : List WantValue) → AreApart ws
    → Skips all (lasts_from t k ws) ws → (i : ℕ) (w : WantValue) → slice_get ws i ≡ Some w
    → last_at w.network w.station all ≡ reached_of t (k + i)
own-lasts t k all [] h skips i w is = absurd cc
own-lasts t k all (v ∷ ws) h skips zero w is =
    let same : v ≡ w = cc in
    subst (λ (x : WantValue). last_at x.network x.station all ≡ reached_of t (k + 0)) same
    (skips.0 ∙ first-own v (reached_of t k) (lasts_from t (k + 1) ws) (none-of t (k + 1) v ws h.0)
    ∙ ap (reached_of t) (omega arith))
own-lasts t k all (v ∷ ws) h skips (suc i) w is =
    own-lasts t (k + 1) all ws h.1 (skips-on v (reached_of t k) (lasts_from t (k + 1) ws) all ws h.0 skips.1) i w is
    ∙ ap (reached_of t) (omega arith)

skips-none : (lasts : List LastValue) (ws : List WantValue) → Skips lasts lasts ws
skips-none lasts [] = tt
skips-none lasts (w ∷ ws) = (refl, skips-none lasts ws)

-- what a tally of those says
reached-after : (all : List LastValue) (wants ws : List WantValue) (i : ℕ) (w : WantValue) → slice_get ws i ≡ Some w
    → reached_of (record { records = 0; resumes = map (resume_after all) ws }) i ≡ last_at w.network w.station all
reached-after all wants [] i w is = absurd cc
reached-after all wants (v ∷ ws) zero w is = let same : v ≡ w = cc in
    ap (λ (x : WantValue). last_at x.network x.station all) same
reached-after all wants (v ∷ ws) (suc i) w is = reached-after all wants ws i w is

-- The same wants go on to the same, where the tallies say the same of them.
same-on : (t u : TallyValue) (k : ℕ) (ws : List WantValue)
    → ((i : ℕ) (w : WantValue) → slice_get ws i ≡ Some w → reached_of t (k + i) ≡ reached_of u (k + i))
    → wants_on t k ws ≡ wants_on u k ws
same-on t u k [] same = refl
same-on t u k (w ∷ ws) same =
    let here : reached_of t k ≡ reached_of u k =
    ap (reached_of t) (omega arith) ∙ same 0 w refl ∙ ap (reached_of u) (omega arith) in
    ap₂ (λ x xs. want_on w (option_map number_after x) ∷ xs) here
    (same-on t u (k + 1) ws (λ i v is.
    ap (reached_of t) (omega arith) ∙ same (suc i) v is ∙ ap (reached_of u) (omega arith)))

-- A reader that begins with a state asks what one asks that goes on.
pub state-goes-on : (t : TallyValue) (wants : List WantValue) → AreApart wants
    → plan_on (tally_after (lasts_of t wants) wants) wants ≡ plan_on t wants
state-goes-on t wants h =
    ap Multi (same-on (tally_after (lasts_of t wants) wants) t 0 wants (λ i w is.
    ap (reached_of (tally_after (lasts_of t wants) wants)) (omega arith)
    ∙ reached-after (lasts_of t wants) wants wants i w is
    ∙ own-lasts t 0 (lasts_of t wants) wants h (skips-none (lasts_of t wants) wants) i w is))
