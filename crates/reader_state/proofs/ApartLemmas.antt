-- Stations that differ.
use Rattle.std.proofs.Common.{◌≡◌, ◌∙◌, ◌<◌, ◌+◌, ◌&&◌, true, false, ℕ, List, ap, drop, get_or, length}
use Rattle.std.proofs.Common.{refl, sym}
use Rattle.std.specs.Prelude.{Option, Some, None, is_none, is_some}
use Rattle.std.proofs.lemmas.List.{at_drop_more}
use Rattle.slreader.specs.Lasts.{LastValue, last_at}
use Rattle.reader_state.specs.States.{are_apart, is_of_another}

-- the first of those that are left, and the others
abbrev pub ApartAt : List LastValue → ℕ → LastValue → Type 0
ApartAt ls place l = are_apart (drop place ls) ≡ (is_of_another (drop (place + 1) ls) l && are_apart (drop (place + 1) ls))

pub apart-at : (ls : List LastValue) (place : ℕ) (l d : LastValue) → place < length ls → l ≡ get_or ls place d
    → ApartAt ls place l
apart-at ls place l d low is =
    at_drop_more are_apart ls place d low
    ∙ ap (λ (x : LastValue). is_of_another (drop (place + 1) ls) x && are_apart (drop (place + 1) ls)) (sym is)

some-none : {X : Type 0} → (o : Option X) → is_some o ≡ true → is_none o ≡ false
some-none None h = absurd cc
some-none (Some x) h = refl

none-some : {X : Type 0} → (o : Option X) → is_some o ≡ false → is_none o ≡ true
none-some None h = refl
none-some (Some x) h = absurd cc

-- another line of the station stands behind it
pub apart-ends : (ls : List LastValue) (place : ℕ) (l d : LastValue) → place < length ls → l ≡ get_or ls place d
    → is_some (last_at l.network l.station (drop (place + 1) ls)) ≡ true → are_apart (drop place ls) ≡ false
apart-ends ls place l d low is found =
    apart-at ls place l d low is
    ∙ ap (λ b. b && are_apart (drop (place + 1) ls)) (some-none (last_at l.network l.station (drop (place + 1) ls)) found)

-- none does
pub apart-more : (ls : List LastValue) (place : ℕ) (l d : LastValue) → place < length ls → l ≡ get_or ls place d
    → is_some (last_at l.network l.station (drop (place + 1) ls)) ≡ false
    → are_apart (drop place ls) ≡ are_apart (drop (place + 1) ls)
apart-more ls place l d low is none =
    apart-at ls place l d low is
    ∙ ap (λ b. b && are_apart (drop (place + 1) ls)) (none-some (last_at l.network l.station (drop (place + 1) ls)) none)
