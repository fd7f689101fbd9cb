-- What several requests have not looked at, one after the other.
use Rattle.std.proofs.Common.{◌≡◌, ℕ, ◌+◌, ◌-◌, ◌^◌, ◌<◌, ◌≤◌, zero, suc, List, [], ◌∷◌, length, drop, get_or}
use Rattle.std.proofs.Common.{refl, sym, ap, ap₂, ◌∙◌, arith, add-one, drop-cons}
use Rattle.std.specs.Prelude.{min}
use Rattle.session_state.specs.declared.choices.Entry.{Entry}
use Rattle.station_ring.specs.HeldRecords.{RingsValue}
use Rattle.server_watch.specs.Watching.{behind_from, lag}

-- one request more
pub behind_more : (all : ℕ) (rings : RingsValue) (es : List Entry) (sum i : ℕ) (e : Entry)
    → all ≡ behind_from sum rings (drop i es) → i < length es → e ≡ get_or es i e
    → all ≡ behind_from (min (sum + lag rings e) (2 ^ 64 - 1)) rings (drop (i + 1) es)
behind_more all rings es sum i e so_far lt is =
    so_far ∙ ap (λ xs. behind_from sum rings xs)
    (drop-cons es i e lt ∙ ap₂ (λ x n. x ∷ drop n es) (sym is) (sym (add-one i)))

drop_past : (es : List Entry) (k : ℕ) → length es ≤ k → drop k es ≡ []
drop_past [] zero past = refl
drop_past (e ∷ es) zero past = absurd (omega (arith, past))
drop_past [] (suc k) past = refl
drop_past (e ∷ es) (suc k) past = drop_past es k (omega (arith, past))

-- all of them
pub behind_all : (all : ℕ) (rings : RingsValue) (es : List Entry) (sum i : ℕ)
    → all ≡ behind_from sum rings (drop i es) → length es ≤ i → sum ≡ all
behind_all all rings es sum i so_far past = sym (so_far ∙ ap (λ xs. behind_from sum rings xs) (drop_past es i past))

pub ruleset behind_lemmas = (behind_more, behind_all)
