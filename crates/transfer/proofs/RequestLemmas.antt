-- The requests among named stations, one after the other.
use Rattle.std.proofs.Common.{◌≡◌, ℕ, ◌+◌, ◌-◌, ◌<◌, zero, suc, true, false, List, [], ◌∷◌, length, map, drop}
use Rattle.std.proofs.Common.{drop-cons, add-one, get_or, slice_get, Some, refl, sym, ap, ◌∙◌, arith}
use Rattle.std.specs.Prelude.{is_some, if◌then◌else◌}
use Rattle.session_state.specs.declared.choices.Entry.{Entry}
use Rattle.session_state.specs.NamedValues.{Choice, entry_of}
use Rattle.transfer.specs.Cursors.{entry_cursors, request_cursors}

-- the cursors of named stations by their entries
pub cursors-entries : (cs : List Choice) → request_cursors cs ≡ entry_cursors (map entry_of cs)
cursors-entries [] = refl
cursors-entries (c ∷ cs) = ap (λ xs. if is_some c.action then c.cursor.ring_place ∷ xs else xs) (cursors-entries cs)

-- an entry of the list, and those after it
left-at : (es : List Entry) (i : ℕ) (e : Entry) → i < length es → e ≡ get_or es i e → drop i es ≡ e ∷ drop (i + 1) es
left-at es i e low is = drop-cons es i e low ∙ ap (λ y. y ∷ drop (suc i) es) (sym is)
    ∙ ap (λ n. e ∷ drop n es) (sym (add-one i))

-- the rest, by the next named station
pub cursors-from : (es : List Entry) (i : ℕ) (e : Entry) → i < length es → e ≡ get_or es i e
    → entry_cursors (drop i es)
    ≡ (if is_some e.action then e.cursor.ring_place ∷ entry_cursors (drop (i + 1) es)
    else entry_cursors (drop (i + 1) es))
cursors-from es i e low is = ap entry_cursors (left-at es i e low is)

-- It is a request.
pub cursors-request : (es : List Entry) (i : ℕ) (e : Entry) → i < length es → e ≡ get_or es i e
    → true ≡ is_some e.action → entry_cursors (drop i es) ≡ e.cursor.ring_place ∷ entry_cursors (drop (i + 1) es)
cursors-request es i e low is asked = cursors-from es i e low is
    ∙ ap (λ b. if b then e.cursor.ring_place ∷ entry_cursors (drop (i + 1) es) else entry_cursors (drop (i + 1) es))
    (sym asked)

-- It is none.
pub cursors-other : (es : List Entry) (i : ℕ) (e : Entry) → i < length es → e ≡ get_or es i e → false ≡ is_some e.action
    → entry_cursors (drop i es) ≡ entry_cursors (drop (i + 1) es)
cursors-other es i e low is asked = cursors-from es i e low is
    ∙ ap (λ b. if b then e.cursor.ring_place ∷ entry_cursors (drop (i + 1) es) else entry_cursors (drop (i + 1) es))
    (sym asked)

-- The item that is looked for, past a first one.
pub get-past : (x : ℕ) (xs : List ℕ) (left : ℕ) → left < length (x ∷ xs) → zero < left
    → (slice_get xs (left - 1) ≡ slice_get (x ∷ xs) left) × (left - 1 < length xs)
get-past x xs zero low some = absurd (omega arith)
get-past x xs (suc left) low some =
    let e : suc left - 1 ≡ left = omega arith in
    (ap (slice_get xs) e, omega arith)

pub get-first : (x : ℕ) (xs : List ℕ) (left : ℕ) → left ≡ 0 → Some x ≡ slice_get (x ∷ xs) left
get-first x xs zero e = refl
get-first x xs (suc left) e = absurd (omega (arith, e))
