-- Lengths of files that differ.
use Rattle.std.proofs.Common.{◌≡◌, ◌∙◌, ◌<◌, ◌+◌, ◌-◌, ◌&&◌, Bool, true, false, ℕ}
use Rattle.std.proofs.Common.{List, [], ◌∷◌, ap, drop, get_or, length}
use Rattle.std.proofs.Common.{arith, cond, inl, inr, not, refl, suc, sym, zero, ◌||◌}
use Rattle.std.proofs.lemmas.Bool.{cases_Bool}
use Rattle.std.proofs.lemmas.List.{at_drop_more}
use Rattle.std.specs.List.{list_any}
use Rattle.std.specs.Str.{bytes_eq}
use Rattle.continued_files.specs.Lengths.{LengthValue}
use Rattle.reader_state.specs.States.{are_of_others, is_of_other}

-- Some length of these is of a file of that name.
abbrev pub are_named : List LengthValue → List ℕ → Bool
are_named fs name = list_any (λ f. bytes_eq f.name name) fs

and-right : (a b : Bool) → (a && b) ≡ true → b ≡ true
and-right true b e = e
and-right false b e = absurd cc

-- those from a place on are, if all are
others-drop : (fs : List LengthValue) (at : ℕ) → are_of_others fs ≡ true → are_of_others (drop at fs) ≡ true
others-drop [] zero h = h
others-drop [] (suc at) h = h
others-drop (f ∷ fs) zero h = h
others-drop (f ∷ fs) (suc at) h =
    others-drop fs at (and-right (is_of_other fs f) (are_of_others fs) h)

not-true : (b : Bool) → (b ≡ true → b ≡ false) → b ≡ false
not-true true h = h refl
not-true false h = refl

others-at : (fs : List LengthValue) (at : ℕ) (f d : LengthValue) → at < length fs → f ≡ get_or fs at d
    → are_of_others (drop at fs) ≡ (is_of_other (drop (at + 1) fs) f && are_of_others (drop (at + 1) fs))
others-at fs at f d low is =
    at_drop_more are_of_others fs at d low
    ∙ ap (λ (x : LengthValue). is_of_other (drop (at + 1) fs) x && are_of_others (drop (at + 1) fs)) (sym is)

-- another length of the file stands behind it
pub others-end : (fs : List LengthValue) (at : ℕ) (f d : LengthValue) → at < length fs → f ≡ get_or fs at d
    → are_named (drop (at + 1) fs) f.name ≡ true → false ≡ are_of_others fs
others-end fs at f d low is found =
    let here : are_of_others (drop at fs) ≡ false =
    others-at fs at f d low is
    ∙ ap (λ b. not b && are_of_others (drop (at + 1) fs)) found in
    sym (not-true (are_of_others fs) (λ all. absurd (let bad : true ≡ false = sym (others-drop fs at all) ∙ here in cc)))

-- none does
pub others-more : (fs : List LengthValue) (at : ℕ) (f d : LengthValue) → at < length fs → f ≡ get_or fs at d
    → are_named (drop (at + 1) fs) f.name ≡ false → are_of_others (drop (at + 1) fs) ≡ true
    → are_of_others (drop at fs) ≡ true
others-more fs at f d low is none rest =
    others-at fs at f d low is
    ∙ ap (λ b. not b && are_of_others (drop (at + 1) fs)) none ∙ rest

named-cons : (f : LengthValue) (fs : List LengthValue) (name : List ℕ)
    → are_named (f ∷ fs) name ≡ cond (bytes_eq f.name name) true (are_named fs name)
named-cons f fs name =
    elim (cases_Bool (bytes_eq f.name name)) [
      | inl is ↦ ap (λ b. b || are_named fs name) is ∙ sym (ap (λ b. cond b true (are_named fs name)) is)
      | inr not_is ↦ ap (λ b. b || are_named fs name) not_is ∙ sym (ap (λ b. cond b true (are_named fs name)) not_is)
    ]

pub named-more : (fs : List LengthValue) (at : ℕ) (f d : LengthValue) (name : List ℕ) → at < length fs
    → f ≡ get_or fs at d
    → are_named (drop at fs) name ≡ cond (bytes_eq f.name name) true (are_named (drop (at + 1) fs) name)
named-more fs at f d name low is =
    at_drop_more (λ l. are_named l name) fs at d low
    ∙ named-cons (get_or fs at d) (drop (at + 1) fs) name
    ∙ ap (λ (x : LengthValue). cond (bytes_eq x.name name) true (are_named (drop (at + 1) fs) name)) (sym is)
