-- Visits that are noted one after the other.
use Rattle.std.proofs.Common.{◌≡◌, List, [], ◌∷◌, ◌++◌, Option, Some, None, sym, ap, ◌∙◌, append_assoc, subst}
use Rattle.std.proofs.lemmas.List.{append-nil}
use Rattle.ports_logged.specs.declared.visit.Visit.{Visit}
use Rattle.ports_logged.specs.Visits.{Notes}

-- nothing was noted
pub notes-none : (v : Option (List Visit)) → Notes v v []
notes-none None = tt
notes-none (Some xs) = sym (append-nil xs)

-- these, and then those
pub notes-append : (a b c : Option (List Visit)) (xs ys : List Visit) → Notes a b xs → Notes b c ys
    → Notes a c (xs ++ ys)
notes-append a b None xs ys first then = tt
notes-append (Some a) (Some b) (Some c) xs ys first then = then ∙ (ap (λ l. l ++ ys) first ∙ append_assoc a xs ys)
notes-append None (Some b) (Some c) xs ys first then = absurd first
notes-append (Some a) None (Some c) xs ys first then = absurd then
notes-append None None (Some c) xs ys first then = absurd then

-- one more of them
pub notes-more : (a b c : Option (List Visit)) (xs : List Visit) (x : Visit) (ys : List Visit) → Notes a b xs
    → Notes b c (x ∷ []) → ys ≡ xs ++ x ∷ [] → Notes a c ys
notes-more a b c xs x ys first then is = subst (λ l. Notes a c l) (sym is) (notes-append a b c xs (x ∷ []) first then)
