-- The lines of a text, one after the other, and the events so far.
use Rattle.std.proofs.Common.{◌≡◌, ℕ, ◌+◌, ◌<◌, List, [], ◌∷◌, length, drop, get_or, ap, ◌∙◌, append-nil, drop-cons}
use Rattle.std.proofs.Common.{add-one, ◌++◌, take, IsSome, refl, sym, subst, append_assoc}
use Rattle.std.proofs.lemmas.List.{take_more}
use Rattle.std.specs.Prelude.{Option, Some, None}
use Rattle.protocol.specs.World.{Event}
use Rattle.event_script.specs.Script.{events_of_lines}
use Rattle.event_script.specs.ScriptValues.{with_events}

-- what is left of the lines
abbrev pub left : List Event → List (List ℕ) → ℕ → Option (List Event)
left es ls k = with_events es (events_of_lines (drop k ls))

-- the line at hand
at_hand : (ls : List (List ℕ)) (k : ℕ) (l : List ℕ) → k < length ls → l ≡ get_or ls k l
    → drop k ls ≡ l ∷ drop (k + 1) ls
at_hand ls k l h e = rw (drop-cons ls k l h, ← e, add-one k)

-- it is passed, or its event joins the others
pub left-more : (es fs : List Event) (ls : List (List ℕ)) (k : ℕ) (l : List ℕ) → k < length ls → l ≡ get_or ls k l
    → with_events es (events_of_lines (l ∷ drop (k + 1) ls)) ≡ with_events fs (events_of_lines (drop (k + 1) ls))
    → left es ls k ≡ left fs ls (k + 1)
left-more es fs ls k l h e more = ap (λ ms. with_events es (events_of_lines ms)) (at_hand ls k l h e) ∙ more

-- it is no event
pub left-fault : (es : List Event) (ls : List (List ℕ)) (k : ℕ) (l : List ℕ) → k < length ls → l ≡ get_or ls k l
    → events_of_lines (l ∷ drop (k + 1) ls) ≡ None → left es ls k ≡ None
left-fault es ls k l h e none = ap (λ ms. with_events es (events_of_lines ms)) (at_hand ls k l h e)
    ∙ ap (with_events es) none

-- no line is left
pub left-end : (es : List Event) (ls : List (List ℕ)) (k : ℕ) → drop k ls ≡ [] → left es ls k ≡ Some es
left-end es ls k e = ap (λ ms. with_events es (events_of_lines ms)) e ∙ ap Some (append-nil es)

-- the lines before one are read, whatever follows them
abbrev pub AreRead : List Event → List (List ℕ) → ℕ → Type 0
AreRead es ls k = (ms : List (List ℕ)) → events_of_lines (take k ls ++ ms) ≡ with_events es (events_of_lines ms)

-- the lines up to the one at hand, and others
up_to : (ls ms : List (List ℕ)) (k : ℕ) (l : List ℕ) → k < length ls → l ≡ get_or ls k l
    → take (k + 1) ls ++ ms ≡ take k ls ++ l ∷ ms
up_to ls ms k l h e =
    ap (λ xs. xs ++ ms) (take_more ls k l h) ∙ append_assoc (take k ls) (get_or ls k l ∷ []) ms
    ∙ ap (λ x. take k ls ++ x ∷ ms) (sym e)

-- one more is read
pub read-more : (es fs : List Event) (ls : List (List ℕ)) (k : ℕ) (l : List ℕ) → k < length ls → l ≡ get_or ls k l
    → ((ms : List (List ℕ)) → with_events es (events_of_lines (l ∷ ms)) ≡ with_events fs (events_of_lines ms))
    → AreRead es ls k → AreRead fs ls (k + 1)
read-more es fs ls k l h e more read ms = ap events_of_lines (up_to ls ms k l h e) ∙ read (l ∷ ms) ∙ more ms

-- those before the one at hand are a script
pub read-before : (es : List Event) (ls : List (List ℕ)) (k : ℕ) → AreRead es ls k
    → IsSome (events_of_lines (take k ls))
read-before es ls k read =
    subst IsSome (sym (ap events_of_lines (sym (append-nil (take k ls))) ∙ read [])) refl

-- and with it they are none
pub read-fails : (es : List Event) (ls : List (List ℕ)) (k : ℕ) (l : List ℕ) → k < length ls → l ≡ get_or ls k l
    → AreRead es ls k → events_of_lines (l ∷ []) ≡ None → events_of_lines (take (k + 1) ls) ≡ None
read-fails es ls k l h e read none =
    ap events_of_lines (sym (append-nil (take (k + 1) ls)) ∙ up_to ls [] k l h e) ∙ read (l ∷ [])
    ∙ ap (with_events es) none
