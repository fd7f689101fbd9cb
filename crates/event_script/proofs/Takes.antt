-- The lines of takes, one after the other.
use Rattle.std.proofs.Common.{◌≡◌, ℕ, ◌+◌, ◌<◌, List, ◌∷◌, ◌++◌, map, length, drop, get_or, sym, ap, ◌∙◌, append_assoc}
use Rattle.std.proofs.Common.{drop-cons, add-one}
use Rattle.server_core.specs.Runs.{handed_value}
use Rattle.server_core.specs.declared.events.Handed.{Handed}
use Rattle.event_script.specs.Output.{handed_line, output_of}

-- the element at hand
pub at_hand : {A : Type 0} (xs : List A) (k : ℕ) (x : A) → k < length xs → x ≡ get_or xs k x
    → drop k xs ≡ x ∷ drop (k + 1) xs
at_hand xs k x h e = rw (drop-cons xs k x h, ← e, add-one k)

-- the line of the take at hand joins the lines before it
pub output-more : (takes : List Handed) (k : ℕ) (take : Handed) (text text' : List ℕ) → k < length takes
    → take ≡ get_or takes k take
    → text' ≡ text ++ handed_line (handed_value take)
    → text ++ output_of (map handed_value (drop k takes)) ≡ text' ++ output_of (map handed_value (drop (k + 1) takes))
output-more takes k take text text' h e more =
    let behind = output_of (map handed_value (drop (k + 1) takes)) in
    ap (λ ts. text ++ output_of (map handed_value ts)) (at_hand takes k take h e)
    ∙ sym (append_assoc text (handed_line (handed_value take)) behind)
    ∙ ap (λ t. t ++ behind) (sym more)
