-- Pieces of one size, a call after the other.
use Rattle.std.proofs.Common.{◌≡◌, ℕ, suc, ◌+◌, ◌<◌, ◌≤◌, List, [], ◌∷◌, ◌++◌, length, map, take, drop}
use Rattle.std.proofs.Common.{Option, Some, None, sym, ap, append_assoc, subst, ◌∙◌, arith, length-append}
use Rattle.std.specs.List.{All, concat}
use Rattle.std.proofs.lemmas.List.{append-nil, take_at, drop_at}
use Rattle.ports.specs.Calls.{Call, Tells, whole_write}

-- no call was made
pub tells_none : (a : Option (List Call)) → Tells a a []
tells_none None = tt
tells_none (Some calls) = sym (append-nil calls)

-- calls were made, and then others
tells_on : (a b c : Option (List Call)) (xs ys : List Call) → Tells a b xs → Tells b c ys → Tells a c (xs ++ ys)
tells_on a b None xs ys first second = tt
tells_on a None (Some c) xs ys first second = absurd second
tells_on None (Some b) (Some c) xs ys first second = absurd first
tells_on (Some a) (Some b) (Some c) xs ys first second =
    second ∙ ap (λ l. l ++ ys) first ∙ append_assoc a xs ys

abbrev AreOf : ℕ → List (List ℕ) → Type 0
AreOf size pieces = All (λ p. length p ≡ size) pieces

-- too few bytes for a piece are none
pub no_piece : (port size : ℕ) (a : Option (List Call)) (bytes : List ℕ) (pieces : List (List ℕ))
    → bytes ≡ concat pieces
    → AreOf size pieces → length bytes < size → Tells a a (map (whole_write port) pieces)
no_piece port size a bytes [] is are short = tells_none a
no_piece port size a bytes (p ∷ ps) is are short =
    let long : length bytes ≡ length p + length (concat ps) = ap length is ∙ length-append p (concat ps) in
    let whole : length p ≡ size = are 0 [] (omega arith) in
    absurd (omega (arith, long, whole, short))

-- the first piece was taken, and then the others
pub more_pieces : (port size : ℕ) (a b c : Option (List Call)) (bytes front back : List ℕ) (pieces : List (List ℕ))
    → 0 < size → size ≤ length bytes → front ≡ take size bytes → back ≡ drop size bytes
    → Tells a b (whole_write port front ∷ [])
    → ((rest : List (List ℕ)) → back ≡ concat rest → AreOf size rest → Tells b c (map (whole_write port) rest))
    → bytes ≡ concat pieces → AreOf size pieces → Tells a c (map (whole_write port) pieces)
more_pieces port size a b c bytes front back [] some long first others one rest is are =
    let none : length bytes ≡ 0 = ap length is in
    absurd (omega (arith, none, some, long))
more_pieces port size a b c bytes front back (p ∷ ps) some long first others one rest is are =
    let whole : length p ≡ size = are 0 [] (omega arith) in
    let here : front ≡ p = first ∙ ap (take size) is ∙ take_at p (concat ps) size whole in
    let there : back ≡ concat ps = others ∙ ap (drop size) is ∙ drop_at p (concat ps) size whole in
    let later : AreOf size ps = λ k d inside. are (suc k) d (omega (arith, inside)) in
    subst (λ l. Tells a c (whole_write port l ∷ map (whole_write port) ps)) here
    (tells_on a b c (whole_write port front ∷ []) (map (whole_write port) ps) one (rest ps there later))
