-- Stations that are open, one after the other, and the networks of entries.
use Rattle.std.proofs.Common.{◌≡◌, ℕ, ◌+◌, ◌<◌, ◌≤◌, zero, suc, true, false, List, [], ◌∷◌, ◌++◌, length, drop}
use Rattle.std.proofs.Common.{map, get_or, refl, append-nil, append_assoc, sym, ap, ap₂, ◌∙◌, arith, add-one, drop-cons}
use Rattle.std.proofs.Common.{Some, None, if◌then◌else◌}
use Rattle.std.specs.Result.{result_ok}
use Rattle.toml.specs.Data.{Members}
use Rattle.protocol.specs.Access.{Token}
use Rattle.protocol.specs.Catalog.{Entry}
use Rattle.access_list.specs.Tokens.{token_of}
use Rattle.config_explained.specs.Lists.{meant_at}
use Rattle.config_explained.specs.Opened.{is_open, networks_in, onto, opened_from}

-- ---- stations

-- how many of the stations from a place on are open
abbrev pub opened_left : Members → List Entry → ℕ → ℕ
opened_left keys es place = opened_from keys place (map (λ e. e.station) (drop place es))

drop_at : (es : List Entry) (i : ℕ) (e : Entry) → i < length es → e ≡ get_or es i e → drop i es ≡ e ∷ drop (i + 1) es
drop_at es i e lt is = drop-cons es i e lt ∙ ap₂ (λ x n. x ∷ drop n es) (sym is) (sym (add-one i))

drop_past : (es : List Entry) (k : ℕ) → length es ≤ k → drop k es ≡ []
drop_past [] zero past = refl
drop_past (e ∷ es) zero past = absurd (omega (arith, past))
drop_past [] (suc k) past = refl
drop_past (e ∷ es) (suc k) past = drop_past es k (omega (arith, past))

left_by : (keys : Members) (es : List Entry) (place : ℕ) (e : Entry) → place < length es → e ≡ get_or es place e
    → opened_left keys es place
    ≡ (if is_open (meant_at keys place) then 1 + opened_left keys es (place + 1) else opened_left keys es (place + 1))
left_by keys es place e lt is =
    ap (λ xs. opened_from keys place (map (λ x. x.station) xs)) (drop_at es place e lt is)

-- one that is open
pub open_more : (keys : Members) (es : List Entry) (all count place : ℕ) (e : Entry)
    → all ≡ count + opened_left keys es place → place < length es → e ≡ get_or es place e
    → is_open (meant_at keys place) ≡ true → all ≡ count + 1 + opened_left keys es (place + 1)
open_more keys es all count place e so_far lt is opens =
    let left : opened_left keys es place ≡ 1 + opened_left keys es (place + 1) = rw opens at (left_by keys es place e lt is) in
    omega (arith, so_far, left)

-- one that is not
pub open_not : (keys : Members) (es : List Entry) (all count place : ℕ) (e : Entry)
    → all ≡ count + opened_left keys es place → place < length es → e ≡ get_or es place e
    → is_open (meant_at keys place) ≡ false → all ≡ count + opened_left keys es (place + 1)
open_not keys es all count place e so_far lt is shut =
    let left : opened_left keys es place ≡ opened_left keys es (place + 1) = rw shut at (left_by keys es place e lt is) in
    omega (arith, so_far, left)

-- all of them
pub open_all : (keys : Members) (es : List Entry) (all count place : ℕ) → all ≡ count + opened_left keys es place
    → length es ≤ place → count ≡ all
open_all keys es all count place so_far past =
    let none : opened_left keys es place ≡ 0 =
    ap (λ xs. opened_from keys place (map (λ x. x.station) xs)) (drop_past es place past) in
    omega (arith, so_far, none)

pub ruleset opened_lemmas = (open_more, open_not, open_all)

-- ---- networks

-- the networks of what is left of the pieces
abbrev pub networks_left : List (List ℕ) → ℕ → List Token
networks_left ps k = networks_in (drop k ps)

at_hand : (ps : List (List ℕ)) (k : ℕ) (w : List ℕ) → k < length ps → w ≡ get_or ps k w
    → drop k ps ≡ w ∷ drop (k + 1) ps
at_hand ps k w h e = rw (drop-cons ps k w h, ← e, add-one k)

-- one more
pub network_more : (ps : List (List ℕ)) (k : ℕ) (w : List ℕ) (n : Token) (so_far all : List Token) → k < length ps
    → w ≡ get_or ps k w → result_ok (token_of w) ≡ Some n → all ≡ so_far ++ networks_left ps k
    → all ≡ (so_far ++ n ∷ []) ++ networks_left ps (k + 1)
network_more ps k w n so_far all h e is before =
    before ∙ ap (λ qs. so_far ++ networks_in qs) (at_hand ps k w h e)
    ∙ ap (λ o. so_far ++ onto o (networks_left ps (k + 1))) is
    ∙ sym (append_assoc so_far (n ∷ []) (networks_left ps (k + 1)))

-- an entry that is not one
pub network_not : (ps : List (List ℕ)) (k : ℕ) (w : List ℕ) (so_far all : List Token) → k < length ps
    → w ≡ get_or ps k w → result_ok (token_of w) ≡ None → all ≡ so_far ++ networks_left ps k
    → all ≡ so_far ++ networks_left ps (k + 1)
network_not ps k w so_far all h e is before =
    before ∙ ap (λ qs. so_far ++ networks_in qs) (at_hand ps k w h e)
    ∙ ap (λ o. so_far ++ onto o (networks_left ps (k + 1))) is

-- no piece is left
pub network_end : (ps : List (List ℕ)) (k : ℕ) (so_far all : List Token) → drop k ps ≡ []
    → all ≡ so_far ++ networks_left ps k → so_far ≡ all
network_end ps k so_far all none before =
    sym (before ∙ ap (λ qs. so_far ++ networks_in qs) none ∙ append-nil so_far)
