-- A list that the last station alone has.
use Rattle.std.proofs.Common.{◌≡◌, ℕ, ◌<◌, ◌∙◌, zero, suc, true, false, Bool, if◌then◌else◌, refl, ap, arith, sym}
use Rattle.std.proofs.Common.{⊎_elim}
use Rattle.std.proofs.lemmas.Bool.{cases_lt}
use Rattle.std.proofs.Common.{List, Option, ◌-◌, length, map, option_map, slice_get}
use Rattle.std.proofs.lemmas.List.{length-map}
use Rattle.std.proofs.lemmas.Option.{slice_get-map}
use Rattle.toml.specs.Data.{Members}
use Rattle.protocol.specs.Catalog.{Station}
use Rattle.config_explained.specs.Remarks.{alone_line, has_list, last_alone_line, none_has_list}

neither : (b rest : Bool) → false ≡ rest → false ≡ (if b then false else rest)
neither true rest e = refl
neither false rest e = e

-- One of the first stations has a list.
pub one_has_list : (keys : Members) (count place : ℕ) → place < count → has_list keys place ≡ true
    → false ≡ none_has_list keys count
one_has_list keys zero place low has = absurd (omega (arith, low))
one_has_list keys (suc count) place low has =
    ⊎_elim
    (λ less. neither (has_list keys count) (none_has_list keys count) (one_has_list keys count place less has))
    (λ most. let same : place ≡ count = omega (arith, low, most) in
    sym (ap (λ b. if b then false else none_has_list keys count) (sym (ap (has_list keys) same) ∙ has)))
    (cases_lt place count)

-- One more of them has none.
pub none_has_more : (keys : Members) (count : ℕ) → has_list keys count ≡ false → none_has_list keys count ≡ true
    → none_has_list keys (suc count) ≡ true
none_has_more keys count none so_far = ap (λ b. if b then false else none_has_list keys count) none ∙ so_far

-- The last of some stations is that of what has stations.
pub last_line_is : {A : Type 0} (keys : Members) (f : A → Station) (es : List A) (o : Option A)
    → o ≡ slice_get es (length es - 1)
    → alone_line keys (length es - 1) (option_map f o) ≡ last_alone_line keys (map f es)
last_line_is keys f es o is =
    ap (λ x. alone_line keys (length es - 1) (option_map f x)) is
    ∙ ap (λ n. alone_line keys (n - 1) (option_map f (slice_get es (n - 1)))) (sym (length-map es f))
    ∙ ap (alone_line keys (length (map f es) - 1)) (sym (slice_get-map f es (length (map f es) - 1)))

pub ruleset alone_lemmas = (one_has_list, none_has_more)
