-- All faults of a configuration, one step and one station after the other.
use Rattle.std.proofs.Common.{◌≡◌, ◌∙◌, ℕ, ◌+◌, ◌<◌, ◌≤◌, zero, suc, Bool, List, [], ◌∷◌, ◌++◌, Option, length, drop}
use Rattle.std.proofs.Common.{take, map, flat_map, get_or, refl, sym, ap, ap₂, arith, add-one, append_assoc, append-nil}
use Rattle.std.proofs.Common.{drop-cons, None, Some}
use Rattle.std.specs.Prelude.{◌≢◌, IfErr, IfOk, MatchResult, Result, Err, Ok}
use Rattle.std.specs.Result.{result_err}
use Rattle.std.proofs.lemmas.List.{get_or-map, length-map, take_more}
use Rattle.std.specs.List.{list_any}
use Rattle.toml.specs.Data.{Data, Members}
use Rattle.catalog.specs.Keys.{table_in}
use Rattle.catalog.specs.declared.fault.ConfigFault.{ConfigFault}
use Rattle.catalog.specs.declared.fault.ConfigFault.TheVariants.{OutOfMemory}
use Rattle.config_explained.specs.AllFaults.{FoundFault, value_faults, values_faults}

-- A reading that does what a definition says, or lacks memory, has its fault, as far as it is one of the definition's.
pub fault_told : {T S : Type 0} (r : Result T ConfigFault) (meant : Result S ConfigFault) (value : T → S)
    (fault : Option ConfigFault) → IfOk r (λ v. meant ≡ Ok (value v))
    → IfErr r (λ e. e ≢ OutOfMemory → meant ≡ Err e)
    → MatchResult r (λ _. fault ≡ None) (λ e. (fault ≡ Some e) × (e ≢ OutOfMemory)) → fault ≡ result_err meant
fault_told (Ok v) meant value fault ok err told = told ∙ sym (ap result_err ok)
fault_told (Err e) meant value fault ok err told = told.0 ∙ sym (ap result_err (err told.1))

-- a test of each element behind a map
pub list_any_map : {A B : Type 0} (f : A → B) (p : B → Bool) (xs : List A)
    → list_any p (map f xs) ≡ list_any (λ x. p (f x)) xs
list_any_map f p [] = refl
list_any_map f p (x ∷ xs) = grind (arith, list_any_map f p xs)

drop_at : {A : Type 0} (xs : List A) (i : ℕ) (x : A) → i < length xs → x ≡ get_or xs i x
    → drop i xs ≡ x ∷ drop (i + 1) xs
drop_at xs i x lt is = drop-cons xs i x lt ∙ ap₂ (λ y n. y ∷ drop n xs) (sym is) (sym (add-one i))

drop_past : {A : Type 0} (xs : List A) (k : ℕ) → length xs ≤ k → drop k xs ≡ []
drop_past [] zero past = refl
drop_past (x ∷ xs) zero past = absurd (omega (arith, past))
drop_past [] (suc k) past = refl
drop_past (x ∷ xs) (suc k) past = drop_past xs k (omega (arith, past))

-- ---- the values of stations

-- the faults of the values from a place on
abbrev pub values_left : Option Members → List Data → ℕ → List FoundFault
values_left groups ds place = values_faults groups (take place ds) place (drop place ds)

-- one value more
pub value_more : (groups : Option Members) (ds : List Data) (all so_far : List FoundFault) (place : ℕ) (d : Data)
    → all ≡ so_far ++ values_left groups ds place → place < length ds → d ≡ get_or ds place d
    → all ≡ (so_far ++ value_faults groups (take place ds) place (table_in d)) ++ values_left groups ds (place + 1)
value_more groups ds all so_far place d before lt is =
    before
    ∙ ap (λ xs. so_far ++ values_faults groups (take place ds) place xs) (drop_at ds place d lt is)
    ∙ ap (λ es. so_far ++ (value_faults groups (take place ds) place (table_in d)
    ++ values_faults groups es (place + 1) (drop (place + 1) ds)))
    (sym (take_more ds place d lt ∙ ap (λ x. take place ds ++ x ∷ []) (sym is)))
    ∙ sym (append_assoc so_far (value_faults groups (take place ds) place (table_in d)) (values_left groups ds (place + 1)))

-- all of them
pub values_all : (groups : Option Members) (ds : List Data) (all so_far : List FoundFault) (place : ℕ)
    → all ≡ so_far ++ values_left groups ds place → length ds ≤ place → so_far ≡ all
values_all groups ds all so_far place before past =
    sym (before ∙ ap (λ xs. so_far ++ values_faults groups (take place ds) place xs) (drop_past ds place past)
    ∙ append-nil so_far)
