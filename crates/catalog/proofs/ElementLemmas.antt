-- The elements of an array, as a list.
use Rattle.std.proofs.Common.{◌≡◌, Bool, List, [], ◌∷◌, map, refl, ap, arith}
use Rattle.std.proofs.lemmas.List.{length-map}
use Rattle.std.specs.List.{list_all}
use Rattle.toml.specs.Data.{Data}
use Rattle.toml.specs.View.{items_of}
use Rattle.catalog.specs.Keys.{elements}

-- the elements of items are the list that made them
pub elements_items : (ds : List Data) → elements (items_of ds) ≡ ds
elements_items [] = refl
elements_items (d ∷ ds) = ap (λ rest. d ∷ rest) (elements_items ds)

-- a test of each element behind a map
pub list_all_map : {A B : Type 0} (f : A → B) (p : B → Bool) (xs : List A)
    → list_all p (map f xs) ≡ list_all (λ x. p (f x)) xs
list_all_map f p [] = refl
list_all_map f p (x ∷ xs) = grind (arith, list_all_map f p xs)

pub ruleset values_lemmas = (list_all_map, length-map)
