-- What a value at the end of a reading says of the values before it.
use Rattle.std.proofs.Common.{◌≡◌, Option, Some, None, option_map, refl}
use Rattle.std.specs.Prelude.{option_and_then}

pub and_then_some : {A B : Type 0} (f : A → Option B) (o : Option A) (b : B) → option_and_then f o ≡ Some b
    → (a : A) × (o ≡ Some a) × (f a ≡ Some b)
and_then_some f None b e = absurd cc
and_then_some f (Some a) b e = (a, refl, e)

pub map_some : {A B : Type 0} (f : A → B) (o : Option A) (b : B) → option_map f o ≡ Some b
    → (a : A) × (o ≡ Some a) × (f a ≡ b)
map_some f None b e = absurd cc
map_some f (Some a) b e = (a, refl, cc)
