-- What a key of a TOML table holds, where it has to be there and where it may be missing.
use Rattle.std.specs.Prelude.{ℕ, ◌&&◌, nat_le, ℤ, pos, negsuc, List, [], ◌∷◌, Option, Some, None, Result, Ok, Err}
use Rattle.std.specs.Prelude.{option_map}
use Rattle.toml.specs.Data.{Data, Items, no_items, item, Members, get_member, as_str, as_integer, as_array, as_table}
use Rattle.catalog.specs.Steps.{◌>>=◌, of_kind, within_if}
use Rattle.catalog.specs.declared.fault.ConfigFault.{ConfigFault}
use Rattle.catalog.specs.declared.fault.ConfigFault.TheVariants.{Missing, Limit}

-- the elements of an array
abbrev pub elements : Items → List Data
elements no_items = []
elements (item d ds) = d ∷ elements ds

-- the text that a value is
abbrev pub text_in : Data → Result (List ℕ) ConfigFault
text_in d = of_kind (as_str d)

-- the whole number that it is
abbrev pub number_in : Data → Result ℤ ConfigFault
number_in d = of_kind (as_integer d)

-- the elements of the array that it is
abbrev pub elements_in : Data → Result (List Data) ConfigFault
elements_in d = of_kind (option_map elements (as_array d))

-- the table that it is
abbrev pub table_in : Data → Result Members ConfigFault
table_in d = of_kind (as_table d)

-- a value that has to be there
abbrev pub required : {A : Type 0} → (Data → Result A ConfigFault) → Option Data → Result A ConfigFault
required kind None = Err Missing
required kind (Some d) = kind d

-- a value that may be missing
abbrev pub optional : {A : Type 0} → (Data → Result A ConfigFault) → Option Data → Result (Option A) ConfigFault
optional kind None = Ok None
optional kind (Some d) = kind d >>= (λ x. Ok (Some x))

-- the text at a key
unfoldable pub text_at : List ℕ → Members → Result (List ℕ) ConfigFault
text_at key members = required text_in (get_member key members)

-- the text at a key that may be missing
unfoldable pub text_if_any : List ℕ → Members → Result (Option (List ℕ)) ConfigFault
text_if_any key members = optional text_in (get_member key members)

-- the whole number at a key
unfoldable pub number_at : List ℕ → Members → Result ℤ ConfigFault
number_at key members = required number_in (get_member key members)

-- the whole number at a key that may be missing
unfoldable pub number_if_any : List ℕ → Members → Result (Option ℤ) ConfigFault
number_if_any key members = optional number_in (get_member key members)

-- the elements of the array at a key
unfoldable pub elements_at : List ℕ → Members → Result (List Data) ConfigFault
elements_at key members = required elements_in (get_member key members)

-- a whole number from 1 to the greatest allowed
abbrev pub number_up_to : ℕ → ℤ → Result ℕ ConfigFault
number_up_to most (pos n) = within_if (nat_le 1 n && nat_le n most) n
number_up_to most (negsuc n) = Err Limit
