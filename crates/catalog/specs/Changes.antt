-- Which stations two configurations open to other addresses.
-- This project's own.
use Rattle.std.specs.Prelude.{ℕ, zero, suc, Bool, true, false, not, ◌&&◌, ◌==◌, nat_le, if◌then◌else◌, List, [], ◌∷◌}
use Rattle.std.specs.Prelude.{◌++◌, length, Option, Some, None, option_map, unwrap_or, slice_get}
use Rattle.std.specs.List.{list_all}
use Rattle.protocol.specs.Access.{Token}
use Rattle.protocol.specs.Catalog.{Config, Entry, sees}

-- ---- lists

-- the same address and the same mask
abbrev pub is_same_token : Token → Token → Bool
is_same_token t u = (t.address == u.address) && (t.mask == u.mask)

-- the same tokens in the same order
abbrev pub are_same_tokens : List Token → List Token → Bool
are_same_tokens [] [] = true
are_same_tokens (t ∷ ts) (u ∷ us) = is_same_token t u && are_same_tokens ts us
are_same_tokens _ _ = false

-- the same list, or none in either
abbrev pub is_same_list : Option (List Token) → Option (List Token) → Bool
is_same_list None None = true
is_same_list (Some ts) (Some us) = are_same_tokens ts us
is_same_list _ _ = false

-- ---- places

-- both stations have the same list of their own, or neither has one
abbrev pub has_same_list_in : Option Entry → Option Entry → Bool
has_same_list_in (Some e) (Some f) = is_same_list e.access f.access
has_same_list_in _ _ = false

-- the station at a place has another one
abbrev pub is_changed_at : List Entry → List Entry → ℕ → Bool
is_changed_at es fs place = not (has_same_list_in (slice_get es place) (slice_get fs place))

-- the places below a count of which a test says yes, rising
abbrev pub places_below : (ℕ → Bool) → ℕ → List ℕ
places_below test zero = []
places_below test (suc place) = if test place then places_below test place ++ place ∷ [] else places_below test place

-- the places of the stations that have another list of their own
abbrev pub changed_places : List Entry → List Entry → List ℕ
changed_places es fs = places_below (is_changed_at es fs) (length es)

-- the places, if there are at most 256
abbrev pub few : List ℕ → Option (List ℕ)
few places = if nat_le (length places) 256 then Some places else None

-- ---- addresses

-- two tests say the same
abbrev pub is_same_answer : Bool → Bool → Bool
is_same_answer true b = b
is_same_answer false b = not b

-- whether an address may use the station at a place; nobody may where there is none
abbrev pub sees_at : Config → ℕ → ℕ → Bool
sees_at config a place =
    unwrap_or (option_map (λ e. sees e.access config.access a) (slice_get config.entries place)) false

-- Both configurations answer the address the same at a place.
abbrev pub is_alike_at : Config → Config → ℕ → ℕ → Bool
is_alike_at old new a place = is_same_answer (sees_at old a place) (sees_at new a place)

-- They do so at these places, and at any station that has no list of its own.
abbrev pub is_alike : Config → Config → List ℕ → ℕ → Bool
is_alike old new places a =
    is_same_answer (sees None old.access a) (sees None new.access a) && list_all (is_alike_at old new a) places
