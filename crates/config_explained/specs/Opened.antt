-- How many stations everybody may use, by the texts of a configuration's access lists.
use Rattle.std.specs.Prelude.{ℕ, ◌+◌, ◌==◌, Bool, true, if◌then◌else◌, List, [], ◌∷◌, Option, Some, None}
use Rattle.std.specs.List.{list_any}
use Rattle.std.specs.Result.{result_ok}
use Rattle.toml.specs.Data.{Members}
use Rattle.protocol.specs.Access.{Token}
use Rattle.protocol.specs.Catalog.{Station}
use Rattle.protocol.specs.Pieces.{split}
use Rattle.access_list.specs.Tokens.{is_separator, token_of}
use Rattle.config_explained.specs.Lists.{meant_at}

-- a network before others, if there is one
abbrev pub onto : Option Token → List Token → List Token
onto None others = others
onto (Some network) others = network ∷ others

-- the networks that texts spell
abbrev pub networks_in : List (List ℕ) → List Token
networks_in [] = []
networks_in (p ∷ ps) = onto (result_ok (token_of p)) (networks_in ps)

-- the networks of the entries of a list
abbrev pub networks_of : List ℕ → List Token
networks_of list = networks_in (split is_separator list)

-- a network of all addresses
abbrev pub is_whole : Token → Bool
is_whole n = n.mask == 0

-- no list holds, or one with an entry that admits everybody
abbrev pub is_open : Option (List ℕ) → Bool
is_open None = true
is_open (Some list) = list_any is_whole (networks_of list)

-- how many of the stations from a place on are open
abbrev pub opened_from : Members → ℕ → List Station → ℕ
opened_from keys place [] = 0
opened_from keys place (s ∷ ss) =
    if is_open (meant_at keys place) then 1 + opened_from keys (place + 1) ss else opened_from keys (place + 1) ss

-- how many of all
abbrev pub opened_count : Members → List Station → ℕ
opened_count keys ss = opened_from keys 0 ss
