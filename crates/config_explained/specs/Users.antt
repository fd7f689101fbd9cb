-- Who may use each station, a text each. Seedlink's `access`; the texts are this project's own.
use Rattle.std.specs.Prelude.{ℕ, ◌+◌, List, [], ◌∷◌, Option, Some, None, codes, drop}
use Rattle.toml.specs.Data.{Members}
use Rattle.protocol.specs.Catalog.{Station}
use Rattle.config_explained.specs.Holders.{list_words}
use Rattle.config_explained.specs.Lists.{shown_at}

-- whom a list admits: its entries with a space between two, or nobody; everybody where there is none
abbrev pub users_text : Option (List ℕ) → List ℕ
users_text None = codes "everybody"
users_text (Some list) = drop 1 (list_words (Some list))

-- the texts of stations from a place on
abbrev pub users_from : Members → ℕ → List Station → List (List ℕ)
users_from keys place [] = []
users_from keys place (s ∷ ss) = users_text (shown_at keys place) ∷ users_from keys (place + 1) ss

-- the texts of all stations
abbrev pub users_texts : Members → List Station → List (List ℕ)
users_texts keys ss = users_from keys 0 ss
