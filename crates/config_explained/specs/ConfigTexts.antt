-- A configuration and the text that spells it.
use Rattle.std.specs.Prelude.{ℕ, List, Option, Some, None}
use Rattle.toml.specs.Data.{Members, no_members}
use Rattle.toml.specs.Parse.{parse_document}
use Rattle.protocol.specs.Catalog.{Config}

-- The configuration and the text.
pub record ConfigTextValue : Type 0 where
  pub config : Config
  pub text : List ℕ

abbrev pub keys_or_none : Option Members → Members
keys_or_none None = no_members
keys_or_none (Some keys) = keys

-- the keys of a text, if it is TOML
abbrev pub keys_of : List ℕ → Members
keys_of text = keys_or_none (parse_document text)
