-- What is found where a configuration is refused: by its fault, at the step of its reading that fails.
use Rattle.std.specs.Prelude.{◌≡◌, ℕ, ◌≤◌, List, length, take, drop, Option, Some, None, option_and_then}
use Rattle.std.specs.List.{before_first}
use Rattle.std.specs.Str.{IsUtf8}
use Rattle.std.specs.Str.Lossy.{utf8_valid_len}
use Rattle.toml.specs.Data.{Members, as_str}
use Rattle.toml.specs.Parse.{parse_document}
use Rattle.access_list.specs.Tokens.{first_refused}
use Rattle.catalog.specs.Groups.{groups_of, list_meant}
use Rattle.catalog.specs.declared.error.ConfigError.{ConfigError}
use Rattle.catalog.specs.declared.error.Step.{Step}
use Rattle.catalog.specs.declared.fault.ConfigFault.{ConfigFault}
use Rattle.catalog.specs.declared.fault.ConfigFault.TheVariants as fault
use Rattle.config_explained.specs.Kinds.{kind_of}
use Rattle.config_explained.specs.Places.{IsPlaceAfter, is_line_end}
use Rattle.config_explained.specs.SettingTexts.{wanted_of}
use Rattle.config_explained.specs.Values.{value_at}
use Rattle.config_explained.specs.declared.place.TextPlace.{TextPlace}
use Rattle.config_explained.specs.declared.finding.ConfigFinding.{ConfigFinding}
use Rattle.config_explained.specs.declared.finding.ConfigFinding.TheVariants.{Nothing, NotUtf8, NotToml}
use Rattle.config_explained.specs.declared.finding.ConfigFinding.TheVariants.{OtherKind, Entry}

-- ---- a text that is not TOML

-- A place of the text, and the line that it is on. Which place it is the reader of TOML decides.
pub record IsOnLine (text : List ℕ) (place : TextPlace) (line : List ℕ) : Type 0 where
  pub offset : ℕ
  pub within : offset ≤ length text
  pub place_of : IsPlaceAfter (take offset text) place
  pub line_of : line ≡ before_first is_line_end (drop place.start text)

-- a reason, with a place and its line
abbrev pub IsReasoned : List ℕ → ConfigFinding → Type 0
IsReasoned text (NotToml reason place line) = IsOnLine text place line.items
IsReasoned text _ = ⊥

-- where a text of UTF-8 is not TOML
abbrev pub FindsToml : Option Members → List ℕ → ConfigFinding → Type 0
FindsToml None text f = IsReasoned text f
FindsToml (Some keys) text f = f ≡ Nothing

-- the place at an offset
abbrev pub IsNotUtf8 : List ℕ → ℕ → ConfigFinding → Type 0
IsNotUtf8 text offset (NotUtf8 at place) = (at ≡ offset) × IsPlaceAfter (take offset text) place
IsNotUtf8 text offset _ = ⊥

-- where a text is not UTF-8, or not TOML
pub record FindsText (text : List ℕ) (f : ConfigFinding) : Type 0 where
  pub utf8 : IsUtf8 text → FindsToml (parse_document text) text f
  pub bytes : ¬ IsUtf8 text → IsNotUtf8 text (utf8_valid_len text) f

-- ---- a value of another kind

-- of a text's table
abbrev pub FindsKind : Option Members → Step → ConfigFinding → Type 0
FindsKind None s f = f ≡ Nothing
FindsKind (Some keys) s f = f ≡ OtherKind (kind_of (value_at keys s)) (wanted_of s)

-- ---- an access list

-- the text of the value that a step looks at
abbrev pub text_at : Members → Step → Option (List ℕ)
text_at keys s = option_and_then as_str (value_at keys s)

-- an entry, if there is one
abbrev pub IsEntry : Option (List ℕ) → ConfigFinding → Type 0
IsEntry (Some entry) (Entry text) = text.items ≡ entry
IsEntry (Some entry) _ = ⊥
IsEntry None f = f ≡ Nothing

-- the first entry of a list that is refused, among those that it means
abbrev pub refused_in : Members → List ℕ → Option (List ℕ)
refused_in keys list = first_refused (list_meant (groups_of keys) list)

-- of a text's table: the first entry that is refused
abbrev pub FindsEntry : Option Members → Step → ConfigFinding → Type 0
FindsEntry None s f = f ≡ Nothing
FindsEntry (Some keys) s f = IsEntry (option_and_then (refused_in keys) (text_at keys s)) f

-- ---- by the fault

abbrev pub FindsBy : ConfigFault → List ℕ → Step → ConfigFinding → Type 0
FindsBy fault.Toml text s f = FindsText text f
FindsBy fault.Missing text s f = IsUtf8 text → FindsKind (parse_document text) s f
FindsBy (fault.Access cause) text s f = IsUtf8 text → FindsEntry (parse_document text) s f
FindsBy _ text s f = f ≡ Nothing

-- what is found in a text that is refused with an error
abbrev pub Finds : List ℕ → ConfigError → ConfigFinding → Type 0
Finds text e f = FindsBy e.fault text e.step f
