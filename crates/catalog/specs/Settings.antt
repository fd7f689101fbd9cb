-- The settings that a configuration's table and a station's table have, each of one key alone, and which key of a
-- station is read after which.
use Rattle.std.specs.Prelude.{⊤, ℕ, ℤ, List, [], ◌∷◌, Option, Some, None, Result, Ok, Err, codes}
use Rattle.std.specs.Result.{result_err}
use Rattle.toml.specs.Data.{Members}
use Rattle.protocol.specs.Access.{Token}
use Rattle.protocol.specs.Packet.{number_of}
use Rattle.access_list.specs.Tokens.{list_of}
use Rattle.access_list.specs.declared.fault.AccessFault.{AccessFault}
use Rattle.catalog.specs.Groups.{list_meant}
use Rattle.catalog.specs.Keys.{text_at, text_if_any, number_at, number_if_any, number_up_to}
use Rattle.catalog.specs.Steps.{◌>>=◌, within, within_if}
use Rattle.catalog.specs.Texts.{is_title, is_network, is_code, is_description}
use Rattle.catalog.specs.declared.fault.ConfigFault.{ConfigFault}
use Rattle.catalog.specs.declared.fault.ConfigFault.TheVariants.{Access}
use Rattle.catalog.specs.declared.settings.Settings.{Settings}
use Rattle.catalog.specs.declared.settings.StationStep.{StationStep}
use Rattle.catalog.specs.declared.settings.StationStep.TheVariants as step

-- ---- of both

-- why an access text is refused is told with its cause
abbrev pub access_told : Result (List Token) AccessFault → Result (List Token) ConfigFault
access_told (Ok tokens) = Ok tokens
access_told (Err cause) = Err (Access cause)

-- the list that an access text spells, or why it is refused
abbrev pub access_spelled : List ℕ → Result (List Token) ConfigFault
access_spelled text = access_told (list_of text)

-- without a text there is no list
abbrev pub access_by : Option Members → Option (List ℕ) → Result (Option (List Token)) ConfigFault
access_by groups None = Ok None
access_by groups (Some text) = access_spelled (list_meant groups text) >>= (λ tokens. Ok (Some tokens))

-- `access`: addresses, masks and names of groups, may be missing
unfoldable pub access_of : Option Members → Members → Result (Option (List Token)) ConfigFault
access_of groups members = do
  text ← text_if_any (codes "access") members
  access_by groups text

-- ---- of the whole server

-- `title`: 1 to 100 bytes of printable ASCII
unfoldable pub title_of : Members → Result (List ℕ) ConfigFault
title_of members = do
  text ← text_at (codes "title") members
  within_if (is_title text) text

-- without a number there may be 100
abbrev pub connections_by : Option ℤ → Result ℕ ConfigFault
connections_by None = Ok 100
connections_by (Some number) = number_up_to 10000 number

-- `max_connections`: 1 to 10,000, may be missing
unfoldable pub connections_of : Members → Result ℕ ConfigFault
connections_of members = do
  number ← number_if_any (codes "max_connections") members
  connections_by number

-- ---- of a station

-- `network`: 1 to 2 of `A` to `Z` and `0` to `9`
unfoldable pub network_of : Members → Result (List ℕ) ConfigFault
network_of members = do
  text ← text_at (codes "network") members
  within_if (is_network text) text

-- `code`: 1 to 5 of them
unfoldable pub code_of : Members → Result (List ℕ) ConfigFault
code_of members = do
  text ← text_at (codes "code") members
  within_if (is_code text) text

-- `description`: 0 to 60 bytes of printable ASCII
unfoldable pub description_of : Members → Result (List ℕ) ConfigFault
description_of members = do
  text ← text_at (codes "description") members
  within_if (is_description text) text

-- `capacity`: 1 to 65,536
unfoldable pub capacity_of : Members → Result ℕ ConfigFault
capacity_of members = do
  number ← number_at (codes "capacity") members
  number_up_to 65536 number

-- without a text the first number is 0
abbrev pub first_by : Option (List ℕ) → Result ℕ ConfigFault
first_by None = Ok 0
first_by (Some text) = within (number_of text)

-- `first`: 1 to 6 hexadecimal digits of either case, may be missing
unfoldable pub first_of : Members → Result ℕ ConfigFault
first_of members = do
  text ← text_if_any (codes "first") members
  first_by text

-- the definitions of all of these, to be opened together
unfoldable pub station_settings : ⊤
unfolding network_of code_of description_of capacity_of first_of access_of
station_settings = tt

-- ---- which key of a station is read after which

-- the settings of a station beside its codes
pub record SettingsValue : Type 0 where
  pub description : List ℕ
  pub capacity : ℕ
  pub first : ℕ
  pub access : Option (List Token)

-- those of the code
abbrev pub settings_value : Settings → SettingsValue
settings_value s =
    record { description = s.description.items; capacity = s.capacity; first = s.first; access = s.access }

-- they are read key after key
abbrev pub settings_of : Option Members → Members → Result SettingsValue ConfigFault
settings_of groups members = do
  description ← description_of members
  capacity ← capacity_of members
  first ← first_of members
  access ← access_of groups members
  Ok (record { description = description; capacity = capacity; first = first; access = access })

-- the steps that read them, in the same order
abbrev pub setting_steps : List StationStep
setting_steps = step.Description ∷ step.Capacity ∷ step.First ∷ step.Access ∷ []

-- the steps that read a key of a station, in order: its codes come before its settings
abbrev pub key_steps : List StationStep
key_steps = step.Network ∷ step.Code ∷ setting_steps

-- why the value of a key is refused at the step that reads it, if it is; the other steps read no key
abbrev pub key_fault : Option Members → Members → StationStep → Option ConfigFault
key_fault _ _ step.Table = None
key_fault groups members step.Network = result_err (network_of members)
key_fault groups members step.Code = result_err (code_of members)
key_fault groups members step.Description = result_err (description_of members)
key_fault groups members step.Capacity = result_err (capacity_of members)
key_fault groups members step.First = result_err (first_of members)
key_fault groups members step.Access = result_err (access_of groups members)
key_fault _ _ step.Codes = None
