-- What is read of a line `reload` is what the table of lines says.
use Rattle.std.proofs.Common.{◌≡◌, ◌≢◌, ℕ, List, Some, None, Result, Ok, Err, refl, ◌∙◌, ap}
use Rattle.std.specs.Prelude.{option_and_then}
use Rattle.std.specs.Result.{result_ok}
use Rattle.std.specs.Str.{IsUtf8, is_utf8}
use Rattle.std.proofs.lemmas.Str.{IsUtf8-from_is_utf8, is_utf8-from_IsUtf8}
use Rattle.toml.specs.Parse.{parse_document}
use Rattle.protocol.specs.Catalog.{Config}
use Rattle.protocol.proofs.FoundLemmas.{both}
use Rattle.catalog.specs.Reading.{config_read}
use Rattle.catalog.specs.declared.fault.ConfigFault.{ConfigFault}
use Rattle.catalog.specs.declared.fault.ConfigFault.TheVariants as config
use Rattle.event_script.specs.Faults.{fault_of_text}
use Rattle.event_script.specs.Script.{config_told, hex_config_of, hex_of}
use Rattle.event_script.specs.declared.fault.ScriptFault.TheVariants.{Script}
use Rattle.event_script.proofs.OptionSteps.{and_then_some}

-- ---- a text

-- one in UTF-8 whose reading gives a configuration
pub config-made : (text : List ℕ) (config : Config) → IsUtf8 text → config_read (parse_document text) ≡ Ok config
    → config_told text ≡ Some config
unfolding config_told
config-made text config utf8 e = rw (is_utf8-from_IsUtf8 text utf8, e) refl

-- one whose reading is refused, or that is not in UTF-8
pub config-refused : (text : List ℕ) (fault : ConfigFault)
    → (IsUtf8 text → config_read (parse_document text) ≡ Err fault) → config_told text ≡ None
unfolding config_told
config-refused text fault e =
    both (is_utf8 text) (λ y. rw (y, e (IsUtf8-from_is_utf8 text y)) refl) (λ n. rw n refl)

-- what is refused as no event is refused for another cause than memory
pub refused-script : (fault : ConfigFault) → fault_of_text fault ≡ Script → fault ≢ config.OutOfMemory
refused-script config.OutOfMemory e = absurd cc
refused-script config.Toml e = λ h. cc
refused-script config.Missing e = λ h. cc
refused-script config.Limit e = λ h. cc
refused-script config.Duplicate e = λ h. cc
refused-script (config.Access cause) e = λ h. cc

ok_told : (r : Result Config ConfigFault) (config : Config) → result_ok r ≡ Some config → r ≡ Ok config
ok_told (Ok c) config e = cc
ok_told (Err fault) config e = absurd cc

-- a configuration is that of a text in UTF-8 whose reading gives it
pub config-whole : (text : List ℕ) (config : Config) → config_told text ≡ Some config
    → IsUtf8 text × (config_read (parse_document text) ≡ Ok config)
unfolding config_told
config-whole text config h =
    both (is_utf8 text)
    (λ y. (IsUtf8-from_is_utf8 text y, ok_told (config_read (parse_document text)) config (rw y at h)))
    (λ n. let none : None ≡ Some config = rw n at h in absurd cc)

-- ---- by hexadecimal digits

pub hex_config-made : (digits text : List ℕ) (config : Config) → hex_of digits ≡ Some text → IsUtf8 text
    → config_read (parse_document text) ≡ Ok config → hex_config_of digits ≡ Some config
hex_config-made digits text config h utf8 e = ap (option_and_then config_told) h ∙ config-made text config utf8 e

pub hex_config-whole : (digits : List ℕ) (config : Config) → hex_config_of digits ≡ Some config
    → (text : List ℕ) × (hex_of digits ≡ Some text) × IsUtf8 text × (config_read (parse_document text) ≡ Ok config)
hex_config-whole digits config h =
    let text = and_then_some config_told (hex_of digits) config h in
    let whole = config-whole text.0 config text.2 in
    (text.0, text.1, whole.0, whole.1)
