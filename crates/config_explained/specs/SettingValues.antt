-- Values of a configuration's keys.
use Rattle.std.specs.Prelude.{ℕ, ◌==◌, Bool, true, false, List}
use Rattle.std.specs.Str.{bytes_eq}
use Rattle.config_explained.specs.declared.setting.Setting.{Setting}
use Rattle.config_explained.specs.declared.setting.Setting.TheVariants as setting

pub data SettingValue : Type 0 where
  nothing : SettingValue
  text : List ℕ → SettingValue
  number : ℕ → SettingValue
  sequence : ℕ → SettingValue

-- a setting of the code
abbrev pub setting_value : Setting → SettingValue
setting_value setting.Nothing = nothing
setting_value (setting.Text bytes) = text bytes.items
setting_value (setting.Number n) = number n
setting_value (setting.Sequence n) = sequence n

-- two values are the same
abbrev pub is_same_value : SettingValue → SettingValue → Bool
is_same_value nothing nothing = true
is_same_value (text a) (text b) = bytes_eq a b
is_same_value (number a) (number b) = a == b
is_same_value (sequence a) (sequence b) = a == b
is_same_value _ _ = false
