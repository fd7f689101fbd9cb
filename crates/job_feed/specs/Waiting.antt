-- When it is told of a feed that its server takes nothing, in seconds.
use Rattle.std.specs.Prelude.{ℕ, ◌-◌, Bool, ◌&&◌, nat_lt, if◌then◌else◌, Option, Some, None}

-- It is told if somebody is shown it, and if the feed is not over by then.
abbrev pub is_told : (is_shown : Bool) → (limit : Option ℕ) → Bool
is_told is_shown None = is_shown
is_told is_shown (Some limit) = is_shown && nat_lt 60 limit

-- after how long a call ends that took nothing, before it was told: four such calls are a minute
abbrev pub first_wait : (told : Bool) → (limit : Option ℕ) → Option ℕ
first_wait told limit = if told then Some 15 else limit

-- after how much longer it ends once it was told
abbrev pub rest_of : (limit : Option ℕ) → Option ℕ
rest_of None = None
rest_of (Some limit) = Some (limit - 60)
