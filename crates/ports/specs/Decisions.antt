-- What is decided of ports.
-- Ports are this project's own. Left out: when something is decided.
use Rattle.std.specs.Prelude.{◌≡◌, ℕ, List, ◌++◌, Option, Some, None}
use Rattle.ports.specs.declared.decisions.Decision.{Decision}

-- That was decided between the two, where the ports tell it after it.
abbrev pub Decides : Option (List (ℕ × Decision)) → Option (List (ℕ × Decision)) → List (ℕ × Decision) → Type 0
Decides old None decisions = Unit {0}
Decides (Some before) (Some after) decisions = after ≡ before ++ decisions
Decides None (Some after) decisions = ⊥
