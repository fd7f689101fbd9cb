-- After how many seconds without a record a station is silent, as it is told at the status port.
use Rattle.std.specs.Prelude.{ℕ, List, map, Option, Some, None}
use Rattle.config_explained.specs.declared.silence.Silence.{Silence}
use Rattle.config_explained.specs.declared.silence.Silence.TheVariants.{AsServer, Never, After}

-- by what holds if the configuration says nothing of it, and by what that says
abbrev pub limit_by : (server : ℕ) → Silence → Option ℕ
limit_by server AsServer = Some server
limit_by server Never = None
limit_by server (After seconds) = Some seconds

-- the same of all stations
abbrev pub limits_by : (server : ℕ) → List Silence → List (Option ℕ)
limits_by server silences = map (limit_by server) silences
