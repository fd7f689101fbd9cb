-- When a turn begins and how long it took: from what the ports say first until the server would wait for them again.
use Rattle.std.specs.Prelude.{ℕ, ◌-◌, Option, Some, None}
use Rattle.server_watch.specs.declared.turns.Turns.{Turns}
use Rattle.server_watch.specs.Turns.{with_turn}

-- the begin of the turn under way, once the ports said something at a time
abbrev pub begun_at : (now : ℕ) → Option ℕ → Option ℕ
begun_at now None = Some now
begun_at now (Some begun) = Some begun

-- the turns once the one under way ended at a time, if one was
abbrev pub with_end : (now : ℕ) → Option ℕ → Turns → Turns
with_end now None t = t
with_end now (Some begun) t = with_turn (now - begun) t
