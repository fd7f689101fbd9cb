-- Which held records a request wants, by what is kept of them.
-- SeedLink 3, SELECT, DATA, FETCH and TIME.
use Rattle.std.specs.Prelude.{ℕ, Bool, ◌&&◌, false, nat_le, [], Option, Some, None}
use Rattle.protocol.specs.Record.{Facts}
use Rattle.protocol.specs.History.{is_in_window}
use Rattle.protocol.specs.Pattern.{passes}
use Rattle.station_ring.specs.declared.held.Held.{Held}
use Rattle.station_ring.specs.declared.held.Summary.{Summary}
use Rattle.sl_lines.specs.declared.actions.Action.{Action}
use Rattle.session_state.specs.NamedValues.{Choice}
use Rattle.session_state.specs.Choices.{action_value}

-- the facts of which so much is kept; what is not kept is empty
abbrev pub facts_of : Summary → Facts
facts_of x = record {
  network = [];
  station = [];
  location = x.location;
  channel = x.channel;
  start = x.start;
  stop = x.stop;
  kind = x.kind;
  samples = 0;
  links = 0;
}

-- within what is asked, where something is
abbrev pub is_in_window_of : Option Action → Facts → Bool
is_in_window_of None x = false
is_in_window_of (Some action) x = is_in_window (action_value action) x

-- The request for a named station wants a held record that may still be sent, where that is so of all from position
-- `next` on.
abbrev pub wants_held : Choice → (next : ℕ) → Held → Bool
wants_held c next x =
    nat_le next x.stamp
    && (nat_le c.first x.stamp
    && (passes c.patterns (facts_of x.summary) && is_in_window_of c.action (facts_of x.summary)))
