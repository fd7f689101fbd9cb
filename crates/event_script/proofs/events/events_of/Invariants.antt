use Rattle.std.proofs.Common.{◌≡◌, length, map}
use Rattle.std.specs.List.{slice_split}
use Rattle.server_core.specs.Runs.{event_value}
use Rattle.event_script.specs.Script.{events_of, is_line_feed}
use Rattle.event_script.proofs.Lines.{AreRead, left}
use Rattle.event_script.proofs.events.events_of.Given as goal

abbrev pub invariant-loop-line : goal.invariant-loop-line
invariant-loop-line l =
    let ls = slice_split is_line_feed l.text in
    record {
      left : events_of l.text ≡ left (map event_value l.events.items) ls (length l.yielded);
      read : AreRead (map event_value l.events.items) ls (length l.yielded);
      number : l.number ≡ length l.yielded;
    }
