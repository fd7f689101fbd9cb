-- What a replay writes of a script.
use Rattle.std.specs.Prelude.{ℕ, List, Option, option_map}
use Rattle.protocol.specs.Catalog.{Config}
use Rattle.protocol.specs.World.{Event, Handed, handed}
use Rattle.event_script.specs.Dialogue.{dialogue_of}
use Rattle.event_script.specs.Script.{events_of}
use Rattle.event_script.specs.Output.{output_of}
use Rattle.job_check.specs.declared.replaying.ReplayStyle.{ReplayStyle}
use Rattle.job_check.specs.declared.replaying.ReplayStyle.TheVariants.{Hexadecimal, Dialogue}

-- what is written of events and of what their takes were handed: a line a take, or a line an event
abbrev pub written_of : ReplayStyle → List Event → List Handed → List ℕ
written_of Hexadecimal es xs = output_of xs
written_of Dialogue es xs = dialogue_of es xs

-- what a server writes of a list of events
unfoldable pub output_after : ReplayStyle → Config → List Event → List ℕ
output_after style config es = written_of style es (handed config es)

-- what it writes of the text of a script; none where that is no script
abbrev pub replayed : ReplayStyle → Config → List ℕ → Option (List ℕ)
replayed style config text = option_map (output_after style config) (events_of text)
