-- What is asked by wants that go on after the packets that were given.
-- SeedLink 3, DATA, FETCH and TIME. Left out: TIME with an end, which takes no number, and so begins anew.
use Rattle.std.specs.Prelude.{ℕ, ◌+◌, List, [], ◌∷◌, Option, Some, None}
use Rattle.slreader.specs.Wants.{Action, WantValue, PlanValue}
use Rattle.slreader.specs.Wants.Action.{Data, Fetch, Time}
use Rattle.slreader.specs.Wants.PlanValue.{Multi}
use Rattle.slreader.specs.Tallies.{TallyValue, next_of}
use Rattle.slreader.specs.Dialogue.{ReaderValue, begun}

-- the number to go on with, or else the one that there was
abbrev pub after : (next number : Option ℕ) → Option ℕ
after None number = number
after (Some next) number = Some next

-- the same records, from a number on if there is one
abbrev pub action_after : Action → (next : Option ℕ) → Action
action_after (Data number begin) next = Data (after next number) begin
action_after (Fetch number begin) next = Fetch (after next number) begin
action_after (Time begin None) None = Time begin None
action_after (Time begin None) (Some next) = Data (Some next) begin
action_after (Time begin (Some last)) next = Time begin (Some last)

-- the want as it goes on
abbrev pub want_on : WantValue → (next : Option ℕ) → WantValue
want_on w next = record w { action = action_after w.action next }

-- wants, of which the first has that number
abbrev pub wants_on : TallyValue → ℕ → List WantValue → List WantValue
wants_on t want [] = []
wants_on t want (w ∷ ws) = want_on w (next_of t want) ∷ wants_on t (want + 1) ws

-- a plan of several wants that go on
abbrev pub plan_on : TallyValue → List WantValue → PlanValue
plan_on t wants = Multi (wants_on t 0 wants)

-- a reader with a plan, that counts on
abbrev pub begun_at : PlanValue → TallyValue → ReaderValue
begun_at p t = record (begun p) { tally = t }
