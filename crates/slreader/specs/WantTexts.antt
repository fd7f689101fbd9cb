-- What the texts of a want are in the definitions.
use Rattle.std.specs.Prelude.{ℕ, List, [], ◌∷◌}
use Rattle.std.specs.Option.{option_copied}
use Rattle.std.specs.Borrow.{Bor}
use Rattle.slreader.specs.Wants.{Action, WantValue}
use Rattle.slreader.specs.Wants.Action.{Data, Fetch, Time}
use Rattle.slreader.specs.declared.want.WantedAction.{WantedAction}
use Rattle.slreader.specs.declared.want.WantedAction.TheVariants as code
use Rattle.slreader.specs.declared.window.Window.{Window}
use Rattle.slreader.specs.declared.window.Window.TheVariants as window
use Rattle.slreader.specs.Words.{WindowValue}
use Rattle.slreader.specs.Words.WindowValue.{Following, Held, Between}

-- texts that are lent
abbrev pub texts : List (Bor (List ℕ)) → List (List ℕ)
texts [] = []
texts (t ∷ ts) = t.now ∷ texts ts

abbrev pub action_value : WantedAction → Action
action_value (code.Data number begin) = Data number (option_copied begin)
action_value (code.Fetch number begin) = Fetch number (option_copied begin)
action_value (code.Time begin last) = Time (option_copied begin) (option_copied last)

abbrev pub window_value : Window → WindowValue
window_value (window.Following begin) = Following (option_copied begin)
window_value (window.Held begin) = Held (option_copied begin)
window_value (window.Between begin last) = Between begin.now last.now

abbrev pub want_value : (network station : List ℕ) → List (Bor (List ℕ)) → WantedAction → WantValue
want_value network station patterns action =
    record { network = network; station = station; patterns = texts patterns; action = action_value action }
