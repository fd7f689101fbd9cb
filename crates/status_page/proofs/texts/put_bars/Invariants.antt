use Rattle.std.proofs.Common.{◌≡◌, ◌++◌, take, flat_map}
use Rattle.status_page.specs.Texts.{bar_text}
use Rattle.status_page.specs.Values.{busiest}
use Rattle.status_page.proofs.texts.put_bars.Given as goal

abbrev pub invariant-loop-minute : goal.invariant-loop-minute
invariant-loop-minute l = l.text.items ≡ l.fn.text.items
    ++ flat_map (bar_text l.most) (take l.minute-index l.minutes)
