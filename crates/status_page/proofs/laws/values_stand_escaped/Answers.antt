use Rattle.std.proofs.Common.{rules, ◌≡◌, ◌++◌, List, ℕ, ◌<◌, length, get_or, take, flat_map}
use Rattle.std.proofs.Common.{sym, refl, append_assoc, append-nil, add-one, arith}
use Rattle.status_page.proofs.EscapeLemmas.{filled_is}
use Rattle.status_page.proofs.laws.values_stand_escaped.Goals as goal

pub returns : goal.returns
returns c = λ l v template. filled_is l v template
