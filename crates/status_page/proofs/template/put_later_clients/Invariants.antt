use Rattle.std.proofs.Common.{◌≡◌, ◌++◌, take, flat_map}
use Rattle.status_page.specs.Templates.{later_client}
use Rattle.status_page.proofs.template.put_later_clients.Given as goal

abbrev pub invariant-loop-client : goal.invariant-loop-client
invariant-loop-client l = l.text.items ≡ l.fn.text.items
    ++ flat_map (later_client l.language l.pieces) (take l.client-index l.clients)
