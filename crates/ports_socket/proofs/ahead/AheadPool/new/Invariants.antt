use Rattle.std.proofs.Common.{◌≡◌, []}
use Rattle.std.specs.List.{All}
use Rattle.ports_socket.proofs.ahead.AheadPool.new.Given as goal

abbrev pub invariant-feeds : goal.invariant-feeds
invariant-feeds l = All (λ ahead. ahead ≡ []) l.free.items
