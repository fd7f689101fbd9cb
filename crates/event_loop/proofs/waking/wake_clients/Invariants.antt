use Rattle.std.proofs.Common.{◌≡◌, ℕ, ◌<◌, length, get_or}
use Rattle.event_loop.specs.Sleeping.{IsWoken, OnlyWakes, WakesOnly}
use Rattle.server_core.specs.Marks.{IsAmong}
use Rattle.event_loop.proofs.waking.wake_clients.Given as goal

abbrev pub invariant-loop-client : goal.invariant-loop-client
invariant-loop-client l = record {
  wakes : OnlyWakes l.fn.awake.items l.awake.items;
  only : WakesOnly (λ k. IsAmong k l.some) l.seats l.fn.awake.items l.awake.items;
  woken : (j : ℕ) → j < l.client-index → IsWoken l.seats l.awake.items (get_or l.some j 0);
}
