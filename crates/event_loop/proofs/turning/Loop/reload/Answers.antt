use Rattle.std.proofs.Common.{◌≡◌, ◌∙◌, arith, length, refl, subst, sym}
use Rattle.server_core.specs.ServerValues.{ServerValue}
use Rattle.event_loop.specs.Sleeping.{AreKept}
use Rattle.event_loop.proofs.turning.Loop.reload.Goals as goal

pub invariant_of-self : goal.invariant_of-self
invariant_of-self g c =
    subst (λ (server : ServerValue). AreKept server c.self.inside.seats) (sym c.in-Err.ensures.unchanged)
    c.self.invariant

pub invariant_of-self-2 : goal.invariant_of-self-2
invariant_of-self-2 g c =
    let kept = c.self.invariant in
    let count : length c.wake_if.new.awake.items ≡ length c.self.inside.seats.all.items =
    c.wake_if.ensures.count ∙ kept.known.count in
    record {
      table = kept.table;
      known = record {
        count = count;
        asleep = λ i inside sleeps. absurd (sleeps (c.wake_if.ensures.woken refl i (omega arith)));
      };
      seated = record {
        apart = kept.seated.apart;
        opened = λ i k inside is. omega (arith, kept.seated.opened i k inside is, c.reload.ensures.count);
      };
      feeds = kept.feeds;
    }
