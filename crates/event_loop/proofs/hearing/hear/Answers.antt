use Rattle.std.proofs.Common.{◌≡◌, ◌-◌, ◌+◌, ◌∙◌, subst, arith}
use Rattle.event_loop.specs.Deeds.{no_tally, one_more}
use Rattle.event_loop.specs.Going.{SoFar}
use Rattle.event_loop.specs.Hearing.{heard}
use Rattle.event_loop.specs.Hearing.End.{Limit, Quieted, Faulted}
use Rattle.event_loop.specs.Hearing.Hearing.{enough}
use Rattle.event_loop.specs.Tables.{HearsOnce, HeardBy, heard_so_far, WholeHearing}
use Rattle.event_loop.proofs.DeedLemmas.{goes-on-from, ends-from, runs-out-at}
use Rattle.event_loop.proofs.HearLemmas.{heard-happened, heard-quiet, heard-fault}
use Rattle.event_loop.proofs.hearing.hear.Goals as goal

pub hearing-preserved : goal.hearing-preserved
hearing-preserved g c =
    let calls = g.P.Ports.calls in
    let t = heard_so_far (c.args.limit - c.hearing.left) in
    let one : c.args.limit - c.hearing.left + 1
    ≡ c.args.limit - (c.hearing.left - 1) = omega (arith, c.hearing.invariant.fits, c.hearing-test.true) in
    record {
      fits = omega (arith, c.hearing.invariant.fits);
      kept = c.hear_once.ensures.kept;
      limit = c.hear_once.ensures.limit ∙ c.hearing.invariant.limit;
      failures = c.in-Happened.ensures.failures ∙ c.hearing.invariant.failures;
      goes = λ config w stands.
          subst (λ n. SoFar (HeardBy config c.args.seats.now.max_clients) c.args.limit (c.hearing.left - 1) config w
          (calls c.args.ports.now) (calls c.hear_once.new.ports) c.hear_once.new.server no_tally
          (heard_so_far n) c.args.seats.now.all.items c.hear_once.new.seats.all.items) one
          (goes-on-from (HeardBy config c.args.seats.now.max_clients) c.args.limit c.hearing.left
          (omega (arith, c.hearing-test.true)) config w (calls c.args.ports.now) (calls c.hearing.ports)
          (calls c.hear_once.new.ports) c.hearing.server c.hear_once.new.server no_tally t
          (one_more t) c.args.seats.now.all.items c.hearing.seats.all.items c.hear_once.new.seats.all.items
          (c.hearing.invariant.goes config w stands)
          (λ v there. heard-happened config c.args.seats.now.max_clients v (calls c.hearing.ports)
          (calls c.hear_once.new.ports) c.hear_once.new.server t c.hearing.seats.all.items
          c.hear_once.new.seats.all.items _
          (subst (λ m. HearsOnce config m v (calls c.hearing.ports) (calls c.hear_once.new.ports)
          c.hear_once.new.server t
          c.hearing.seats.all.items c.hear_once.new.seats.all.items c.hear_once.result) c.hearing.invariant.limit
          (c.hear_once.ensures.goes t config v there)) c.in-Happened.is));
    }

pub returns-in-Quiet-clause-ok : goal.returns-in-Quiet-clause-ok
returns-in-Quiet-clause-ok g c = λ config w stands.
    let calls = g.P.Ports.calls in
    let t = heard_so_far (c.args.limit - c.hearing.left) in
    ends-from (HeardBy config c.args.seats.now.max_clients) c.args.limit c.hearing.left (omega (
      arith,
      c.hearing-test.true,
    ))
    config w (calls c.args.ports.now) (calls c.hearing.ports)
    (calls c.hear_once.new.ports) c.hearing.server c.hear_once.new.server no_tally t t c.args.seats.now.all.items
    c.hearing.seats.all.items (heard c.hear_once.new.seats.all.items Quieted) (c.hearing.invariant.goes config w stands)
    (λ v there. heard-quiet config c.args.seats.now.max_clients v (calls c.hearing.ports)
    (calls c.hear_once.new.ports) c.hear_once.new.server t c.hearing.seats.all.items c.hear_once.new.seats.all.items _
    (subst (λ m. HearsOnce config m v (calls c.hearing.ports) (calls c.hear_once.new.ports) c.hear_once.new.server t
    c.hearing.seats.all.items c.hear_once.new.seats.all.items c.hear_once.result) c.hearing.invariant.limit
    (c.hear_once.ensures.goes t config v there)) c.in-Quiet.is)

pub returns-in-Fault-clause-failed : goal.returns-in-Fault-clause-failed
returns-in-Fault-clause-failed g c = λ config w stands.
    let calls = g.P.Ports.calls in
    let t = heard_so_far (c.args.limit - c.hearing.left) in (
      t,
      ends-from (HeardBy config c.args.seats.now.max_clients) c.args.limit c.hearing.left (omega (
        arith,
        c.hearing-test.true,
      ))
          config w (calls c.args.ports.now) (calls c.hearing.ports)
          (calls c.hear_once.new.ports) c.hearing.server c.hear_once.new.server no_tally t t c.args.seats.now.all.items
          c.hearing.seats.all.items (heard c.hear_once.new.seats.all.items Faulted) (c.hearing.invariant.goes config w
          stands)
          (λ v there. heard-fault config c.args.seats.now.max_clients v (calls c.hearing.ports)
          (calls c.hear_once.new.ports) c.hear_once.new.server t c.hearing.seats.all.items
          c.hear_once.new.seats.all.items _
          (subst (λ m. HearsOnce config m v (calls c.hearing.ports) (calls c.hear_once.new.ports)
          c.hear_once.new.server t
          c.hearing.seats.all.items c.hear_once.new.seats.all.items c.hear_once.result) c.hearing.invariant.limit
          (c.hear_once.ensures.goes t config v there)) c.in-Fault.is),
    )

pub returns-clause-ok : goal.returns-clause-ok
returns-clause-ok g c = λ config w stands.
    let calls = g.P.Ports.calls in
    let none : c.hearing.left ≡ 0 = omega (arith, c.hearing-test.false) in
    let all : c.args.limit - c.hearing.left ≡ c.args.limit = omega (arith, none) in
    subst (λ n. WholeHearing config c.args.seats.now.max_clients c.args.limit w (calls c.args.ports.now)
    (calls c.hearing.ports) c.hearing.server (heard_so_far n) c.args.seats.now.all.items c.hearing.seats.all.items
    Limit)
    all
    (runs-out-at (HeardBy config c.args.seats.now.max_clients) c.args.limit c.hearing.left none config w (calls
    c.args.ports.now)
    (calls c.hearing.ports) c.hearing.server no_tally
    (heard_so_far (c.args.limit - c.hearing.left)) c.args.seats.now.all.items c.hearing.seats.all.items
    (heard c.hearing.seats.all.items Limit) (λ v. enough) (c.hearing.invariant.goes config w stands))
