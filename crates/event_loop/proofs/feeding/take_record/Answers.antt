use Rattle.std.proofs.Common.{◌≡◌, ◌∙◌, ap, sym, if◌then◌else◌, Bool, true, false, arith}
use Rattle.std.specs.Result.{is_err}
use Rattle.event_loop.specs.Deeds.{refused_more}
use Rattle.event_loop.proofs.DecidedLemmas.{decides-none}
use Rattle.event_loop.proofs.FeedLemmas.{arrives-one, on-ok}
use Rattle.event_loop.proofs.LeaveLemmas.{quiet_brought, quiet_refused}
use Rattle.event_loop.proofs.feeding.take_record.Goals as goal

pub returns-in-Err-clause-arrives : goal.returns-in-Err-clause-arrives
returns-in-Err-clause-arrives g c = λ config w stands.
    let arrive = c.arrive.ensures in
    let refused : true ≡ is_err c.arrive.result = sym (ap is_err c.in-Err.is) in
    let one : c.saturating_add.result ≡ refused_more c.args.refused.now 1 = omega arith in
    arrives-one config w c.args.whole.now c.arrive.result c.args.server.now c.arrive.new.self c.args.refused.now
    c.saturating_add.result
    (record {
      stands = λ e. arrive.stands e config w stands;
      answer = λ e. arrive.answer e config w stands;
      exhausted = λ e. arrive.exhausted e config w stands;
      counted = on-ok c.arrive.result (λ h. h config w stands) arrive.counted;
      unchanged = arrive.unchanged;
    })
    stands (one ∙ ap (λ (b : Bool). refused_more c.args.refused.now (if b then 1 else 0)) refused)

pub returns-in-Ok-clause-arrives : goal.returns-in-Ok-clause-arrives
returns-in-Ok-clause-arrives g c = λ config w stands.
    let arrive = c.arrive.ensures in
    let taken : false ≡ is_err c.arrive.result = sym (ap is_err c.in-Ok.is) in
    let none : c.args.refused.now ≡ refused_more c.args.refused.now 0 = omega arith in
    arrives-one config w c.args.whole.now c.arrive.result c.args.server.now c.arrive.new.self c.args.refused.now
    c.args.refused.now
    (record {
      stands = λ e. arrive.stands e config w stands;
      answer = λ e. arrive.answer e config w stands;
      exhausted = λ e. arrive.exhausted e config w stands;
      counted = on-ok c.arrive.result (λ h. h config w stands) arrive.counted;
      unchanged = arrive.unchanged;
    })
    stands (none ∙ ap (λ (b : Bool). refused_more c.args.refused.now (if b then 1 else 0)) taken)

pub returns-in-Err-clause-quiet : goal.returns-in-Err-clause-quiet
returns-in-Err-clause-quiet g c =
    quiet_refused c.arrive.result c.args.server.now c.arrive.new.self
    (ap is_err c.in-Err.is) c.arrive.ensures.unchanged

pub returns-in-Ok-clause-quiet : goal.returns-in-Ok-clause-quiet
returns-in-Ok-clause-quiet g c =
    quiet_brought c.args.server.now c.arrive.new.self c.in-Ok.ensures.one_more c.arrive.ensures.count
    c.arrive.ensures.kept

pub returns-in-Err-clause-decides : goal.returns-in-Err-clause-decides
returns-in-Err-clause-decides g c = λ config w stands. record {
  answer = c.arrive.result;
  is = λ e. c.arrive.ensures.answer e config w stands;
  decides = rw (c.in-Err.is, ← c.refusal_of.ensures) c.tell.ensures.decides;
}

pub returns-in-Ok-clause-decides : goal.returns-in-Ok-clause-decides
returns-in-Ok-clause-decides g c = λ config w stands. record {
  answer = c.arrive.result;
  is = λ e. c.arrive.ensures.answer e config w stands;
  decides = rw c.in-Ok.is (decides-none (g.P.Ports.decided c.args.ports.now));
}
