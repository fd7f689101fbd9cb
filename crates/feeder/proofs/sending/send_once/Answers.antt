use Rattle.std.proofs.Common.{◌≡◌, rules, length, take}
use Rattle.feeder.proofs.SendLemmas.{passes, breaks_off}
use Rattle.feeder.proofs.sending.send_once.Goals as goal

pub returns-in-Ok-clause-passes : goal.returns-in-Ok-clause-passes
returns-in-Ok-clause-passes g c =
    let h = c.args.held in
    let n = c.in_ok-count.count in
    let size : length (take h c.args.rest.now) ≡ h = search rules in
    passes _ _ _ _ c.read_behind.new.block (take h c.args.rest.now) _ _ c.put_rest.new.rest h n size
    c.in_ok-count.ensures.start c.in_ok-count.ensures.bound c.in_ok-count.ensures.consumed (search rules)
    c.in-Ok.ensures.ok
    (search rules) c.put_rest.ensures

pub returns-in-Err-clause-begun : goal.returns-in-Err-clause-begun
returns-in-Err-clause-begun g c =
    let h = c.args.held in
    let n = c.in_ok-count.count in
    let size : length (take h c.args.rest.now) ≡ h = search rules in
    breaks_off _ _ _ _ c.read_behind.new.block (take h c.args.rest.now) _ h n size
    c.in_ok-count.ensures.start c.in_ok-count.ensures.bound c.in_ok-count.ensures.consumed (search rules)
    c.in-Err.ensures.err
