use Rattle.std.proofs.Common.{◌≤◌, arith, length, rules}
use Rattle.event_loop.proofs.AwakeLemmas.{passes-skip-to}
use Rattle.event_loop.proofs.seats.skip.Goals as goal

pub returns-clause-goes : goal.returns-clause-goes
returns-clause-goes c = λ limit config w calls calls' t t' ss so_far.
    let n = c.requires.known.count in
    let fits : c.next_awake.result ≤ length c.args.seats.now = omega (arith, n, c.next_awake.ensures.within) in
    passes-skip-to limit config w calls calls' c.args.server.now t t' ss c.args.seats.now c.args.awake.now
    (record { spared = c.unmarked_are_spared.ensures.spared; there = c.unmarked_are_spared.ensures.there })
    c.requires.known c.args.from c.next_awake.result c.next_awake.ensures.later fits c.next_awake.ensures.asleep so_far
