use Rattle.reader_state.proofs.EachLemmas.{kept-apart}
use Rattle.reader_state.proofs.writing.write_state.Goals as goal

pub returns-in_err-put_stations-clause-apart : goal.returns-in_err-put_stations-clause-apart
returns-in_err-put_stations-clause-apart c = λ apart.
    kept-apart c.args.tally.now c.args.wants.now c.args.before.now apart

pub returns-clause-apart : goal.returns-clause-apart
returns-clause-apart c = λ apart. kept-apart c.args.tally.now c.args.wants.now c.args.before.now apart
