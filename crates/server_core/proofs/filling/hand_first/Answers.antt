use Rattle.server_core.proofs.FillLemmas.{first-handed}
use Rattle.server_core.proofs.filling.hand_first.Goals as goal

pub returns-clause-hands : goal.returns-clause-hands
returns-clause-hands c = λ h holds.
    first-handed c.args.config.now h c.args.session.now c.took.new.session c.args.out.now.items
    c.append_waiting.new.out.items c.requires.whole (c.took.ensures.client h holds) c.took.ensures.places
    c.append_waiting.ensures.bytes
