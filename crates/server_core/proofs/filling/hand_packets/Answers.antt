use Rattle.std.proofs.Common.{Some}
use Rattle.server_core.specs.Handing.{offered_open_of}
use Rattle.server_core.specs.ServerValues.{open_client_of}
use Rattle.server_core.proofs.FillLemmas.{hands-join, hands-none}
use Rattle.server_core.proofs.filling.hand_packets.Goals as goal

pub returns-then-most-eq0-clause-hands : goal.returns-then-most-eq0-clause-hands
returns-then-most-eq0-clause-hands c = λ h holds.
    hands-none h (Some (open_client_of c.args.config.now h c.args.session.now)) c.args.out.now.items

pub returns-clause-hands : goal.returns-clause-hands
returns-clause-hands c = λ h holds.
    hands-join h (Some (open_client_of c.args.config.now h c.args.session.now))
    (Some (offered_open_of c.args.config.now h c.hand_first-settled.new.session))
    (Some (open_client_of c.args.config.now h c.hand_more-more.new.session)) 1 c.hand_more-more.result.count
    c.args.out.now.items c.hand_first-settled.new.out.items c.hand_more-more.new.out.items
    (c.hand_first-settled.ensures.hands h holds) (c.hand_more-more.ensures.hands h holds)
