use Rattle.std.proofs.Common.{rules}
use Rattle.event_script.proofs.AddressLemmas.{address_text-bits}
use Rattle.event_script.proofs.dialogue.put_address.Goals as goal

pub returns : goal.returns
returns c = search (rules, address_text-bits)
