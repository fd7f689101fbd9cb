use Rattle.std.proofs.Common.{arith}
use Rattle.event_loop.proofs.TableLemmas.{kinds-in}
use Rattle.event_loop.proofs.seats.clients.Goals as goal

pub returns : goal.returns
returns c = let h = kinds-in c.args.seats.now in omega (arith, h, c.requires)
