use Rattle.std.proofs.Common.{◌≡◌, replicate}
use Rattle.status_ports.specs.KeptValues.{no_text}
use Rattle.status_ports.proofs.kept.KeptTexts.new.Given as goal

abbrev pub invariant-loop : goal.invariant-loop
invariant-loop l = l.texts.items ≡ replicate l.counter no_text
