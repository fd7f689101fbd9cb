use Rattle.std.proofs.Common.{◌<◌, ap, subst, ◌∙◌}
use Rattle.protocol.specs.Packet.{number_of, numbers}
use Rattle.protocol.proofs.Digits.{number_of-digits}
use Rattle.slreader.proofs.given_number.GivenNumber.of.Goals as goal

pub returns : goal.returns
returns c =
    ap number_of c.digits.ensures ∙ number_of-digits c.args.number
    (subst (λ n. n < numbers) c.value-known.ensures.same c.value-known.ensures.below)
