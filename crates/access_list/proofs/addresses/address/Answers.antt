use Rattle.std.proofs.Common.{◌≡◌, Some, ap, ◌∙◌, sym}
use Rattle.std.specs.Int.{w32, from_be_bytes}
use Rattle.std.specs.Net.Addr.{ipv4_bits}
use Rattle.protocol.specs.Pieces.{split}
use Rattle.access_list.specs.Addresses.{is_dot, octets_of}
use Rattle.access_list.proofs.OctetLemmas.{bits_of, four_octets}
use Rattle.access_list.proofs.addresses.address.Goals as goal

pub returns : goal.returns
unfolding ipv4_bits
returns c =
    let read : octets_of c.args.text.now ≡ Some c.in_ok-octets.octets = sym c.octets.ensures ∙ c.in_ok-octets.was in
    let four = four_octets (split is_dot c.args.text.now) c.in_ok-octets.octets read in
    rw read (ap Some (ap (from_be_bytes w32) c.from_octets.ensures ∙ bits_of c.in_ok-octets.octets four))
