-- An address as a number, and its text.
use Rattle.std.proofs.Common.{◌≡◌, ℕ, ◌<◌, length, get_or, refl, ap}
use Rattle.std.proofs.lemmas.Nat.{be_bytes_4}
use Rattle.std.specs.Net.Addr.{ipv4_bits, ipv4_octets}
use Rattle.std.specs.Net.Text.{ipv4_text}
use Rattle.std.specs.declared.net.ipv4_addr.Ipv4Addr.{Ipv4Addr}
use Rattle.event_script.specs.Dialogue.{address_text}

-- the text of an address by its number is that of its four numbers
pub address_text-bits : (a : Ipv4Addr) → length (ipv4_octets a) ≡ 4 → ((k : ℕ) → get_or (ipv4_octets a) k 0 < 256)
    → address_text (ipv4_bits a) ≡ ipv4_text (ipv4_octets a)
unfolding ipv4_bits
address_text-bits a four fits = ap ipv4_text (be_bytes_4 (ipv4_octets a) (ipv4_bits a) four fits refl)
