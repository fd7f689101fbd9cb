-- Numbers that a file can keep: what is written of them is read as them.
use Rattle.std.specs.Prelude.{◌≡◌, ◌<◌, true, List, length, All}
use Rattle.protocol.specs.Packet.{numbers}
use Rattle.catalog.specs.Numbers.{Numbered}
use Rattle.catalog.specs.Texts.{is_network, is_code}

-- Its codes are those that a station may have, and it is the number of a record.
pub record IsKeepable (n : Numbered) : Type 0 where
  pub network : is_network n.network ≡ true
  pub code : is_code n.code ≡ true
  pub below : n.next < numbers

-- There are some, and each is such.
abbrev pub AreKeepable : List Numbered → Type 0
AreKeepable ns = (0 < length ns) × All IsKeepable ns
