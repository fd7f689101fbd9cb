use Rattle.std.proofs.Common.{◌≡◌, ◌<◌, ◌^◌, drop}
use Rattle.protocol.specs.Time.{decimal_number}
use Rattle.text_parts.proofs.decimal.spelled.Given as goal

abbrev pub invariant-loop-byte : goal.invariant-loop-byte
invariant-loop-byte l = record {
  read : decimal_number l.number (drop l.byte-index l.digits) ≡ decimal_number 0 l.digits;
  below : l.number < 10 ^ l.byte-index;
}
