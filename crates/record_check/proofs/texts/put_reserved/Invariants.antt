use Rattle.std.proofs.Common.{◌≡◌, ◌≤◌, ◌+◌, ◌++◌, length, map, take, vec_capacity, vec_len}
use Rattle.record_check.specs.Words.{shown_byte}
use Rattle.record_check.proofs.texts.put_reserved.Given as goal

abbrev pub invariant-loop-byte : goal.invariant-loop-byte
invariant-loop-byte l = record {
  put : l.text.items ≡ l.fn.text.items ++ map shown_byte (take l.byte-index l.code);
  room : vec_len l.fn.text + length l.code ≤ vec_capacity l.text;
  more : vec_len l.text ≡ vec_len l.fn.text + l.byte-index;
  kept : vec_capacity l.fn.text ≤ vec_capacity l.text;
}
