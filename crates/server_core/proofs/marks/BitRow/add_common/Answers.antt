use Rattle.std.proofs.Common.{◌≡◌, ◌<◌, ap₂, arith, length, min}
use Rattle.std.specs.Prelude.{bit_and, bit_or}
use Rattle.std.proofs.lemmas.List.{get_or_read}
use Rattle.server_core.proofs.WordLemmas.{added-all, added-more, added-none}
use Rattle.server_core.proofs.marks.BitRow.add_common.Goals as goal

pub loop-i-init : goal.loop-i-init
loop-i-init c = added-none c.args.self.now.words.items c.args.one.now.words.items c.args.other.now.words.items

pub loop-i-preserved : goal.loop-i-preserved
loop-i-preserved c =
    let before = c.args.self.now.words.items in
    let one = c.args.one.now.words.items in
    let other = c.args.other.now.words.items in
    let now = c.loop-i.self.words.items in
    let low : c.loop-i.i < min c.len-3.result (min c.len.result c.len-2.result) = omega (
      arith,
      c.loop-i-test.true,
      c.min-i-end.ensures,
      c.min-both.ensures,
    ) in
    let within : c.loop-i.i < length before = omega (arith, low, c.len-3.ensures, c.args.self.now.words.ok.0) in
    let in_one : c.loop-i.i < length one = omega (arith, low, c.len.ensures, c.args.one.now.words.ok.0) in
    let in_other : c.loop-i.i < length other = omega (arith, low, c.len-2.ensures, c.args.other.now.words.ok.0) in
    added-more c.loop-i.i before one other now
    (bit_or c.index-word.result.now (bit_and c.index.result.now c.index-in-loop-i.result.now)) within
    (ap₂ bit_or
    (get_or_read now c.loop-i.i _ (omega (arith, within, c.loop-i.invariant.same_length)) c.index-word.ensures 0)
    (ap₂ bit_and (get_or_read one c.loop-i.i _ in_one c.index.ensures 0)
    (get_or_read other c.loop-i.i _ in_other c.index-in-loop-i.ensures 0)))
    c.loop-i.invariant

pub returns-clause-bits : goal.returns-clause-bits
returns-clause-bits c =
    let before = c.args.self.now.words.items in
    let one = c.args.one.now.words.items in
    let other = c.args.other.now.words.items in
    let all : c.loop-i.i ≡ min (length before) (min (length one) (length other)) =
    omega (
      arith,
      c.loop-i-test.false,
      c.loop-i.auto.i-end,
      c.min-i-end.ensures,
      c.min-both.ensures,
      c.len.ensures,
      c.len-2.ensures,
      c.len-3.ensures,
      c.args.self.now.words.ok.0,
      c.args.one.now.words.ok.0,
      c.args.other.now.words.ok.0,
    ) in
    added-all c.loop-i.i before one other c.loop-i.self.words.items all c.loop-i.invariant

pub returns-clause-room : goal.returns-clause-room
returns-clause-room c = c.loop-i.invariant.same_length
