use Rattle.std.proofs.Common.{◌≡◌, ◌≤◌, ◌<◌, length, set, refl, ap, ◌∙◌, arith, vec_len}
use Rattle.station_ring.specs.declared.held.Brief.{Brief}
use Rattle.station_ring.specs.declared.held.Held.{Held}
use Rattle.station_ring.specs.Blocks.{buffer, from_oldest, place_after}
use Rattle.station_ring.proofs.BlockLemmas.{filled-more, filled-over, from_oldest-more, from_oldest-over}
use Rattle.station_ring.proofs.BriefLemmas.{briefs-put, tells-made}
use Rattle.station_ring.proofs.records.Records.push.Goals as goal

pub invariant_of-self : goal.invariant_of-self
invariant_of-self c =
    let x : Held = record { stamp = c.args.stamp; bytes = c.args.bytes.now; summary = c.args.summary } in
    let b : Brief = record {
      start = c.args.summary.start;
      stop = c.args.summary.stop;
      stream = c.number-stream.result;
    } in
    let oldest = c.self.inside.oldest in
    let capacity = c.self.inside.capacity in
    let held = c.self.inside.held in
    let briefs = c.self.inside.briefs in
    let is = c.self.invariant in
    let room : vec_len held < capacity = omega (arith, c.if-len-self.true, c.len.ensures) in
    let first = is.0.first room in
    let few-held : length held.items < capacity = omega (arith, room, held.ok.0) in
    let few-briefs : length briefs.items < capacity = omega (arith, room, is.1, briefs.ok.0) in (
      rw c.push_reserved.ensures.len (filled-more oldest (vec_len held) capacity is.0 room),
      omega (arith, c.push_reserved.ensures.len, c.push_reserved-then-len-self.ensures.len, is.1),
      omega (arith, c.push_reserved.ensures.capacity, is.2),
      omega (arith, c.push_reserved-then-len-self.ensures.capacity, is.3),
      briefs-put c.self.inside.streams c.number-stream.new.self (from_oldest oldest held.items)
          (from_oldest oldest c.push_reserved.new.self.items) (from_oldest oldest briefs.items)
          (from_oldest oldest c.push_reserved-then-len-self.new.self.items) capacity x b
          (ap (from_oldest oldest) c.push_reserved.ensures.items
          ∙ from_oldest-more oldest capacity held.items x first few-held)
          (ap (from_oldest oldest) c.push_reserved-then-len-self.ensures.items
          ∙ from_oldest-more oldest capacity briefs.items b first few-briefs)
          c.number-stream.ensures.keeps c.number-stream.ensures.grows
          (tells-made c.number-stream.new.self x b c.stream.result refl refl c.stream.ensures
          c.number-stream.ensures.there c.number-stream.ensures.full)
          is.4,
    )

pub invariant_of-self-else-len-self : goal.invariant_of-self-else-len-self
invariant_of-self-else-len-self c =
    let x : Held = record { stamp = c.args.stamp; bytes = c.args.bytes.now; summary = c.args.summary } in
    let b : Brief = record {
      start = c.args.summary.start;
      stop = c.args.summary.stop;
      stream = c.number-stream.result;
    } in
    let oldest = c.self.inside.oldest in
    let capacity = c.self.inside.capacity in
    let held = c.self.inside.held in
    let briefs = c.self.inside.briefs in
    let is = c.self.invariant in
    let full : capacity ≤ vec_len held = omega (arith, c.if-len-self.false, c.len.ensures) in
    let all-held : length held.items ≡ capacity = omega (arith, full, is.0.few, held.ok.0) in
    let all-briefs : length briefs.items ≡ capacity = omega (arith, all-held, held.ok.0, is.1, briefs.ok.0) in (
      rw c.next_place-self-inside.ensures (filled-over oldest (vec_len held) capacity is.0 full),
      is.1,
      is.2,
      is.3,
      briefs-put c.self.inside.streams c.number-stream.new.self (from_oldest oldest held.items)
          (from_oldest c.next_place-self-inside.result (set held.items oldest c.write_over.new.held))
          (from_oldest oldest briefs.items)
          (from_oldest c.next_place-self-inside.result (set briefs.items oldest b)) capacity x b
          (ap (λ k. from_oldest k (set held.items oldest c.write_over.new.held)) c.next_place-self-inside.ensures
          ∙ ap (λ y. from_oldest (place_after oldest capacity) (set held.items oldest y)) c.write_over.ensures
          ∙ from_oldest-over oldest capacity held.items x is.0.oldest_place all-held)
          (ap (λ k. from_oldest k (set briefs.items oldest b)) c.next_place-self-inside.ensures
          ∙ from_oldest-over oldest capacity briefs.items b is.0.oldest_place all-briefs)
          c.number-stream.ensures.keeps c.number-stream.ensures.grows
          (tells-made c.number-stream.new.self x b c.stream.result refl refl c.stream.ensures
          c.number-stream.ensures.there c.number-stream.ensures.full)
          is.4,
    )

pub returns-else-len-self : goal.returns-else-len-self
returns-else-len-self c =
    let x : Held = record { stamp = c.args.stamp; bytes = c.args.bytes.now; summary = c.args.summary } in
    let oldest = c.self.inside.oldest in
    let capacity = c.self.inside.capacity in
    let held = c.self.inside.held in
    let is = c.self.invariant in
    let all-held : length held.items ≡ capacity =
    omega (arith, c.if-len-self.false, c.len.ensures, is.0.few, held.ok.0) in
    rw (← c.self.view_is)
    (ap (λ items. buffer items capacity)
    (ap (λ k. from_oldest k (set held.items oldest c.write_over.new.held)) c.next_place-self-inside.ensures
    ∙ ap (λ y. from_oldest (place_after oldest capacity) (set held.items oldest y)) c.write_over.ensures
    ∙ from_oldest-over oldest capacity held.items x is.0.oldest_place all-held))
