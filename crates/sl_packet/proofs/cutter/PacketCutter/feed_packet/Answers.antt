-- Each way out reads the used bytes as the stream does.
use Rattle.std.proofs.Common.{◌≡◌, ◌-◌, true, false, length, refl, ap, ◌∙◌, arith}
use Rattle.std.proofs.lemmas.List.{nil_from_length}
use Rattle.protocol.specs.Streams.{may_continue}
use Rattle.sl_packet.proofs.CutterLemmas.{begun_in_packet, feeds_part, feeds_packet, bad_packet, goes_on}
use Rattle.sl_packet.specs.Progress.{rest_in}
use Rattle.sl_packet.specs.Progress.Progress.{Amid}
use Rattle.sl_packet.proofs.cutter.PacketCutter.feed_packet.Goals as goal

pub hold-requires-clause-begun : goal.hold-requires-clause-begun
hold-requires-clause-begun c =
    let more : may_continue (length (rest_in c.args.self.now)) c.args.piece.now ≡ true = cc in
    begun_in_packet (rest_in c.args.self.now) c.args.piece.now c.held-held.ensures.begun c.requires.first more

pub returns-then-not-may_continue : goal.returns-then-not-may_continue
returns-then-not-may_continue c =
    let more : may_continue (length (rest_in c.args.self.now)) c.args.piece.now ≡ false = cc in (
      (refl, λ _. tt, c.refuse.ensures),
      record {
        fed = tt;
        bad =
            bad_packet c.args.self.now c.args.piece.now c.requires.amid c.held-held.ensures.begun c.requires.first more;
        left = tt;
      },
    )

pub returns-then-piece-missing : goal.returns-then-piece-missing
returns-then-piece-missing c =
    let more : may_continue (length (rest_in c.args.self.now)) c.args.piece.now ≡ true = cc in
    let held = c.held-held.ensures.same in
    let bound = c.held-held.ensures.bound in (
      (refl, λ _. tt, c.hold.ensures ∙ goes_on c.args.self.now c.args.piece.now c.requires.amid),
      record {
        fed =
            feeds_part c.args.self.now c.args.piece.now c.requires.amid c.held-held.ensures.begun c.requires.first more
            (omega arith);
        bad = tt;
        left = tt;
      },
    )

pub returns-then-held-eq0 : goal.returns-then-held-eq0
returns-then-held-eq0 c =
    let more : may_continue (length (rest_in c.args.self.now)) c.args.piece.now ≡ true = cc in
    let held = c.held-held.ensures.same in
    let bound = c.held-held.ensures.bound in
    let nothing = nil_from_length (rest_in c.args.self.now) (omega arith) in
    let chunk = rw c.unwrap.ensures at c.first_chunk.ensures.cases in (
      (refl, λ _. tt, c.requires.amid ∙ ap Amid nothing),
      record {
        fed =
            feeds_packet c.args.self.now c.args.piece.now _ 520 c.requires.amid c.held-held.ensures.begun
            c.requires.first more (omega arith) (omega arith) (omega arith) (rw nothing chunk.same);
        bad = tt;
        left = tt;
      },
    )

pub returns : goal.returns
returns c =
    let more : may_continue (length (rest_in c.args.self.now)) c.args.piece.now ≡ true = cc in
    let held = c.held-held.ensures.same in
    let bound = c.held-held.ensures.bound in (
      (refl, λ _. tt, c.complete.follows.holds-at-none),
      record {
        fed = feeds_packet c.args.self.now c.args.piece.now _
            (520 - c.held-held.result) c.requires.amid c.held-held.ensures.begun c.requires.first more (omega arith)
            (omega arith) (omega arith) c.complete.ensures.whole;
        bad = tt;
        left = tt;
      },
    )
