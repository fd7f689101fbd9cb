-- What a call within reads is what this one reads.
use Rattle.std.proofs.Common.{◌≡◌, ◌==◌, false, length, refl}
use Rattle.sl_packet.specs.Progress.{HasBadByte}
use Rattle.sl_packet.specs.Progress.Progress.{Finished, Faulty}
use Rattle.sl_packet.proofs.PieceLemmas.{no_stream_of_bad}
use Rattle.sl_packet.proofs.CutterLemmas.{bad_behind_end, no_stream_on_err, bad_on_err, no_stream_when_faulty}
use Rattle.sl_packet.proofs.cutter.PacketCutter.feed.Goals as goal

pub returns-else-is_first_e : goal.returns-else-is_first_e
returns-else-is_first_e c =
    let amid = rw c.in-Within.is at c.self.view_is in (
      (refl, λ _. tt, c.feed_packet.follows.holds-at-none),
      record {
        fed = c.feed_packet.ensures.fed;
        no_stream = no_stream_on_err c.args.self.now c.args.piece.now c.feed_packet.result c.feed_packet.ensures.bad;
        bad = bad_on_err c.args.self.now c.args.piece.now c.feed_packet.result c.feed_packet.ensures.bad;
        for_good = λ e. absurd cc;
        left = tt;
      },
    )

pub returns-then-is_first_e : goal.returns-then-is_first_e
returns-then-is_first_e c =
    let amid = rw c.in-Within.is at c.self.view_is in (
      (refl, λ _. tt, c.feed_end.ensures.left),
      record {
        fed = c.feed_end.ensures.fed;
        no_stream = no_stream_on_err c.args.self.now c.args.piece.now c.feed_end.result c.feed_end.ensures.bad;
        bad = bad_on_err c.args.self.now c.args.piece.now c.feed_end.result c.feed_end.ensures.bad;
        for_good = λ e. absurd cc;
        left = tt;
      },
    )

pub returns-else-is_empty : goal.returns-else-is_empty
returns-else-is_empty c =
    let at_end = rw c.in-AtEnd.is at c.self.view_is in
    let ended : c.args.self.now ≡ Finished = cc in
    let some : (length c.args.piece.now == 0) ≡ false = cc in
    let bad : HasBadByte c.args.self.now c.args.piece.now = bad_behind_end c.args.self.now c.args.piece.now ended some
    in (
      (refl, λ _. tt, c.refuse.ensures),
      record {
        fed = tt;
        no_stream = λ packets. no_stream_of_bad c.args.self.now c.args.piece.now packets bad;
        bad = λ sound. bad;
        for_good = λ e. refl;
        left = tt;
      },
    )

pub returns-in-Refused : goal.returns-in-Refused
returns-in-Refused c =
    let refused = rw c.in-Refused.is at c.self.view_is in
    let faulty : c.args.self.now ≡ Faulty = cc in (
      (refl, λ _. tt, faulty),
      record {
        fed = tt;
        no_stream = λ packets. no_stream_when_faulty c.args.self.now c.args.piece.now packets faulty;
        bad = λ sound. absurd (sound faulty);
        for_good = λ e. refl;
        left = tt;
      },
    )
