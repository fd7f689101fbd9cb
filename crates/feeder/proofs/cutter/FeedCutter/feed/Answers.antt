-- Each way out reads the used bytes as the feed does.
use Rattle.std.proofs.Common.{◌-◌, ◌++◌, length, take, refl, ap, ◌∙◌, arith}
use Rattle.std.proofs.lemmas.List.{nil_from_length}
use Rattle.sl_packet.specs.UnfinishedValues.{UnfinishedValue}
use Rattle.feeder.proofs.CutterLemmas.{reads_piece, reads_record}
use Rattle.feeder.proofs.cutter.FeedCutter.feed.Goals as goal

pub returns-then-piece-missing : goal.returns-then-piece-missing
returns-then-piece-missing c =
    let same = ap length c.self.view_is in
    let bound = c.rest-held.ensures.bound in
    let held = c.rest-held.ensures.rest in (
      (refl, λ _. tt, c.hold.ensures ∙ ap (λ h. h ++ c.args.piece.now) c.self.view_is),
      record {
        used = omega arith;
        read = λ records. reads_piece records c.args.self.now c.args.piece.now (omega arith);
        bound = omega arith;
        rest = tt;
      },
    )

pub returns-then-held-eq0 : goal.returns-then-held-eq0
returns-then-held-eq0 c =
    let same = ap length c.self.view_is in
    let bound = c.rest-held.ensures.bound in
    let held = c.rest-held.ensures.rest in
    let nothing = nil_from_length c.args.self.now (omega arith) in
    let chunk = rw c.unwrap.ensures at c.first_chunk.ensures.cases in (
      (refl, λ _. tt, c.self.view_is ∙ nothing),
      record {
        used = omega arith;
        read = λ records. reads_record records c.args.self.now c.args.piece.now c.unwrap.result.now 512 (omega arith)
            (omega arith) (omega arith) (rw nothing chunk.same);
        bound = omega arith;
        rest = tt;
      },
    )

pub returns : goal.returns
returns c =
    let same = ap length c.self.view_is in
    let bound = c.rest-held.ensures.bound in
    let held = c.rest-held.ensures.rest in (
      (refl, λ _. tt, ap (λ (u : UnfinishedValue). u.held) c.complete.ensures),
      record {
        used = omega arith;
        read = λ records. reads_record records c.args.self.now c.args.piece.now c.whole.result.now
            (512 - c.rest-held.result) (omega arith) (omega arith) (omega arith)
            (c.whole.ensures ∙ ap (λ (u : UnfinishedValue). u.whole) c.complete.ensures
            ∙ ap (λ h. h ++ take (512 - c.rest-held.result) c.args.piece.now) c.self.view_is);
        bound = omega arith;
        rest = tt;
      },
    )
