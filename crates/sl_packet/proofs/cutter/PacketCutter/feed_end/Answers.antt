-- What the piece is to the end says what is read.
use Rattle.std.proofs.Common.{arith}
use Rattle.sl_packet.proofs.EndLemmas.{few_of_end}
use Rattle.sl_packet.proofs.CutterLemmas.{feeds_end, begun_in_end, short_in_end, feeds_part_of_end, bad_end}
use Rattle.sl_packet.specs.Progress.{rest_in}
use Rattle.sl_packet.proofs.cutter.PacketCutter.feed_end.Goals as goal

pub missing_of_end-missing-requires : goal.missing_of_end-missing-requires
missing_of_end-missing-requires c = let few =
    few_of_end (rest_in c.args.self.now) c.args.piece.now c.held.ensures.begun c.requires.first in omega arith

pub hold-requires-clause-short : goal.hold-requires-clause-short
hold-requires-clause-short c =
    short_in_end (rest_in c.args.self.now) c.args.piece.now c.held.ensures.begun c.requires.first (cc)

pub hold-requires-clause-begun : goal.hold-requires-clause-begun
hold-requires-clause-begun c =
    begun_in_end (rest_in c.args.self.now) c.args.piece.now c.held.ensures.begun c.requires.first (cc)

pub returns-in-Whole-clause-fed : goal.returns-in-Whole-clause-fed
returns-in-Whole-clause-fed c =
    feeds_end c.args.self.now c.args.piece.now _ c.requires.amid c.held.ensures.begun c.requires.first (cc) (cc)

pub returns-in-Unfinished-clause-fed : goal.returns-in-Unfinished-clause-fed
returns-in-Unfinished-clause-fed c =
    feeds_part_of_end c.args.self.now c.args.piece.now c.requires.amid c.held.ensures.begun c.requires.first (cc)

pub returns-in-Other-clause-bad : goal.returns-in-Other-clause-bad
returns-in-Other-clause-bad c =
    bad_end c.args.self.now c.args.piece.now c.requires.amid c.held.ensures.begun c.requires.first (cc)
