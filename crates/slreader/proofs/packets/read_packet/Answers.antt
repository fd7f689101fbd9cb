-- What the cutter gives is what the reader gives byte by byte.
use Rattle.std.proofs.lemmas.Result.{err_from_is_err_and}
use Rattle.slreader.proofs.CutLemmas.{cut_nothing, cut_packet, cut_end, fed_bad}
use Rattle.slreader.proofs.packets.read_packet.Goals as goal

pub returns-in-Nothing-clause-first : goal.returns-in-Nothing-clause-first
returns-in-Nothing-clause-first c = λ r.
    cut_nothing r _ _ _ _ _ c.in_ok-fed.was c.feed.ensures.for_good c.in_ok-fed.ensures.fed c.in-Nothing.is
    c.feed.follows.holds-at-none

pub returns-in-Packet-clause-first : goal.returns-in-Packet-clause-first
returns-in-Packet-clause-first c = λ r.
    cut_packet r _ _ _ _ _ _ _ c.in_ok-fed.was c.feed.ensures.for_good c.in_ok-fed.ensures.fed c.in-Packet.is
    c.feed.follows.holds-at-none c.copy_from_slice.ensures.after

pub returns-in-End-clause-first : goal.returns-in-End-clause-first
returns-in-End-clause-first c = λ r.
    cut_end r _ _ _ _ _ c.in_ok-fed.was c.feed.ensures.for_good c.in_ok-fed.ensures.fed c.in-End.is
    c.feed.follows.holds-at-none

pub returns-in_err-fed-clause-first : goal.returns-in_err-fed-clause-first
returns-in_err-fed-clause-first c = λ r.
    let p = err_from_is_err_and c.from_residual.result c.from_residual.ensures.1 in
    rw p.1 (fed_bad r _ _ c.in_err-fed.ensures.bad)
