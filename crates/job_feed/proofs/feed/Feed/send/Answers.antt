-- What the connection took is what was counted.
use Rattle.job_feed.proofs.HandingLaws.{send-all, send-all-counted, send-counted}
use Rattle.job_feed.proofs.feed.Feed.send.Goals as goal

pub returns-clause-all : goal.returns-clause-all
returns-clause-all g c =
    send-all (g.S.Source.left c.args.records.now) c.args.self.now.taken c.send.new.writer.taken
    (g.T.Write.contents c.args.self.now.stream) (g.T.Write.contents c.send.new.writer.stream)
    c.in_ok-send.ensures.ok

pub returns-clause-counted : goal.returns-clause-counted
returns-clause-counted g c =
    send-all-counted (g.S.Source.left c.args.records.now) c.args.self.now.taken c.send.new.writer.taken
    (g.T.Write.contents c.args.self.now.stream) (g.T.Write.contents c.send.new.writer.stream)
    c.in_ok-send.ensures.ok

pub returns-in_err-send-clause-counted : goal.returns-in_err-send-clause-counted
returns-in_err-send-clause-counted g c =
    send-counted (g.S.Source.left c.args.records.now) c.args.self.now.taken c.send.new.writer.taken
    (g.T.Write.contents c.args.self.now.stream) (g.T.Write.contents c.send.new.writer.stream)
    c.in_err-send.ensures.begun
