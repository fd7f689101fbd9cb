use Rattle.std.proofs.Common.{◌≡◌, ◌∙◌, ◌-◌, [], false, nat_lt, length, sym, arith}
use Rattle.std.proofs.lemmas.Bool.Decides.{nat_tests}
use Rattle.session_state.proofs.ReceiveLemmas.{ending-news, ending-settled, received-news, received-settled}
use Rattle.session_state.proofs.session.Session.receive.Goals as goal

pub returns-then-is_ending-clause-settled : goal.returns-then-is_ending-clause-settled
returns-then-is_ending-clause-settled c =
    λ rest. ending-settled c.args.config.now c.args.self.now c.is_ending.result
    (c.is_ending.ensures c.args.config.now []) c.if-is_ending.true

pub returns-clause-client : goal.returns-clause-client
returns-clause-client c = λ h.
    let fits : nat_lt (1024 - length c.args.self.now.unread) (length c.args.bytes.now)
    ≡ false = grind (arith, nat_tests, c.room.ensures.value, c.if-bytes-room.false) in
    received-settled c.args.config.now h c.args.bytes.now c.args.self.now c.append.new.self c.settle.new.self
    c.settle.result fits (sym (c.is_ending.ensures c.args.config.now h) ∙ c.if-is_ending.false) c.append.ensures
    (c.settle.ensures.client h)

pub returns-then-is_ending-clause-news : goal.returns-then-is_ending-clause-news
returns-then-is_ending-clause-news c = λ h.
    ending-news c.args.config.now h c.args.bytes.now c.args.self.now
    (sym (c.is_ending.ensures c.args.config.now h) ∙ c.if-is_ending.true)

pub returns-clause-news : goal.returns-clause-news
returns-clause-news c = λ h.
    received-news c.args.config.now h c.args.bytes.now c.args.self.now c.append.new.self c.settle.new.self
    (sym (c.is_ending.ensures c.args.config.now h) ∙ c.if-is_ending.false) c.append.ensures
    (c.settle.ensures.news h)
