use Rattle.std.proofs.Common.{ap, ◌∙◌}
use Rattle.protocol.specs.Client.{reads}
use Rattle.session_state.specs.Sessions.{SessionValue, client_in}
use Rattle.session_state.proofs.SettleLemmas.{settle-step, settle-text}
use Rattle.session_state.proofs.session.Session.read_line.Goals as goal

pub read_byte-requires-clause-reads : goal.read_byte-requires-clause-reads
read_byte-requires-clause-reads c =
    λ h. ap (λ (s : SessionValue). reads (client_in c.args.config.now h s).state s.waiting)
    (c.next_byte-byte.ensures.rest) ∙ ap (λ (s : SessionValue). reads (client_in c.args.config.now h s).state s.waiting)
    c.take_text.ensures.taken ∙ c.requires.reads h

pub returns-then-has_unread-clause-reads : goal.returns-then-has_unread-clause-reads
returns-then-has_unread-clause-reads c =
    settle-step c.args.config.now c.take_text.new.self c.next_byte-byte.new.self c.read_byte.new.self _
    c.next_byte-byte.ensures.byte c.next_byte-byte.ensures.rest c.read_byte.ensures.client c.read_byte.ensures.places
    c.read_byte.ensures.unread c.read_byte.ensures.stays c.read_byte.ensures.kept c.read_byte.ensures.news
    (λ h. ap (λ (s : SessionValue). reads (client_in c.args.config.now h s).state s.waiting) c.take_text.ensures.taken
    ∙ c.requires.reads h) c.args.self.now
    (settle-text c.args.config.now c.args.self.now c.take_text.new.self c.take_text.ensures.taken
    c.take_text.ensures.text c.requires.reads)

pub returns-else-has_unread-clause-reads : goal.returns-else-has_unread-clause-reads
returns-else-has_unread-clause-reads c =
    settle-text c.args.config.now c.args.self.now c.take_text.new.self c.take_text.ensures.taken
    c.take_text.ensures.text c.requires.reads
