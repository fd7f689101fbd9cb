use Rattle.std.proofs.Common.{◌≡◌, ◌∙◌, ap, sym, subst, Some, None}
use Rattle.slab.specs.Slab.{get, with_value, Updates}
use Rattle.session_state.specs.Sessions.{SessionValue, client_in}
use Rattle.server_core.specs.ServerValues.{IsSettled, news_of}
use Rattle.server_core.proofs.MarkLemmas.{slot-looked}
use Rattle.server_core.proofs.NewsLemmas.{marked-told, settled-told}
use Rattle.server_core.proofs.SlotLemmas.{settled-goes, stays-open, wrote}
use Rattle.server_core.proofs.slots.take_news_in.Goals as goal

there : (c : goal.After-slots-in-Some-1) → get c.args.slots.now c.args.slot ≡ Some c.in-Some.session.now
there c = sym c.in-Some.ensures.value

updated : (c : goal.After-slots-in-Some-1)
    → Updates c.args.slots.now (with_value c.args.slots.now c.args.slot c.take_news.new.self) c.args.slot
    (Some c.take_news.new.self)
updated c = wrote c.args.slots.now c.args.slot c.in-Some.session.now c.take_news.new.self (there c)

pub returns-in-Some-clause-news : goal.returns-in-Some-clause-news
returns-in-Some-clause-news c = c.take_news.ensures.news ∙ ap news_of (sym (there c))

pub returns-in-Some-clause-changed : goal.returns-in-Some-clause-changed
returns-in-Some-clause-changed c = λ h.
    slot-looked c.args.config.now h c.args.slots.now
    (with_value c.args.slots.now c.args.slot c.take_news.new.self) c.args.slot c.in-Some.session.now
    c.take_news.new.self (there c) (updated c) (ap (client_in c.args.config.now h) c.take_news.ensures.left)
    (ap (λ (s : SessionValue). s.places) c.take_news.ensures.left)

pub returns-in-Some-clause-taken : goal.returns-in-Some-clause-taken
returns-in-Some-clause-taken c =
    ap news_of (updated c).changed ∙ ap (λ (s : SessionValue). s.news) c.take_news.ensures.left

pub returns-in-Some-clause-settled : goal.returns-in-Some-clause-settled
returns-in-Some-clause-settled c =
    settled-goes c.args.config.now c.args.rings.now c.args.slots.now
    (with_value c.args.slots.now c.args.slot c.take_news.new.self) c.args.slot c.take_news.new.self
    c.requires.settled
    (subst (IsSettled c.args.config.now c.args.rings.now) (sym c.take_news.ensures.left)
    (settled-told c.args.config.now c.args.rings.now c.in-Some.session.now None
    (c.requires.settled c.args.slot c.in-Some.session.now (there c))))
    (updated c)

pub returns-in-Some-clause-marked : goal.returns-in-Some-clause-marked
returns-in-Some-clause-marked c =
    marked-told c.args.config.now c.args.rings.now c.args.marks.now c.args.slots.now
    (with_value c.args.slots.now c.args.slot c.take_news.new.self) c.args.slot c.in-Some.session.now
    c.take_news.new.self c.requires.marked (there c) (updated c) c.take_news.ensures.left

pub returns-in-Some-clause-kept : goal.returns-in-Some-clause-kept
returns-in-Some-clause-kept c =
    stays-open c.args.slots.now (with_value c.args.slots.now c.args.slot c.take_news.new.self) c.args.slot
    c.take_news.new.self (updated c)
