use Rattle.std.proofs.Common.{◌∙◌, ap, sym, refl, subst}
use Rattle.server_core.specs.Marks.{LeavesOthers, marks_of}
use Rattle.server_core.specs.ServerValues.{ServerValue, news_at}
use Rattle.server_core.proofs.SessionLemmas.{found, looked-there, with-marks}
use Rattle.server_core.proofs.SlotLemmas.{written-table}
use Rattle.server_core.proofs.SpareLemmas.{leaves-others, marks-same, serving-with}
use Rattle.server_core.proofs.CurrentLemmas.{current-goes, looked-over}
use Rattle.server_core.proofs.NewsLemmas.{news-nowhere, news-there}
use Rattle.server_core.proofs.server.Server.take_news.Goals as goal

pub invariant_of-self : goal.invariant_of-self
invariant_of-self c = (
  written-table c.self.inside.clients c.take_news_in.new.slots c.self.invariant.0 c.take_news_in.ensures.kept,
  c.take_news_in.ensures.settled,
  c.self.invariant.2,
  c.take_news_in.ensures.marked,
  c.self.invariant.4,
  c.self.invariant.5,
  current-goes c.self.inside.config c.self.invariant.5.history c.self.inside.clients c.args.client.now c.in-Some.slot
      (λ v x. x) looked-over c.take_news_in.new.slots c.self.invariant.0 (sym c.in-Some.ensures)
      (c.take_news_in.ensures.changed c.self.invariant.5.history)
      c.self.invariant.6,
)

pub returns-in-Some-clause-news : goal.returns-in-Some-clause-news
returns-in-Some-clause-news c =
    c.take_news_in.ensures.news
    ∙ sym (news-there c.self.inside.clients c.args.client.now c.in-Some.slot c.self.invariant.0
    (sym c.in-Some.ensures))
    ∙ ap (λ (s : ServerValue). news_at s c.args.client.now) c.self.view_is

pub returns-in-Some-clause-taken : goal.returns-in-Some-clause-taken
returns-in-Some-clause-taken c =
    news-there (record c.self.inside.clients { slots = c.take_news_in.new.slots }) c.args.client.now c.in-Some.slot
    (written-table c.self.inside.clients c.take_news_in.new.slots c.self.invariant.0 c.take_news_in.ensures.kept)
    (sym c.in-Some.ensures) ∙ c.take_news_in.ensures.taken

pub returns-in-Some-clause-stands : goal.returns-in-Some-clause-stands
returns-in-Some-clause-stands c = λ config w stands.
    let here = found c.self.inside.config c.self.inside.rings c.self.inside.clients c.self.inside.clients
    (marks_of c.self.inside.clients c.self.inside.marks) c.args.self.now config w c.self.view_is
    refl refl stands in
    with-marks _ (marks_of (record c.self.inside.clients { slots = c.take_news_in.new.slots }) c.self.inside.marks)
    config w
    (looked-there c.self.inside.config c.self.inside.rings c.self.inside.clients c.args.client.now config w
    c.take_news_in.new.slots c.in-Some.slot c.self.invariant.0 (sym c.in-Some.ensures)
    (c.take_news_in.ensures.changed w.history) here)

pub returns-in-Some-clause-marks : goal.returns-in-Some-clause-marks
returns-in-Some-clause-marks c =
    marks-same c.self.inside.clients
    (record c.self.inside.clients { slots = c.take_news_in.new.slots }) c.self.inside.marks c.self.inside.marks
    refl refl (λ slot. refl)
    ∙ ap (λ (s : ServerValue). s.marks) c.self.view_is

pub returns-in-Some-clause-others : goal.returns-in-Some-clause-others
returns-in-Some-clause-others c =
    (subst (λ s. LeavesOthers c.args.client.now s (serving-with c.self.inside.config c.self.inside.rings
    (record c.self.inside.clients { slots = c.take_news_in.new.slots }) c.self.inside.marks)) c.self.view_is
    (leaves-others c.self.inside.config c.self.inside.rings c.self.inside.clients
    (record c.self.inside.clients { slots = c.take_news_in.new.slots }) c.self.inside.marks c.self.inside.marks
    c.args.client.now
    c.self.invariant.0
    (written-table c.self.inside.clients c.take_news_in.new.slots c.self.invariant.0 c.take_news_in.ensures.kept)
    refl (λ other apart. refl)
    (λ other slot apart e. refl)))

pub returns-in-None-clause-news : goal.returns-in-None-clause-news
returns-in-None-clause-news c =
    sym (news-nowhere c.self.inside.clients c.args.client.now c.self.invariant.0 (sym c.in-None.ensures))
    ∙ ap (λ (s : ServerValue). news_at s c.args.client.now) c.self.view_is

pub returns-in-None-clause-taken : goal.returns-in-None-clause-taken
returns-in-None-clause-taken c =
    ap (λ (s : ServerValue). news_at s c.args.client.now) (sym c.self.view_is)
    ∙ news-nowhere c.self.inside.clients c.args.client.now c.self.invariant.0 (sym c.in-None.ensures)
