use Rattle.std.proofs.Common.{◌≡◌, ◌∙◌, ◌++◌, List, ap, drop, length, map, sym, subst, take}
use Rattle.std.proofs.lemmas.List.{length-map}
use Rattle.ports_logged.specs.Visitors.{AreUpTo, Rise, with_traffic}
use Rattle.ports_logged.specs.declared.visitor.Visitor.{Visitor}
use Rattle.ports_logged.proofs.VisitorLemmas.{refilled, rise-traffic, up-to-traffic}
use Rattle.ports_logged.proofs.visitors.Visitors.count.Goals as goal

pub invariant_of-self : goal.invariant_of-self
invariant_of-self c =
    let vs = c.self.inside.present.items in
    let new = c.count.new.present in
    let made : new ≡ map (with_traffic c.args.port c.args.more) vs =
    rw c.as_mut_slice.ensures.value at c.count.ensures in
    let same : length new ≡ length vs = ap length made ∙ length-map vs (with_traffic c.args.port c.args.more) in
    let whole : take c.self.inside.present.len (new ++ drop (length new) vs)
    ≡ map (with_traffic c.args.port c.args.more) vs =
    refilled c.self.inside.present.len vs new c.self.inside.present.ok.0 same ∙ made in (
      subst (λ (l : List Visitor). Rise l) (sym whole)
          (rise-traffic c.args.port c.args.more vs c.self.invariant.0),
      subst (λ (l : List Visitor). AreUpTo c.self.inside.last l) (sym whole)
          (up-to-traffic c.self.inside.last c.args.port c.args.more vs c.self.invariant.1),
    )
