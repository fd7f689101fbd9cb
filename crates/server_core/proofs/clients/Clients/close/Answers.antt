use Rattle.std.proofs.Common.{rules, ◌≡◌, arith, ap, sym, subst, None, refl}
use Rattle.std.proofs.lemmas.List.{get_or-set_other, get_or-set_same}
use Rattle.std.specs.Vec.{with_item}
use Rattle.server_core.proofs.AmongLemmas.{owner-inside}
use Rattle.std.specs.Prelude.{IsSome}
use Rattle.server_core.specs.Clients.{IsNumberAt, in_slot, slot_in}
use Rattle.server_core.proofs.NumberLemmas.{its-slot-at}
use Rattle.server_core.proofs.SlotLemmas.{closes-addresses, closes-no-address, closes-nothing, closes-sessions}
use Rattle.server_core.proofs.SlotLemmas.{closes-table, settled-leaves}
use Rattle.std.proofs.Common.{◌∙◌}
use Rattle.server_core.proofs.NumberLemmas.{slot_in-less}
use Rattle.server_core.proofs.clients.Clients.close.Goals as goal

pub index_mut-requires : goal.index_mut-requires
index_mut-requires c =
    let os = c.args.self.now.opened.items in
    let found : IsNumberAt os c.args.number c.in_ok-at.at = search rules in
    let its-slot = its-slot-at os c.args.number c.in_ok-at.at c.remove-gone.result c.requires.rising found
    c.remove-gone.ensures.value in
    let inside = owner-inside c.args.self.now.numbers.items c.remove-gone.result.slot c.args.number
    (c.requires.numbered c.args.number c.remove-gone.result.slot its-slot) in
    omega (arith, inside, c.args.self.now.numbers.ok.0)

pub returns-in_err-at-clause-closed : goal.returns-in_err-at-clause-closed
returns-in_err-at-clause-closed c =
    let none : slot_in c.args.self.now.opened.items c.args.number ≡ None = search rules in
    closes-nothing c.args.self.now c.args.number none

pub returns-clause-table : goal.returns-clause-table
returns-clause-table c =
    let os = c.args.self.now.opened.items in
    let found : IsNumberAt os c.args.number c.in_ok-at.at = search rules in
    let its-slot = its-slot-at os c.args.number c.in_ok-at.at c.remove-gone.result c.requires.rising found
    c.remove-gone.ensures.value in
    closes-table c.args.self.now
    (record {
      opens = c.args.self.now.opens;
      opened = c.remove-gone.new.self;
      slots = c.try_remove-session.new.self;
      numbers = with_item c.args.self.now.numbers c.remove-gone.result.slot None;
    })
    c.args.number c.in_ok-at.at c.remove-gone.result.slot c.requires found its-slot refl c.remove-gone.ensures.items
    c.try_remove-session.ensures.updates
    (get_or-set_same c.args.self.now.numbers.items c.remove-gone.result.slot None None
    (owner-inside c.args.self.now.numbers.items c.remove-gone.result.slot c.args.number
    (c.requires.numbered c.args.number c.remove-gone.result.slot its-slot)))
    (λ other apart. get_or-set_other c.args.self.now.numbers.items c.remove-gone.result.slot other None None apart)

pub returns-clause-closed : goal.returns-clause-closed
returns-clause-closed c =
    let os = c.args.self.now.opened.items in
    let found : IsNumberAt os c.args.number c.in_ok-at.at = search rules in
    let its-slot = its-slot-at os c.args.number c.in_ok-at.at c.remove-gone.result c.requires.rising found
    c.remove-gone.ensures.value in
    closes-sessions c.args.self.now
    (record {
      opens = c.args.self.now.opens;
      opened = c.remove-gone.new.self;
      slots = c.try_remove-session.new.self;
      numbers = with_item c.args.self.now.numbers c.remove-gone.result.slot None;
    })
    c.args.number c.in_ok-at.at c.remove-gone.result.slot c.requires found its-slot refl c.remove-gone.ensures.items
    c.try_remove-session.ensures.updates

pub returns-clause-answer : goal.returns-clause-answer
returns-clause-answer c =
    let os = c.args.self.now.opened.items in
    let found : IsNumberAt os c.args.number c.in_ok-at.at = search rules in
    let its-slot = its-slot-at os c.args.number c.in_ok-at.at c.remove-gone.result c.requires.rising found
    c.remove-gone.ensures.value in
    sym
    (subst IsSome (ap (in_slot c.args.self.now.slots) (sym its-slot))
    (c.requires.there c.args.number c.remove-gone.result.slot its-slot))

pub returns-clause-freed : goal.returns-clause-freed
returns-clause-freed c = c.try_remove-session.ensures.updates

pub returns-clause-settled : goal.returns-clause-settled
returns-clause-settled c = λ config rings settled.
    settled-leaves config rings c.args.self.now.slots c.try_remove-session.new.self c.remove-gone.result.slot settled
    c.try_remove-session.ensures.updates

pub returns-in_err-at-clause-left : goal.returns-in_err-at-clause-left
returns-in_err-at-clause-left c =
    let none : slot_in c.args.self.now.opened.items c.args.number ≡ None = search rules in
    closes-no-address c.args.self.now c.args.number none

pub returns-clause-left : goal.returns-clause-left
returns-clause-left c =
    let os = c.args.self.now.opened.items in
    let found : IsNumberAt os c.args.number c.in_ok-at.at = search rules in
    closes-addresses c.args.self.now
    (record {
      opens = c.args.self.now.opens;
      opened = c.remove-gone.new.self;
      slots = c.try_remove-session.new.self;
      numbers = with_item c.args.self.now.numbers c.remove-gone.result.slot None;
    })
    c.args.number c.in_ok-at.at c.requires found refl c.remove-gone.ensures.items

pub returns-clause-slot : goal.returns-clause-slot
returns-clause-slot c =
    let os = c.args.self.now.opened.items in
    let found : IsNumberAt os c.args.number c.in_ok-at.at = search rules in
    sym (its-slot-at os c.args.number c.in_ok-at.at c.remove-gone.result c.requires.rising found
    c.remove-gone.ensures.value)

pub returns-clause-others : goal.returns-clause-others
returns-clause-others c = λ other apart.
    let os = c.args.self.now.opened.items in
    let found : IsNumberAt os c.args.number c.in_ok-at.at = search rules in
    ap (λ xs. slot_in xs other) c.remove-gone.ensures.items
    ∙ slot_in-less os c.args.number c.in_ok-at.at other apart found
