use Rattle.std.proofs.Common.{◌≡◌, ◌∙◌, ℕ, ◌<◌, Option, arith, subst, sym, ap, length, ◌++◌, None}
use Rattle.std.proofs.lemmas.List.{get_or_default}
use Rattle.server_core.specs.Clients.{listed, owner_in}
use Rattle.server_core.specs.Marks.{IsAmong}
use Rattle.server_core.proofs.AmongLemmas.{AllAmong, OnlyAmong, all-among, among-first, among-next, only-next}
use Rattle.server_core.proofs.AmongLemmas.{only-none}
use Rattle.server_core.proofs.clients.Clients.list_set.Goals as goal

pub slots-init : goal.slots-init
slots-init c = record {
  among = among-first c.args.self.now.numbers.items c.args.row.now c.clear.new.self.items c.next_set-slot.result
      c.next_set-slot.ensures.passed;
  only = only-none c.args.self.now.opened.items c.args.row.now c.clear.new.self.items c.clear.ensures.items;
  here = c.next_set-slot.ensures.set;
  fits = c.next_set-slot.ensures.before;
}

pub slots-preserved : goal.slots-preserved
slots-preserved c =
    let numbers = c.args.self.now.numbers.items in
    let row = c.args.row.now in
    let here = c.slots.slot in
    let next = c.next_set-slot-in-slots.result in
    let some = c.slots.some.items in
    let inside : here < length numbers =
    omega (arith, c.slots-test.true, c.len-end.ensures, c.args.self.now.numbers.ok.0) in
    let more : c.add_owner.new.some.items ≡ some ++ listed (owner_in numbers here) =
    c.in_ok-add_owner.ensures.ok
    ∙ ap (λ (o : Option ℕ). some ++ listed o)
    (c.index.ensures ∙ get_or_default numbers here c.index.result.now None inside) in
    record {
      among = subst (AllAmong numbers row next) (sym more)
          (among-next numbers row some here next c.slots.invariant.among c.next_set-slot-in-slots.ensures.passed);
      only = subst (OnlyAmong c.args.self.now.opened.items row) (sym more)
          (only-next c.args.self.now.opened.items row some here (owner_in numbers here) c.slots.invariant.only
          (c.slots.invariant.here c.slots-test.true) (λ k. c.requires.owned k here));
      here = c.next_set-slot-in-slots.ensures.set;
      fits = c.next_set-slot-in-slots.ensures.before;
    }

pub returns-in_err-add_owner-clause-only : goal.returns-in_err-add_owner-clause-only
returns-in_err-add_owner-clause-only c = λ k is.
    c.slots.invariant.only k (subst (IsAmong k) c.in_err-add_owner.ensures.err is)

pub returns-clause-all : goal.returns-clause-all
returns-clause-all c = λ k slot opened bit.
    let numbers = c.args.self.now.numbers.items in
    let counted : length numbers ≡ c.slots.slot = omega (
      arith,
      c.slots-test.false,
      c.slots.invariant.fits,
      c.len-end.ensures,
      c.args.self.now.numbers.ok.0,
    ) in
    all-among numbers c.args.row.now c.slots.slot c.slots.some.items counted c.slots.invariant.among slot k bit
    (c.requires.numbered k slot opened)
