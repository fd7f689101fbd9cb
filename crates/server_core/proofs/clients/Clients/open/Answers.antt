use Rattle.std.proofs.Common.{rules, ◌≡◌, ◌∙◌, ap, sym, refl, Some, None, subst, List, Option}
use Rattle.std.proofs.lemmas.List.{get_or-set_other, get_or-set_same}
use Rattle.std.specs.Vec.{with_item}
use Rattle.std.specs.Prelude.{◌+◌, slice_index_or, ◌∷◌, [], ◌++◌}
use Rattle.slab.specs.Slab.{Slab, Updates, get}
use Rattle.session_state.specs.Sessions.{SessionValue}
use Rattle.server_core.specs.declared.clients.Clients.{Clients}
use Rattle.server_core.proofs.SlotLemmas.{opens-addresses, opens-sessions, opens-table}
use Rattle.server_core.proofs.SlotLemmas.{room-sessions, room-table, settled-goes}
use Rattle.server_core.proofs.NumberLemmas.{slot_in-more}
use Rattle.server_core.specs.Clients.{IsTable, slot_in}
use Rattle.server_core.proofs.clients.Clients.open.Goals as goal

pub returns-in_err-reserve-clause-err : goal.returns-in_err-reserve-clause-err
returns-in_err-reserve-clause-err c =
    let same : c.reserve.new.self.slots
    ≡ c.args.self.now.slots.slots = ap (λ (s : Slab SessionValue). s.slots) c.reserve.ensures.rest_kept in
    let is = room-sessions c.args.self.now (record c.args.self.now { slots = c.reserve.new.self }) refl refl same in
    search rules

pub returns-in_err-reserve-clause-settled : goal.returns-in_err-reserve-clause-settled
returns-in_err-reserve-clause-settled c = λ config rings settled here slot s e.
    let same : c.reserve.new.self.slots
    ≡ c.args.self.now.slots.slots = ap (λ (s : Slab SessionValue). s.slots) c.reserve.ensures.rest_kept in
    settled slot s (ap (λ (xs : List (Option SessionValue)). slice_index_or xs slot None) (sym same) ∙ e)

pub returns-in_err-make_room-clause-err : goal.returns-in_err-make_room-clause-err
returns-in_err-make_room-clause-err c =
    let same : c.reserve.new.self.slots
    ≡ c.args.self.now.slots.slots = ap (λ (s : Slab SessionValue). s.slots) c.reserve.ensures.rest_kept in
    let is = room-sessions c.args.self.now
    (record c.args.self.now { slots = c.reserve.new.self; numbers = c.make_room.new.numbers }) refl refl same in
    search rules

pub returns-in_err-make_room-clause-settled : goal.returns-in_err-make_room-clause-settled
returns-in_err-make_room-clause-settled c = λ config rings settled here slot s e.
    let same : c.reserve.new.self.slots
    ≡ c.args.self.now.slots.slots = ap (λ (s : Slab SessionValue). s.slots) c.reserve.ensures.rest_kept in
    settled slot s (ap (λ (xs : List (Option SessionValue)). slice_index_or xs slot None) (sym same) ∙ e)

pub returns-in_err-push-clause-err : goal.returns-in_err-push-clause-err
returns-in_err-push-clause-err c =
    let same : c.reserve.new.self.slots
    ≡ c.args.self.now.slots.slots = ap (λ (s : Slab SessionValue). s.slots) c.reserve.ensures.rest_kept in
    let is = room-sessions c.args.self.now
    (record c.args.self.now {
      opened = c.push.new.self;
      slots = c.reserve.new.self;
      numbers = c.make_room.new.numbers;
    }) refl
    c.in_err-push.ensures.items same in
    search rules

pub returns-in_err-push-clause-settled : goal.returns-in_err-push-clause-settled
returns-in_err-push-clause-settled c = λ config rings settled here slot s e.
    let same : c.reserve.new.self.slots
    ≡ c.args.self.now.slots.slots = ap (λ (s : Slab SessionValue). s.slots) c.reserve.ensures.rest_kept in
    settled slot s (ap (λ (xs : List (Option SessionValue)). slice_index_or xs slot None) (sym same) ∙ e)

-- the clients once there is room for one more
abbrev roomy : goal.After-new → Clients
roomy c = record c.args.self.now { slots = c.reserve.new.self }

same-slots : (c : goal.After-new) → c.reserve.new.self.slots ≡ c.args.self.now.slots.slots
same-slots c = ap (λ (s : Slab SessionValue). s.slots) c.reserve.ensures.rest_kept

updated : (c : goal.After-new)
    → Updates c.reserve.new.self c.insert_reserved-slot.new.self c.vacant_key-slot.result (Some c.args.session)
updated c = subst (λ k. Updates c.reserve.new.self c.insert_reserved-slot.new.self k (Some c.args.session))
    (c.insert_reserved-slot.ensures.key ∙ sym c.vacant_key-slot.ensures.value) c.insert_reserved-slot.ensures.updates

pub returns-in_err-make_room-clause-table : goal.returns-in_err-make_room-clause-table
returns-in_err-make_room-clause-table c =
    room-table c.args.self.now
    (record c.args.self.now { slots = c.reserve.new.self; numbers = c.make_room.new.numbers }) refl refl
    (ap (λ (s : Slab SessionValue). s.slots) c.reserve.ensures.rest_kept) c.make_room.ensures.kept c.requires

pub returns-in_err-push-clause-table : goal.returns-in_err-push-clause-table
returns-in_err-push-clause-table c =
    room-table c.args.self.now
    (record c.args.self.now {
      opened = c.push.new.self;
      slots = c.reserve.new.self;
      numbers = c.make_room.new.numbers;
    }) refl c.in_err-push.ensures.items
    (ap (λ (s : Slab SessionValue). s.slots) c.reserve.ensures.rest_kept) c.make_room.ensures.kept c.requires

roomy-table : (c : goal.After-new) → IsTable (roomy c)
roomy-table c =
    room-table c.args.self.now (roomy c) refl refl (same-slots c) (λ slot. refl) c.requires

pub returns-clause-table : goal.returns-clause-table
returns-clause-table c =
    opens-table (roomy c)
    (record {
      opens = c.args.self.now.opens + 1;
      opened = c.push.new.self;
      slots = c.insert_reserved-slot.new.self;
      numbers = with_item c.make_room.new.numbers c.vacant_key-slot.result (Some c.args.self.now.opens);
    }) c.vacant_key-slot.result c.args.address c.args.session
    (roomy-table c) refl c.in_ok-push.ensures.items
    c.vacant_key-slot.ensures.vacant (updated c)
    (get_or-set_same c.make_room.new.numbers.items c.vacant_key-slot.result (Some c.args.self.now.opens) None
    c.in_ok-make_room.ensures.room)
    (λ other apart. get_or-set_other c.make_room.new.numbers.items c.vacant_key-slot.result other
    (Some c.args.self.now.opens) None apart ∙ c.make_room.ensures.kept other)

pub returns-clause-opened : goal.returns-clause-opened
returns-clause-opened c =
    opens-sessions (roomy c)
    (record {
      opens = c.args.self.now.opens + 1;
      opened = c.push.new.self;
      slots = c.insert_reserved-slot.new.self;
      numbers = with_item c.make_room.new.numbers c.vacant_key-slot.result (Some c.args.self.now.opens);
    }) c.vacant_key-slot.result c.args.address c.args.session
    (roomy-table c) refl c.in_ok-push.ensures.items
    c.vacant_key-slot.ensures.vacant (updated c)
    ∙ ap (λ (xs : List (Option SessionValue)). xs ++ Some c.args.session ∷ [])
    (room-sessions c.args.self.now (roomy c) refl refl (same-slots c))

pub returns-clause-settled : goal.returns-clause-settled
returns-clause-settled c = λ config rings settled here.
    settled-goes config rings c.reserve.new.self c.insert_reserved-slot.new.self c.vacant_key-slot.result c.args.session
    (λ slot s e. settled slot s
    (ap (λ (xs : List (Option SessionValue)). slice_index_or xs slot None) (sym (same-slots c)) ∙ e)) here
    (updated c)

pub returns-clause-came : goal.returns-clause-came
returns-clause-came c =
    opens-addresses c.args.self.now
    (record {
      opens = c.args.self.now.opens + 1;
      opened = c.push.new.self;
      slots = c.insert_reserved-slot.new.self;
      numbers = with_item c.make_room.new.numbers c.vacant_key-slot.result (Some c.args.self.now.opens);
    }) c.vacant_key-slot.result c.args.address
    c.requires refl c.in_ok-push.ensures.items

pub returns-clause-others : goal.returns-clause-others
returns-clause-others c = λ other apart.
    ap (λ xs. slot_in xs other) c.in_ok-push.ensures.items
    ∙ slot_in-more c.args.self.now.opened.items
    (record { number = c.args.self.now.opens; slot = c.vacant_key-slot.result; address = c.args.address }) other
    (λ e. apart (sym e))
