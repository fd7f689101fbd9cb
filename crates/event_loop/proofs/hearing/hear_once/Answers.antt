use Rattle.std.proofs.Common.{length, ◌∙◌, [], ◌∷◌, refl, sym, ap, subst, Ok}
use Rattle.ports.specs.declared.answers.Happening.TheVariants.{Readable, Writable}
use Rattle.ports.specs.Calls.{Tells}
use Rattle.ports.specs.Calls.Call.{Next}
use Rattle.event_loop.specs.Tables.{IsTable}
use Rattle.event_loop.specs.Hearing.{feeds_in, readable_at, writable_at}
use Rattle.event_loop.proofs.TableLemmas.{table-map, feeds-map, readable-same, writable-same}
use Rattle.event_loop.proofs.HearLemmas.{hears-old, hears-quiet, hears-fault}
use Rattle.event_loop.proofs.AwakeLemmas.{known-told, length-told, seated-told}
use Rattle.event_loop.specs.Sleeping.{AreSeated}
use Rattle.event_loop.proofs.AwakeLemmas.{role-readable, role-writable}
use Rattle.event_loop.proofs.hearing.hear_once.Goals as goal

pub returns-in-Ok-Readable-clause-goes : goal.returns-in-Ok-Readable-clause-goes
returns-in-Ok-Readable-clause-goes g c = λ t config w stands.
    hears-old config c.args.seats.now.max_clients w (g.P.Ports.calls c.args.ports.now)
    (g.P.Ports.calls c.next.new.self) c.args.server.now t c.args.seats.now.all.items
    c.mark_readable.new.seats.items (Readable c.in-Ok-Readable.port) refl refl c.mark_readable.ensures.marks
    (subst (λ r. Tells (g.P.Ports.calls c.args.ports.now) (g.P.Ports.calls c.next.new.self) (Next r ∷ []))
    (c.in-Ok-Readable.is ∙ ap Ok c.in-Ok-Readable.field-0-is) c.next.ensures.call) stands

pub returns-in-Ok-Writable-clause-goes : goal.returns-in-Ok-Writable-clause-goes
returns-in-Ok-Writable-clause-goes g c = λ t config w stands.
    hears-old config c.args.seats.now.max_clients w (g.P.Ports.calls c.args.ports.now)
    (g.P.Ports.calls c.next.new.self) c.args.server.now t c.args.seats.now.all.items
    c.mark_writable.new.seats.items (Writable c.in-Ok-Writable.port) refl refl c.mark_writable.ensures.marks
    (subst (λ r. Tells (g.P.Ports.calls c.args.ports.now) (g.P.Ports.calls c.next.new.self) (Next r ∷ []))
    (c.in-Ok-Writable.is ∙ ap Ok c.in-Ok-Writable.field-0-is) c.next.ensures.call) stands

pub returns-in-Ok-Quiet-clause-goes : goal.returns-in-Ok-Quiet-clause-goes
returns-in-Ok-Quiet-clause-goes g c = λ t config w stands.
    hears-quiet config c.args.seats.now.max_clients w (g.P.Ports.calls c.args.ports.now)
    (g.P.Ports.calls c.next.new.self) c.args.server.now t c.args.seats.now.all.items
    (subst (λ r. Tells (g.P.Ports.calls c.args.ports.now) (g.P.Ports.calls c.next.new.self) (Next r ∷ []))
    (c.in-Ok-Quiet.is ∙ ap Ok c.in-Ok-Quiet.field-0-is) c.next.ensures.call) stands

pub returns-in-Err-clause-goes : goal.returns-in-Err-clause-goes
returns-in-Err-clause-goes g c = λ t config w stands.
    hears-fault config c.args.seats.now.max_clients w (g.P.Ports.calls c.args.ports.now)
    (g.P.Ports.calls c.next.new.self) c.args.server.now t c.args.seats.now.all.items _
    (subst (λ r. Tells (g.P.Ports.calls c.args.ports.now) (g.P.Ports.calls c.next.new.self) (Next r ∷ [])) c.in-Err.is
    c.next.ensures.call) stands

pub returns-in-Ok-Readable-clause-kept : goal.returns-in-Ok-Readable-clause-kept
returns-in-Ok-Readable-clause-kept g c = record {
  table =
      subst (IsTable c.args.seats.now.max_clients) (sym c.mark_readable.ensures.marks)
      (table-map (readable_at c.in-Ok-Readable.port)
      (readable-same c.in-Ok-Readable.port) c.args.seats.now.max_clients c.args.seats.now.all.items c.requires.table);
  known =
      known-told c.args.server.now c.args.seats.now.all.items c.mark_readable.new.seats.items
      c.args.seats.now.awake.items
      c.mark_readable.new.awake.items (ap length c.mark_readable.ensures.marks
      ∙ length-told (readable_at c.in-Ok-Readable.port) c.args.seats.now.all.items) c.mark_readable.ensures.count
      c.mark_readable.ensures.others c.requires.known;
  seated =
      subst (AreSeated c.args.server.now) (sym c.mark_readable.ensures.marks)
      (seated-told c.args.server.now (readable_at c.in-Ok-Readable.port) c.args.seats.now.all.items
      (role-readable c.in-Ok-Readable.port) c.requires.seated);
  feeds =
      c.requires.feeds ∙ sym (ap feeds_in c.mark_readable.ensures.marks
      ∙ feeds-map (readable_at c.in-Ok-Readable.port) (readable-same c.in-Ok-Readable.port) c.args.seats.now.all.items);
}

pub returns-in-Ok-Writable-clause-kept : goal.returns-in-Ok-Writable-clause-kept
returns-in-Ok-Writable-clause-kept g c = record {
  table =
      subst (IsTable c.args.seats.now.max_clients) (sym c.mark_writable.ensures.marks)
      (table-map (writable_at c.in-Ok-Writable.port)
      (writable-same c.in-Ok-Writable.port) c.args.seats.now.max_clients c.args.seats.now.all.items c.requires.table);
  known =
      known-told c.args.server.now c.args.seats.now.all.items c.mark_writable.new.seats.items
      c.args.seats.now.awake.items
      c.mark_writable.new.awake.items (ap length c.mark_writable.ensures.marks
      ∙ length-told (writable_at c.in-Ok-Writable.port) c.args.seats.now.all.items) c.mark_writable.ensures.count
      c.mark_writable.ensures.others c.requires.known;
  seated =
      subst (AreSeated c.args.server.now) (sym c.mark_writable.ensures.marks)
      (seated-told c.args.server.now (writable_at c.in-Ok-Writable.port) c.args.seats.now.all.items
      (role-writable c.in-Ok-Writable.port) c.requires.seated);
  feeds =
      c.requires.feeds ∙ sym (ap feeds_in c.mark_writable.ensures.marks
      ∙ feeds-map (writable_at c.in-Ok-Writable.port) (writable-same c.in-Ok-Writable.port) c.args.seats.now.all.items);
}
