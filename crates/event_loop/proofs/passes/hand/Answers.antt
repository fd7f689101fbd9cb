use Rattle.std.proofs.Common.{rules, ◌≡◌, ◌<◌, ◌≤◌, sym, ap, ◌∙◌, arith, Ok, length, [], ◌∷◌, subst, option_map}
use Rattle.std.specs.Result.{result_ok}
use Rattle.ports.specs.Calls.{Tells, IsTaken}
use Rattle.ports.specs.Calls.Call.{Write}
use Rattle.ports.specs.declared.answers.Put.TheVariants.{Took, Later}
use Rattle.event_loop.proofs.WriteLemmas.{write-idle, write-ended, write-none, write-later}
use Rattle.event_loop.proofs.WriteLemmas.{write-failed, ended-over, gone-over, lent-waiting, never-empty, never-gone}
use Rattle.event_loop.proofs.passes.hand.Goals as goal

pub returns-in-Idle-clause-hands : goal.returns-in-Idle-clause-hands
returns-in-Idle-clause-hands g c = λ t config w offers.
    write-idle config w c.args.client.now
    (g.P.Ports.calls c.args.ports.now) c.args.server.now t c.args.seat.now c.requires.writable
    (sym (ap result_ok (c.in-Ok.is ∙ ap Ok c.in-Idle.is)) ∙ offers.answer)
    offers.stands

pub returns-in-Ended-clause-hands : goal.returns-in-Ended-clause-hands
returns-in-Ended-clause-hands g c = λ t config w offers.
    write-ended config w c.args.client.now (g.P.Ports.calls c.args.ports.now)
    (g.P.Ports.calls c.shut-in-Ended.new.ports) c.args.server.now c.shut-in-Ended.new.server t c.args.seat.now
    c.requires.writable
    (ended-over w c.args.client.now (sym (ap result_ok (c.in-Ok.is ∙ ap Ok c.in-Ended.is))
    ∙ offers.answer))
    offers.stands c.shut-in-Ended.ensures.call c.shut-in-Ended.ensures.stands

pub returns-in_default-clause-hands : goal.returns-in_default-clause-hands
returns-in_default-clause-hands g c = λ t config w offers.
    write-ended config w c.args.client.now (g.P.Ports.calls c.args.ports.now)
    (g.P.Ports.calls c.shut.new.ports) c.args.server.now c.shut.new.server t c.args.seat.now
    c.requires.writable
    (gone-over w c.args.client.now (sym (ap result_ok c.in_default.is) ∙ offers.answer))
    offers.stands c.shut.ensures.call c.shut.ensures.stands

pub returns-then-is_empty-clause-hands : goal.returns-then-is_empty-clause-hands
returns-then-is_empty-clause-hands g c = λ t config w offers.
    let at = offers.stands in
    let found = sym (ap result_ok (c.in-Ok.is ∙ ap Ok c.in-Bytes.is))
    ∙ offers.answer in
    let waits = sym (ap (λ r. option_map (λ bytes. bytes.now) (result_ok r)) c.in-Ok-waiting.is)
    ∙ c.waiting.ensures.answer config _ at in
    let none : length c.in-Ok-waiting.bytes.now ≡ 0 = search rules in
    absurd (never-empty config w c.args.client.now c.in-Ok-waiting.bytes.now found waits none)

pub returns-in-Err-clause-hands : goal.returns-in-Err-clause-hands
returns-in-Err-clause-hands g c = λ t config w offers.
    let at = offers.stands in
    let found = sym (ap result_ok (c.in-Ok.is ∙ ap Ok c.in-Bytes.is))
    ∙ offers.answer in
    let waits = sym (ap (λ r. option_map (λ bytes. bytes.now) (result_ok r)) c.in-Err.is)
    ∙ c.waiting.ensures.answer config _ at in
    absurd (never-gone config w c.args.client.now found waits)

pub returns-then-count-eq0-clause-hands : goal.returns-then-count-eq0-clause-hands
returns-then-count-eq0-clause-hands g c = λ t config w offers.
    let at = offers.stands in
    let found = sym (ap result_ok (c.in-Ok.is ∙ ap Ok c.in-Bytes.is))
    ∙ offers.answer in
    let waits = sym (ap (λ r. option_map (λ bytes. bytes.now) (result_ok r)) c.in-Ok-waiting.is)
    ∙ c.waiting.ensures.answer config _ at in
    let lent = lent-waiting config w c.args.client.now c.in-Ok-waiting.bytes.now waits in
    let some : 0 < length c.in-Ok-waiting.bytes.now = search rules in
    let is : c.write.result ≡ Ok (Took 0) = c.in-Ok-write.is ∙ ap Ok (c.in-Took.is ∙ ap Took c.if-count-eq0.true) in
    write-none config w c.args.client.now c.in-Ok-waiting.bytes.now (g.P.Ports.calls c.args.ports.now)
    (g.P.Ports.calls c.write.new.self) c.args.server.now t c.args.seat.now
    (record { role = c.requires.role; writable = c.requires.writable; some = some; all = lent })
    (subst
    (λ r. Tells (g.P.Ports.calls c.args.ports.now) (g.P.Ports.calls c.write.new.self)
    (Write c.args.seat.now.port c.in-Ok-waiting.bytes.now r ∷ [])) is c.write.ensures.call) at

pub returns-else-count-eq0-clause-hands : goal.returns-else-count-eq0-clause-hands
returns-else-count-eq0-clause-hands g c = λ t config w offers.
    let at = offers.stands in
    let waits = sym (ap (λ r. option_map (λ bytes. bytes.now) (result_ok r)) c.in-Ok-waiting.is)
    ∙ c.waiting.ensures.answer config _ at in
    let lent = lent-waiting config w c.args.client.now c.in-Ok-waiting.bytes.now waits in
    let some : 0 < length c.in-Ok-waiting.bytes.now = search rules in
    let is : c.write.result ≡ Ok (Took c.in-Took.count) = c.in-Ok-write.is ∙ ap Ok c.in-Took.is in
    let fits : c.in-Took.count ≤ length c.in-Ok-waiting.bytes.now =
    subst (λ r. IsTaken r (length c.in-Ok-waiting.bytes.now)) is
    c.write.ensures.bound in
    record {
      bytes = c.in-Ok-waiting.bytes.now;
      may = record { role = c.requires.role; writable = c.requires.writable; some = some; all = lent };
      is = c.in-Ok.is ∙ ap Ok c.in-Bytes.is;
      some = omega (arith, c.if-count-eq0.false);
      fits = fits;
      tells = subst
          (λ r. Tells (g.P.Ports.calls c.args.ports.now) (g.P.Ports.calls c.write.new.self)
          (Write c.args.seat.now.port c.in-Ok-waiting.bytes.now r ∷ [])) is c.write.ensures.call;
    }

pub returns-in-Later-clause-hands : goal.returns-in-Later-clause-hands
returns-in-Later-clause-hands g c = λ t config w offers.
    let at = offers.stands in
    let found = sym (ap result_ok (c.in-Ok.is ∙ ap Ok c.in-Bytes.is))
    ∙ offers.answer in
    let waits = sym (ap (λ r. option_map (λ bytes. bytes.now) (result_ok r)) c.in-Ok-waiting.is)
    ∙ c.waiting.ensures.answer config _ at in
    let lent = lent-waiting config w c.args.client.now c.in-Ok-waiting.bytes.now waits in
    let some : 0 < length c.in-Ok-waiting.bytes.now = search rules in
    let is : c.write.result ≡ Ok Later = c.in-Ok-write.is ∙ ap Ok c.in-Later.is in
    write-later config w c.args.client.now c.in-Ok-waiting.bytes.now (g.P.Ports.calls c.args.ports.now)
    (g.P.Ports.calls c.write.new.self) c.args.server.now t c.args.seat.now
    (record { role = c.requires.role; writable = c.requires.writable; some = some; all = lent })
    (subst
    (λ r. Tells (g.P.Ports.calls c.args.ports.now) (g.P.Ports.calls c.write.new.self)
    (Write c.args.seat.now.port c.in-Ok-waiting.bytes.now r ∷ [])) is c.write.ensures.call) at

pub returns-in_default-write-clause-hands : goal.returns-in_default-write-clause-hands
returns-in_default-write-clause-hands g c = λ t config w offers.
    let at = offers.stands in
    let found = sym (ap result_ok (c.in-Ok.is ∙ ap Ok c.in-Bytes.is))
    ∙ offers.answer in
    let waits = sym (ap (λ r. option_map (λ bytes. bytes.now) (result_ok r)) c.in-Ok-waiting.is)
    ∙ c.waiting.ensures.answer config _ at in
    let lent = lent-waiting config w c.args.client.now c.in-Ok-waiting.bytes.now waits in
    let some : 0 < length c.in-Ok-waiting.bytes.now = search rules in
    write-failed config w c.args.client.now c.in-Ok-waiting.bytes.now _ (g.P.Ports.calls c.args.ports.now)
    (g.P.Ports.calls c.write.new.self)
    (g.P.Ports.calls c.shut-in_default-write.new.ports) c.args.server.now c.shut-in_default-write.new.server t
    c.args.seat.now (record { role = c.requires.role; writable = c.requires.writable; some = some; all = lent })
    (subst
    (λ r. Tells (g.P.Ports.calls c.args.ports.now) (g.P.Ports.calls c.write.new.self)
    (Write c.args.seat.now.port c.in-Ok-waiting.bytes.now r ∷ [])) c.in_default-write.is c.write.ensures.call)
    c.shut-in_default-write.ensures.call at c.shut-in_default-write.ensures.stands
