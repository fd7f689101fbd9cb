use Rattle.std.proofs.Common.{◌≡◌, ◌+◌, ◌<◌, ◌∙◌, Some, length, map, ap, arith, slice_get, sym}
use Rattle.std.specs.Prelude.{is_some, true}
use Rattle.std.proofs.lemmas.List.{length-map}
use Rattle.std.proofs.lemmas.Option.{slice_get_within}
use Rattle.station_ring.specs.Rings.{RingValue}
use Rattle.session_state.specs.declared.choices.Entry.{Entry}
use Rattle.session_state.specs.NamedValues.{entry_of}
use Rattle.session_state.specs.Choices.{chosen_of}
use Rattle.transfer.proofs.AloneLemmas.{others-looked}
use Rattle.transfer.proofs.EntryLemmas.{choice-there}
use Rattle.transfer.proofs.NextLemmas.{asked-some}
use Rattle.transfer.proofs.overview.alone.Goals as goal

pub returns-then-is_some-clause-others : goal.returns-then-is_some-clause-others
returns-then-is_some-clause-others c = λ next passed j x apart at.
    let rings = c.args.rings.now in
    let s = c.args.session.now in
    let cs = chosen_of s.mode in
    let i = c.in_ok-index.index in
    let only = c.in_ok-index.ensures in
    let count : length (map entry_of cs) ≡ length cs = length-map cs entry_of in
    let low : i < length (map entry_of cs) = slice_get_within (map entry_of cs) i only.entry only.at in
    let own = choice-there cs i (omega (arith, low, count)) in
    let entry : c.choice-entry.result.now ≡ entry_of own.0 = c.choice-entry.ensures own.0 own.1 in
    let some : is_some (own.0).action ≡ true =
    ap (λ (e : Entry). is_some e.action) (sym entry) ∙ sym c.is_some.ensures ∙ c.if-is_some.true in
    let asked = asked-some (own.0).action some in
    let q : RingValue = c.in_ok-ring.ring.now in
    let there : slice_get rings.rings (own.0).station ≡ Some q =
    ap (λ (e : Entry). slice_get rings.rings e.station) (sym entry) ∙ sym c.in_ok-ring.ensures.ring in
    let kept : s.looked ≡ Some c.in_ok-looked.looked = sym c.looked.ensures ∙ c.in_ok-looked.was in
    let seen : c.choice-entry.result.now.cursor.seen ≡ (own.0).cursor.seen =
    ap (λ (e : Entry). e.cursor.seen) entry in
    let pushes : c.pushes.result ≡ q.pushes = c.pushes.ensures in
    let arrivals : c.arrivals.result ≡ rings.arrivals = c.arrivals.ensures.value in
    let pushed = c.in_ok-pushed.ensures in
    let arrived = c.in_ok-arrived.ensures in
    let grown : q.pushes + c.in_ok-looked.looked ≡ rings.arrivals + (own.0).cursor.seen =
    omega (arith, pushed.0, pushed.1, arrived.0, arrived.1, c.if-pushed-arrived.true) in
    others-looked rings next c.in_ok-looked.looked i c.latest.result s own.0 asked.0 q passed kept only own.1 asked.1
    there grown j x apart at
