-- Packets that are handed in one run.
use Rattle.std.proofs.Common.{◌≡◌, ℕ, ◌+◌, ◌≤◌, zero, suc, true, List, [], ◌∷◌, ◌++◌, length}
use Rattle.std.proofs.Common.{Option, Some, None, filter_map, slice_get, unwrap_or, refl, sym, ap, subst}
use Rattle.std.proofs.Common.{◌∙◌, arith}
use Rattle.std.specs.Prelude.{is_some}
use Rattle.protocol.specs.Catalog.{Config, Station}
use Rattle.protocol.specs.History.{Arrival, next}
use Rattle.protocol.specs.Packet.{packet}
use Rattle.protocol.specs.Pattern.{passes}
use Rattle.catalog.specs.Places.{HasDistinctCodes}
use Rattle.station_ring.specs.declared.held.Held.{Held}
use Rattle.station_ring.specs.HeldRecords.{RingsValue, IsArrival, holdings_of, ring_of}
use Rattle.station_ring.specs.Rings.{RingValue, held_at, number_at as ring_number}
use Rattle.station_ring.proofs.GrowthLemmas.{held_at-low}
use Rattle.station_ring.proofs.HistoryLemmas.{walk_all}
use Rattle.sl_lines.specs.declared.actions.Action.{Action}
use Rattle.session_state.specs.NamedValues.{Choice}
use Rattle.session_state.specs.declared.choices.Cursor.{Cursor}
use Rattle.session_state.specs.declared.session.State.{State}
use Rattle.session_state.specs.declared.session.State.TheVariants.{Transfer}
use Rattle.session_state.specs.Choices.{chosen_of, request_in}
use Rattle.session_state.specs.Sessions.{SessionValue}
use Rattle.transfer.specs.Choosing.{HoldsThere, IsAtCursor, IsHanded}
use Rattle.transfer.specs.Cursors.{HasPassed, OfAll, RestsAt, RestsIn}
use Rattle.transfer.specs.Runs.{HasSent, IsRun}
use Rattle.transfer.specs.Runs.AreHanded.{none, more}
use Rattle.transfer.specs.Searches.{at_place}
use Rattle.transfer.specs.Wanting.{facts_of, wants_held}
use Rattle.transfer.specs.declared.wanting.Found.TheVariants.{Wanted}
use Rattle.transfer.proofs.ChooseLemmas.{packet-offered}
use Rattle.transfer.proofs.CursorLemmas.{at_record, cursor-late, cursor-some, held_at-high, rests-wanted}
use Rattle.transfer.proofs.NextLemmas.{first-comes}
use Rattle.transfer.proofs.RestLemmas.{rests-moved}
use Rattle.transfer.proofs.SentLemmas.{sent-passed, wanted-found, wanted-passes}

-- What is known of arrivals at the places of a ring.
abbrev ArrivesThere : Type 0
ArrivesThere = (s : Station) (h : List Arrival) (place : ℕ) (x : Held) → 1 ≤ s.capacity
    → held_at (ring_of s h) place ≡ Some x → IsArrival s h (ring_number (ring_of s h) place) x

-- ---- what comes next

only-one : (cs : List Choice) (i : ℕ) (c : Choice) → length cs ≡ 1 → slice_get cs i ≡ Some c → cs ≡ c ∷ []
only-one [] i c e at = absurd cc
only-one (x ∷ []) zero c e at = ap (λ o. unwrap_or o x ∷ []) at
only-one (x ∷ []) (suc i) c e at = absurd cc
only-one (x ∷ y ∷ cs) i c e at = absurd (omega (arith, e))

-- The record at which a request rests comes next, where the request is the only one.
run-next : (config : Config) (h : List Arrival) (rings : RingsValue) (cs : List Choice) (i q : ℕ) (c : Choice)
    (a : Action) (r : RingValue) (k : Cursor) (x : Held) → rings ≡ holdings_of config h → slice_get cs i ≡ Some c
    → c.action ≡ Some a → slice_get rings.rings c.station ≡ Some r → RestsAt r q c k
    → held_at r k.ring_place ≡ Some x → length cs ≡ 1
    → Some x.stamp ≡ next h (filter_map (request_in config) cs) q
run-next config h rings cs i q c a r k x holds at asked there rests held alone =
    cursor-some r q c k x rests (sym held)
    ∙ first-comes walk_all config c h rings r q (ap is_some asked) holds there
    ∙ ap (λ ds. next h (filter_map (request_in config) ds) q) (sym (only-one cs i c alone at))

-- ---- one packet

handed-step : ArrivesThere → (config : Config) (h : List Arrival) (rings : RingsValue) (s : SessionValue) (t : State)
    (q place : ℕ) (r : RingValue) (x : Held) (out out' : List ℕ) → HasDistinctCodes config.entries
    → rings ≡ holdings_of config h → t ≡ Transfer q → s.waiting ≡ []
    → Some x.stamp ≡ next h (filter_map (request_in config) (chosen_of s.mode)) q → HoldsThere rings r place x
    → 1 ≤ r.capacity → length (packet (ring_number r place) x.bytes) ≡ 520
    → out' ≡ out ++ packet (ring_number r place) x.bytes
    → IsHanded config h (record s { state = t }) (record s { state = Transfer (x.stamp + 1) }) out out'
handed-step law config h rings s t q place r x out out' distinct holds state nothing is_next there some size is =
    record {
      packet = packet (ring_number r place) x.bytes;
      bytes = is;
      size = size;
      offers = packet-offered law config h rings (record s { state = t }) (record s { state = t })
          (record s { state = Transfer (x.stamp + 1); waiting = packet (ring_number r place) x.bytes }) q place r x
          distinct holds state nothing refl is_next there some refl;
    }

-- ---- the first packet of a run

passed-same : (r : RingValue) (next : ℕ) (c d : Choice) (k : Cursor) → d ≡ c → HasPassed r next d k
    → HasPassed r next c k
passed-same r next c d k same passed = subst (λ (y : Choice). HasPassed r next y k) same passed

first-sent : (rings : RingsValue) (cs : List Choice) (i place q : ℕ) (r : RingValue) (x : Held)
    → IsAtCursor rings cs i r place → held_at r place ≡ Some x → q ≤ x.stamp → OfAll (RestsIn rings q) cs
    → HasSent rings cs i r place x
first-sent rings cs i place q r x at there late rests = by at.choice.action refl
  where
    own : RestsIn rings q at.choice
    own = rests i at.choice at.at

    by : (o : Option Action) → at.choice.action ≡ o → HasSent rings cs i r place x
    by None quiet = absurd (let t : None ≡ Some at.stamp = sym (own.quiet quiet) ∙ at.ahead in cc)
    by (Some a) asked =
        let rest = own.rests r a at.ring_there asked in
        let here : held_at r at.choice.cursor.ring_place ≡ Some x = ap (held_at r) at.place_is ∙ there in
        let passed = sent-passed r q (x.stamp + 1) at.choice x late (omega arith) here rest in
        record {
          choice = at.choice;
          action = a;
          at = at.at;
          asked = asked;
          ring_there = at.ring_there;
          holding = rest.holding;
          is_passing = wanted-passes at.choice q x (rest.wanted x here);
          passed = subst (λ n. HasPassed r (x.stamp + 1) at.choice (at_place (n + 1) at.choice.cursor.ended))
              at.place_is passed;
        }

pub run-first : ArrivesThere → (rings : RingsValue) (cs : List Choice) (i place : ℕ) (r : RingValue) (x : Held)
    (out out' : List ℕ) → IsAtCursor rings cs i r place → HoldsThere rings r place x → 1 ≤ r.capacity
    → length (packet (ring_number r place) x.bytes) ≡ 520 → out' ≡ out ++ packet (ring_number r place) x.bytes
    → IsRun rings cs i r x.stamp out place x 1 out'
run-first law rings cs i place r x out out' at there some size is = record {
  sent = λ q late rests. first-sent rings cs i place q r x at there.there late rests;
  late = λ q late rests. omega arith;
  handed = λ q late rests config h holds distinct is_next s state nothing same.
      more s.state (Transfer (x.stamp + 1)) 0 out out' none refl
      (handed-step law config h rings s s.state q place r x out out' distinct holds state nothing
      (is_next ∙ ap (λ rs. next h rs q) (sym same)) there some size is);
}

-- ---- one more

-- the request rests at the record after the last one that was sent
next-rests : (rings : RingsValue) (cs : List Choice) (i place : ℕ) (r : RingValue) (item x : Held)
    → (sent : HasSent rings cs i r place item) → held_at r (place + 1) ≡ Some x
    → wants_held sent.choice (item.stamp + 1) x ≡ true
    → RestsAt r (item.stamp + 1) sent.choice (at_record r (place + 1) sent.choice.cursor.ended x.stamp)
next-rests rings cs i place r item x sent there wanted =
    let low = held_at-low r (place + 1) x there in
    let high = held_at-high r (place + 1) x sent.holding there in
    rests-wanted r (item.stamp + 1) sent.choice (place + 1) sent.choice.cursor.ended x.stamp (Wanted x.stamp)
    sent.holding (omega (arith, low.0)) high
    (wanted-found r (place + 1) sent.choice (item.stamp + 1) x there wanted) refl sent.passed

next-sent : (rings : RingsValue) (cs : List Choice) (i place : ℕ) (r : RingValue) (item x : Held)
    → (sent : HasSent rings cs i r place item) → held_at r (place + 1) ≡ Some x
    → wants_held sent.choice (item.stamp + 1) x ≡ true → HasSent rings cs i r (place + 1) x
next-sent rings cs i place r item x sent there wanted =
    let c = sent.choice in
    let k = at_record r (place + 1) c.cursor.ended x.stamp in
    let rests = next-rests rings cs i place r item x sent there wanted in
    let moved = rests-moved r (item.stamp + 1) c k rests in
    let late = cursor-late r (item.stamp + 1) c k x rests (sym there) in
    let passed =
    sent-passed r (item.stamp + 1) (x.stamp + 1) (record c { cursor = k }) x late (omega arith) there moved in
    record {
      choice = c;
      action = sent.action;
      at = sent.at;
      asked = sent.asked;
      ring_there = sent.ring_there;
      holding = sent.holding;
      is_passing = wanted-passes c (item.stamp + 1) x wanted;
      passed = record {
        within = passed.within;
        unwanted = passed.unwanted;
        told = passed.told;
        before = passed.before;
        after = passed.after;
      };
    }

pub run-more : ArrivesThere → (rings : RingsValue) (cs : List Choice) (i stamp place count : ℕ) (r : RingValue)
    (item x : Held) (out mid last : List ℕ) → IsRun rings cs i r stamp out place item count mid
    → HoldsThere rings r (place + 1) x → 1 ≤ r.capacity → length (packet (ring_number r (place + 1)) x.bytes) ≡ 520
    → last ≡ mid ++ packet (ring_number r (place + 1)) x.bytes
    → ((c : Choice) → slice_get cs i ≡ Some c → passes c.patterns (facts_of item.summary) ≡ true
    → wants_held c (item.stamp + 1) x ≡ true) → length cs ≡ 1
    → IsRun rings cs i r stamp out (place + 1) x (count + 1) last
run-more law rings cs i stamp place count r item x out mid last run there some size is wanted alone = record {
  sent = λ q late rests.
      let sent = run.sent q late rests in
      next-sent rings cs i place r item x sent there.there (wanted sent.choice sent.at sent.is_passing);
  late = λ q late rests.
      let sent = run.sent q late rests in
      let rest = next-rests rings cs i place r item x sent there.there (wanted sent.choice sent.at sent.is_passing) in
      let low = run.late q late rests in
      let after = cursor-late r (item.stamp + 1) sent.choice
      (at_record r (place + 1) sent.choice.cursor.ended x.stamp) x rest (sym there.there) in
      omega (arith, low, after);
  handed = λ q late rests config h holds distinct is_next s state nothing same.
      let sent = run.sent q late rests in
      let rest = next-rests rings cs i place r item x sent there.there (wanted sent.choice sent.at sent.is_passing) in
      let comes = run-next config h rings cs i (item.stamp + 1) sent.choice sent.action r
      (at_record r (place + 1) sent.choice.cursor.ended x.stamp) x holds sent.at sent.asked sent.ring_there rest
      there.there alone in
      more (Transfer (item.stamp + 1)) (Transfer (x.stamp + 1)) count mid last
      (run.handed q late rests config h holds distinct is_next s state nothing same) refl
      (handed-step law config h rings s (Transfer (item.stamp + 1)) (item.stamp + 1) (place + 1) r x mid last distinct
      holds refl nothing (comes ∙ ap (λ rs. next h rs (item.stamp + 1)) (sym same)) there some size is);
}
