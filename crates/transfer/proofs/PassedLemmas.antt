-- A session that goes on in its transfer has still passed nothing that it wants.
use Rattle.std.proofs.Common.{◌≡◌, ◌≢◌, ℕ, ◌+◌, ◌≤◌, true, false, nat_le, List, [], refl, sym, ap, subst}
use Rattle.std.proofs.Common.{◌∙◌, arith, codes, slice_get, Some, None, unwrap_or}
use Rattle.std.specs.Prelude.{◌==◌}
use Rattle.std.proofs.lemmas.Bool.Decides.{nat_tests}
use Rattle.protocol.proofs.FoundLemmas.{both}
use Rattle.station_ring.specs.declared.held.Held.{Held}
use Rattle.station_ring.specs.Rings.{RingValue}
use Rattle.station_ring.specs.HeldRecords.{RingsValue, AllGrow, GrowByOne}
use Rattle.sl_lines.specs.declared.actions.Action.{Action}
use Rattle.session_state.specs.NamedValues.{Choice, ahead_of}
use Rattle.session_state.specs.declared.choices.Cursor.{Cursor}
use Rattle.session_state.specs.declared.session.State.TheVariants.{Transfer, Ending}
use Rattle.session_state.specs.Choices.{chosen_of}
use Rattle.session_state.specs.Sessions.{SessionValue, KeepsTransfer, but_for_cursors}
use Rattle.transfer.specs.declared.choosing.Chosen.{Chosen}
use Rattle.transfer.specs.declared.choosing.Chosen.TheVariants.{Packet, Nothing, Complete}
use Rattle.transfer.specs.Wanting.{wants_held}
use Rattle.transfer.specs.Cursors.{ArePassed, HasLooked, HasPassed, HasPassedAll, HaveLookedAt, IsLooked, IsReached}
use Rattle.transfer.specs.Cursors.{OfAll, PassedIn, RestedAt, RestsIn}
use Rattle.transfer.proofs.RestLemmas.{Passes}

pub same-next : (q next : ℕ) → Transfer q ≡ Transfer next → q ≡ next
same-next q next e = cc

-- what a session has passed
pub passed-all : (rings : RingsValue) (s : SessionValue) → ArePassed rings s → (next : ℕ) → s.state ≡ Transfer next
    → HasPassedAll rings next s
unfolding ArePassed
passed-all rings s passed next state = passed.all next state

-- What is not wanted from one position on is not wanted from a later one on.
pub unwanted-later : (c : Choice) (q next : ℕ) (x : Held) → q ≤ next → wants_held c q x ≡ false
    → wants_held c next x ≡ false
unwanted-later c q next x later e =
    both (nat_le next x.stamp)
    (λ y. let before : nat_le q x.stamp ≡ true = grind (arith, nat_tests) in rw y (rw before at e))
    (λ n. rw n refl)

-- What is wanted and may still be sent is wanted from a later position on.
wanted-later : (c : Choice) (q next : ℕ) (x : Held) → next ≤ x.stamp → wants_held c q x ≡ true
    → wants_held c next x ≡ true
wanted-later c q next x late e =
    let test : nat_le next x.stamp ≡ true = grind (arith, nat_tests) in
    both (nat_le q x.stamp)
    (λ y. rw test (rw y at e))
    (λ n. absurd (let t : false ≡ true = rw n at e in cc))

passed-later : (r : RingValue) (q next : ℕ) (c : Choice) (k : Cursor) → q ≤ next → HasPassed r q c k
    → HasPassed r next c k
passed-later r q next c k later passed = record {
  within = passed.within;
  unwanted = λ place x low there. unwanted-later c q next x later (passed.unwanted place x low there);
  told = passed.told;
  before = passed.before;
  after = passed.after;
}

pub rests-passed : (rings : RingsValue) (q next : ℕ) (c : Choice) → q ≤ next → RestsIn rings q c → PassedIn rings next c
rests-passed rings q next c later rests = record {
  passed = λ r action there asked. let rest = rests.rests r action there asked in record {
    passed = passed-later r q next c c.cursor later rest.passed;
    seen = omega (arith, rest.seen);
    fresh = λ e. record {
      low = rest.low;
      wanted = λ x held late. wanted-later c q next x late (rest.wanted x held);
      ahead = rest.ahead;
      holding = rest.holding;
    };
  };
  quiet = rests.quiet;
}

-- A session whose requests rest has looked at all rings.
rests-looked : (rings : RingsValue) (q : ℕ) (s : SessionValue) → s.looked ≡ Some rings.arrivals
    → OfAll (RestsIn rings q) (chosen_of s.mode) → IsLooked rings s
rests-looked rings q s kept rests = record {
  late = λ n e. let t : Some n ≡ Some rings.arrivals = sym e ∙ kept in
      let same : n ≡ rings.arrivals = cc in omega (arith, same);
  seen = λ e i c at. record {
    seen = λ r action there asked. ((rests i c at).rests r action there asked).seen;
    nowhere = (rests i c at).nowhere;
  };
  since = λ n e. record {
    two = λ i j c d q r a b at_i at_j apart there_i there_j asked_i asked_j.
        let t : Some n ≡ Some rings.arrivals = sym e ∙ kept in
        let same : n ≡ rings.arrivals = cc in
        let one : c.cursor.seen ≡ q.pushes = ((rests i c at_i).rests q a there_i asked_i).seen in
        let other : d.cursor.seen ≡ r.pushes = ((rests j d at_j).rests r b there_j asked_j).seen in
        omega arith;
    nowhere = λ i c at. (rests i c at).nowhere;
  };
}

pub packet-passes : (rings : RingsValue) (a n : SessionValue) (q p : ℕ) (w : List ℕ)
    → n ≡ record a { state = Transfer (p + 1); waiting = w } → q ≤ p → a.looked ≡ Some rings.arrivals
    → OfAll (RestsIn rings q) (chosen_of a.mode) → ArePassed rings n
unfolding ArePassed
packet-passes rings a n q p w made late kept rests =
    let still : OfAll (RestsIn rings q) (chosen_of n.mode) =
    (λ i c at. rests i c (ap (λ (s : SessionValue). slice_get (chosen_of s.mode) i) (sym made) ∙ at)) in
    record {
      all = λ next state.
          let is : p + 1 ≡ next = same-next (p + 1) next (ap (λ (s : SessionValue). s.state) (sym made) ∙ state) in
          record {
            passed = λ i c at. rests-passed rings q next c (omega arith) (still i c at);
            looked = rests-looked rings q n (ap (λ (s : SessionValue). s.looked) made ∙ kept) still;
          };
    }

pub same-passes : (rings : RingsValue) (a : SessionValue) (q : ℕ) → a.state ≡ Transfer q
    → a.looked ≡ Some rings.arrivals → OfAll (RestsIn rings q) (chosen_of a.mode) → ArePassed rings a
unfolding ArePassed
same-passes rings a q state kept rests = record {
  all = λ next now.
      let is : q ≡ next = same-next q next (sym state ∙ now) in
      record {
        passed = λ i c at. rests-passed rings q next c (omega arith) (rests i c at);
        looked = rests-looked rings q a kept rests;
      };
}

pub ended-passes : (rings : RingsValue) (a n : SessionValue) (q : ℕ) (answer : Chosen)
    → (answer ≡ Complete → n ≡ record a { state = Ending; unread = []; waiting = codes "END" })
    → (answer ≡ Nothing → n ≡ a) → answer ≢ Packet → a.state ≡ Transfer q → a.looked ≡ Some rings.arrivals
    → OfAll (RestsIn rings q) (chosen_of a.mode) → ArePassed rings n
unfolding ArePassed
ended-passes rings a n q Packet ends same other state kept rests = absurd (other refl)
ended-passes rings a n q Nothing ends same other state kept rests =
    subst (ArePassed rings) (sym (same refl)) (same-passes rings a q state kept rests)
ended-passes rings a n q Complete ends same other state kept rests = record {
  all = λ next now. absurd (
      let t : Ending ≡ Transfer next = ap (λ (s : SessionValue). s.state) (sym (ends refl)) ∙ now in cc);
}

pub ended-reached : (rings : RingsValue) (a n : SessionValue) → n ≡ a → OfAll (IsReached rings) (chosen_of a.mode)
    → OfAll (IsReached rings) (chosen_of n.mode)
ended-reached rings a n same reached =
    subst (λ (s : SessionValue). OfAll (IsReached rings) (chosen_of s.mode)) (sym same) reached

-- ---- what others do

-- A call that keeps a session in its transfer, if it is in one, changes nothing of its requests.
pub keeps-passed : (rings : RingsValue) (a n : SessionValue) → KeepsTransfer a n → ArePassed rings a → ArePassed rings n
unfolding ArePassed
keeps-passed rings a n keeps passed = record {
  all = λ next state.
      let was = keeps.kept next state in
      let old = passed.all next was.0 in
      let kept = keeps.looked next state in
      record {
        passed = λ i c at. old.passed i c (ap (λ m. slice_get (chosen_of m) i) (sym was.1) ∙ at);
        looked = record {
          late = λ k e. old.looked.late k (sym kept ∙ e);
          seen = λ e i c at. old.looked.seen (sym kept ∙ e) i c (ap (λ m. slice_get (chosen_of m) i) (sym was.1) ∙ at);
          since = λ k e. subst (λ m. HaveLookedAt rings k (chosen_of m)) (sym was.1)
              (old.looked.since k (sym kept ∙ e));
        };
      };
}

-- Nor does it matter what waits.
pub waiting-passes : (rings : RingsValue) (a n : SessionValue) (w : List ℕ) → n ≡ record a { waiting = w }
    → ArePassed rings a → ArePassed rings n
waiting-passes rings a n w made = keeps-passed rings a n (record {
  kept = λ next state. (ap (λ (s : SessionValue). s.state) (sym made) ∙ state, ap (λ (s : SessionValue). s.mode) made);
  looked = λ next state. ap (λ (s : SessionValue). s.looked) made;
})

-- A session that is in no transfer has passed nothing.
pub none-passed : (rings : RingsValue) (s : SessionValue) → ((next : ℕ) → s.state ≢ Transfer next) → ArePassed rings s
unfolding ArePassed
none-passed rings s none = record { all = λ next state. absurd (none next state) }

-- What a request has passed stays so while records arrive.
grown-one : (before after : RingsValue) (next : ℕ) (c : Choice) → AllGrow before.rings after.rings
    → PassedIn before next c → PassedIn after next c
grown-one before after next c grow passed = record {
  passed = λ r action there asked.
      let was = grow c.station r there in
      let seen = passed.passed was.ring action was.is_there asked in
      let old = seen.passed in
      record {
        passed = record {
          within = omega (arith, old.within, was.grows.pushes);
          unwanted = λ place x low held. old.unwanted place x low
              (was.grows.held place x (omega (arith, old.within)) held);
          told = λ place x low held after_end. old.told place x low
              (was.grows.held place x (omega (arith, old.within)) held) after_end;
          before = old.before;
          after = λ place x e held. old.after place x e
              (was.grows.held place x (omega (arith, e, old.before, old.within)) held);
        };
        seen = omega (arith, seen.seen, was.grows.pushes);
        fresh = λ e.
            let still : r.pushes ≡ was.ring.pushes = omega (arith, e, seen.seen, was.grows.pushes) in
            subst (λ (y : RingValue). RestedAt y next c c.cursor) (sym (was.grows.same still))
            (seen.fresh (e ∙ still));
      };
  quiet = passed.quiet;
}

-- One record more arrived since requests looked at their rings.
grown-since : (before after : RingsValue) (n : ℕ) (cs : List Choice) → AllGrow before.rings after.rings
    → GrowByOne before.rings after.rings → after.arrivals ≡ before.arrivals + 1 → HaveLookedAt before n cs
    → HaveLookedAt after n cs
grown-since before after n cs grow by_one more since = record {
  two = λ i j c d q r a b at_i at_j apart there_i there_j asked_i asked_j.
      let one = grow c.station q there_i in
      let other = grow d.station r there_j in
      let old = since.two i j c d one.ring other.ring a b at_i at_j apart one.is_there other.is_there asked_i asked_j in
      let now = by_one.two c.station d.station one.ring q other.ring r apart one.is_there there_i other.is_there
      there_j in
      omega arith;
  nowhere = λ i c at none. since.nowhere i c at (by_one.nowhere c.station none);
}

-- What was passed stays so while records arrive: they come behind each cursor. What was kept of the last look tells of
-- fewer arrivals now.
pub grown-passed : (before after : RingsValue) (s : SessionValue) → AllGrow before.rings after.rings
    → GrowByOne before.rings after.rings → after.arrivals ≡ before.arrivals + 1 → ArePassed before s
    → ArePassed after s
unfolding ArePassed
grown-passed before after s grow by_one more passed = record {
  all = λ next state. record {
    passed = λ i c at. grown-one before after next c grow ((passed.all next state).passed i c at);
    looked = record {
      late = λ n e. let old = (passed.all next state).looked.late n e in omega (arith, old, more);
      seen = λ e. absurd (let old = (passed.all next state).looked.late after.arrivals e in omega (arith, old, more));
      since = λ n e. grown-since before after n (chosen_of s.mode) grow by_one more
          ((passed.all next state).looked.since n e);
    };
  };
}

-- One request more has passed what it doesn't want.
pub one-passes : (rings : RingsValue) (a n : SessionValue) → but_for_cursors n ≡ but_for_cursors a
    → ((next : ℕ) → a.state ≡ Transfer next → HasPassedAll rings next a → HasPassedAll rings next n)
    → ArePassed rings a → ArePassed rings n
unfolding ArePassed
one-passes rings a n same passes passed = record {
  all = λ next state.
      let was : a.state ≡ Transfer next = ap (λ (s : SessionValue). s.state) (sym same) ∙ state in
      passes next was (passed.all next was);
}

-- It is true of all choices once one has another cursor, if it is true of that one and was true of all.
one-more : (P : Choice → Type 0) (i : ℕ) (cursor : Cursor) (a n : SessionValue) (c : Choice) → Passes i cursor a n
    → slice_get (chosen_of a.mode) i ≡ Some c → P (record c { cursor = cursor }) → OfAll P (chosen_of a.mode)
    → OfAll P (chosen_of n.mode)
one-more P i cursor a n c passes at true_there all j x there = both (j == i)
    (λ y. let here : j ≡ i = grind (arith, nat_tests) in
    let is : Some x ≡ Some (record c { cursor = cursor }) = sym there ∙ ap (slice_get (chosen_of n.mode)) here
    ∙ passes.here c at in
    subst P (ap (λ o. unwrap_or o x) (sym is)) true_there)
    (λ m. let apart : j ≢ i = λ e. absurd (grind (arith, nat_tests)) in
    all j x (sym (passes.others j apart) ∙ there))

-- A named station before one of them had another cursor: it had seen no more then.
record Was (rings : RingsValue) (a : SessionValue) (j : ℕ) (x : Choice) : Type 0 where
  choice : Choice
  at : slice_get (chosen_of a.mode) j ≡ Some choice
  station : choice.station ≡ x.station
  action : choice.action ≡ x.action
  seen : (r : RingValue) (action : Action) → slice_get rings.rings x.station ≡ Some r → x.action ≡ Some action
      → choice.cursor.seen ≤ x.cursor.seen

was : (rings : RingsValue) (next i : ℕ) (cursor : Cursor) (a n : SessionValue) (c : Choice) → Passes i cursor a n
    → slice_get (chosen_of a.mode) i ≡ Some c → PassedIn rings next c
    → RestsIn rings next (record c { cursor = cursor }) → (j : ℕ) (x : Choice)
    → slice_get (chosen_of n.mode) j ≡ Some x → Was rings a j x
was rings next i cursor a n c passes at old rest j x there = both (j == i)
    (λ y. let here : j ≡ i = grind (arith, nat_tests) in
    let is : Some x ≡ Some (record c { cursor = cursor }) = sym there ∙ ap (slice_get (chosen_of n.mode)) here
    ∙ passes.here c at in
    let same : record c { cursor = cursor } ≡ x = ap (λ o. unwrap_or o x) (sym is) in
    subst (Was rings a j) same (record {
      choice = c;
      at = ap (slice_get (chosen_of a.mode)) here ∙ at;
      station = refl;
      action = refl;
      seen = λ r action ring asked.
          let before = (old.passed r action ring asked).seen in
          let now = (rest.rests r action ring asked).seen in
          omega (arith, before, now);
    }))
    (λ m. let apart : j ≢ i = λ e. absurd (grind (arith, nat_tests)) in
    record {
      choice = x;
      at = sym (passes.others j apart) ∙ there;
      station = refl;
      action = refl;
      seen = λ r action ring asked. omega arith;
    })

-- What is known of the last look stays true.
one-since : (rings : RingsValue) (next i : ℕ) (cursor : Cursor) (a n : SessionValue) (c : Choice) (k : ℕ)
    → Passes i cursor a n → slice_get (chosen_of a.mode) i ≡ Some c → PassedIn rings next c
    → RestsIn rings next (record c { cursor = cursor }) → HaveLookedAt rings k (chosen_of a.mode)
    → HaveLookedAt rings k (chosen_of n.mode)
one-since rings next i cursor a n c k passes at old rest since = record {
  two = λ l m x y q r e f at_l at_m apart there_l there_m asked_l asked_m.
      let one = was rings next i cursor a n c passes at old rest l x at_l in
      let other = was rings next i cursor a n c passes at old rest m y at_m in
      let before = since.two l m one.choice other.choice q r e f one.at other.at
      (λ same. apart (sym one.station ∙ same ∙ other.station)) (ap (slice_get rings.rings) one.station ∙ there_l)
      (ap (slice_get rings.rings) other.station ∙ there_m) (one.action ∙ asked_l) (other.action ∙ asked_m) in
      let less = one.seen q e there_l asked_l in
      let fewer = other.seen r f there_m asked_m in
      omega arith;
  nowhere = one-more (λ x. slice_get rings.rings x.station ≡ None → ahead_of x.cursor ≡ None) i cursor a n c passes at
      rest.nowhere since.nowhere;
}

pub one-rests : (rings : RingsValue) (next i : ℕ) (cursor : Cursor) (a n : SessionValue) (c : Choice)
    → Passes i cursor a n → n.looked ≡ a.looked → slice_get (chosen_of a.mode) i ≡ Some c
    → (PassedIn rings next c → RestsIn rings next (record c { cursor = cursor }))
    → HasPassedAll rings next a → HasPassedAll rings next n
one-rests rings next i cursor a n c passes kept at rests all =
    let rest = rests (all.passed i c at) in
    record {
      passed = one-more (PassedIn rings next) i cursor a n c passes at
          (rests-passed rings next next (record c { cursor = cursor }) (omega arith) rest) all.passed;
      looked = record {
        late = λ k e. all.looked.late k (sym kept ∙ e);
        seen = λ e. one-more (HasLooked rings) i cursor a n c passes at
            (record {
              seen = λ r action there asked. (rest.rests r action there asked).seen;
              nowhere = rest.nowhere;
            }) (all.looked.seen (sym kept ∙ e));
        since = λ k e. one-since rings next i cursor a n c k passes at (all.passed i c at) rest
            (all.looked.since k (sym kept ∙ e));
      };
    }
