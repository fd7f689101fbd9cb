-- The request whose record ahead came first, as the session tells it.
use Rattle.std.proofs.Common.{◌≡◌, ℕ, ◌+◌, ◌≤◌, zero, suc, true, false, List, [], ◌∷◌, length, map, nat_lt}
use Rattle.std.proofs.Common.{Option, Some, None, option_map, slice_get, unwrap_or, refl, sym, ap, subst, ◌∙◌, arith}
use Rattle.std.specs.Prelude.{IfSome}
use Rattle.std.proofs.lemmas.Bool.Decides.{nat_tests}
use Rattle.protocol.proofs.FoundLemmas.{both}
use Rattle.station_ring.specs.HeldRecords.{RingsValue}
use Rattle.session_state.specs.NamedValues.{Choice, ahead_of, entry_of}
use Rattle.session_state.specs.Orders.{IsEarliest, ahead_at, is_sooner, stamp_in}
use Rattle.session_state.proofs.OrderLemmas.{later-self, later-trans}
use Rattle.session_state.specs.declared.choices.First.{First}
use Rattle.transfer.specs.Cursors.{HasLooked, OfAll, PassedIn, RestsIn}
use Rattle.transfer.specs.Firsts.{IsAhead, IsBest, IsGlance, LeadsSoFar, best_after, best_of, earlier, is_unsent}
use Rattle.transfer.proofs.AloneLemmas.{mapped}
use Rattle.transfer.proofs.BestLemmas.{best-leads}
use Rattle.transfer.proofs.EntryLemmas.{looked-rests}

-- the stamp of what was found, where something was
abbrev pub stamp_of : Option First → Option ℕ
stamp_of best = option_map (λ f. f.stamp) best

-- ---- the record ahead of a named station, by its entry

pub told : (cs : List Choice) (j : ℕ) (c : Choice) → slice_get cs j ≡ Some c
    → ahead_at (map entry_of cs) j ≡ ahead_of c.cursor
told cs j c at = ap stamp_in (mapped cs j c at)

-- one that tells of a record is there
pub record TellsOf (cs : List Choice) (j stamp : ℕ) : Type 0 where
  pub choice : Choice
  pub at : slice_get cs j ≡ Some choice
  pub ahead : ahead_of choice.cursor ≡ Some stamp

pub tells-of : (cs : List Choice) (j stamp : ℕ) → ahead_at (map entry_of cs) j ≡ Some stamp → TellsOf cs j stamp
tells-of [] j stamp e = absurd cc
tells-of (c ∷ cs) zero stamp e = record { choice = c; at = refl; ahead = e }
tells-of (c ∷ cs) (suc j) stamp e =
    let more = tells-of cs j stamp e in record { choice = more.choice; at = more.at; ahead = more.ahead }

-- ---- no record ahead came before that of the best

one-least : (best : Option First) (k : ℕ) (a : Option ℕ) →
    (is_sooner (stamp_of best) (stamp_of (earlier best k a)) ≡ false)
    × (is_sooner a (stamp_of (earlier best k a)) ≡ false)
one-least best k None = (later-self (stamp_of best), refl)
one-least None k (Some s) = (refl, later-self (Some s))
one-least (Some b) k (Some s) = both (nat_lt s b.stamp)
    (λ y. rw y (grind (arith, nat_tests), later-self (Some s)))
    (λ n. rw n (later-self (Some b.stamp), n))

least-start : (best : Option First) (k : ℕ) (cs : List Choice)
    → is_sooner (stamp_of best) (stamp_of (best_after best k cs)) ≡ false
least-start best k [] = later-self (stamp_of best)
least-start best k (x ∷ cs) =
    let next : Option First = earlier best k (ahead_of x.cursor) in
    later-trans (stamp_of (best_after next (k + 1) cs)) (stamp_of next) (stamp_of best) (least-start next (k + 1) cs)
    (one-least best k (ahead_of x.cursor)).0

least-each : (best : Option First) (k : ℕ) (cs : List Choice) (j : ℕ) (c : Choice) → slice_get cs j ≡ Some c
    → is_sooner (ahead_of c.cursor) (stamp_of (best_after best k cs)) ≡ false
least-each best k [] j c at = absurd cc
least-each best k (x ∷ cs) zero c at =
    let next : Option First = earlier best k (ahead_of x.cursor) in
    let all : Option ℕ = stamp_of (best_after next (k + 1) cs) in
    let same : x ≡ c = ap (λ o. unwrap_or o c) at in
    subst (λ (y : Choice). is_sooner (ahead_of y.cursor) all ≡ false) same
    (later-trans all (stamp_of next) (ahead_of x.cursor) (least-start next (k + 1) cs)
    (one-least best k (ahead_of x.cursor)).1)
least-each best k (x ∷ cs) (suc j) c at = least-each (earlier best k (ahead_of x.cursor)) (k + 1) cs j c at

-- ---- what a session tells of all of its requests

nothing : RingsValue
nothing = record { rings = []; arrivals = 0 }

best-there : (cs : List Choice) (f : First) → best_of cs ≡ Some f → IsAhead cs f.index f.stamp
best-there cs f e = (best-leads nothing cs (Some f) (sym e)).there

rests-all : (next : ℕ) (cs : List Choice)
    → ((j : ℕ) (c : Choice) → slice_get cs j ≡ Some c → is_unsent next (ahead_of c.cursor) ≡ true)
    → (rings : RingsValue) → OfAll (HasLooked rings) cs → OfAll (PassedIn rings next) cs → OfAll (RestsIn rings next) cs
rests-all next cs unsent rings looked passed j c at =
    looked-rests rings next c (entry_of c) refl (unsent j c at) (looked j c at) (passed j c at)

-- no record is ahead
pub glance-none : (next : ℕ) (cs : List Choice) → IsEarliest (map entry_of cs) None → IsGlance next cs None
glance-none next cs none = record {
  rests = rests-all next cs (λ j c at. ap (is_unsent next) (quiet j c at));
  best = record { stamp = by (best_of cs) refl; there = tt };
}
  where
    quiet : (j : ℕ) (c : Choice) → slice_get cs j ≡ Some c → ahead_of c.cursor ≡ None
    quiet j c at = sym (told cs j c at) ∙ none j

    by : (o : Option First) → best_of cs ≡ o → None ≡ stamp_of o
    by None e = refl
    by (Some f) e =
        let ahead = best-there cs f e in
        absurd (let wrong : None ≡ Some f.stamp = sym (quiet f.index ahead.choice ahead.at) ∙ ahead.ahead in cc)

-- this one came first
unsent-later : (next stamp : ℕ) (o : Option ℕ) → next ≤ stamp → is_sooner o (Some stamp) ≡ false
    → is_unsent next o ≡ true
unsent-later next stamp None low later = refl
unsent-later next stamp (Some s) low later = grind (arith, nat_tests)

same-stamp : (s t : ℕ) → nat_lt s t ≡ false → nat_lt t s ≡ false → s ≡ t
same-stamp s t p q = grind (arith, nat_tests)

pub glance-some : (next : ℕ) (cs : List Choice) (first : First) → IsEarliest (map entry_of cs) (Some first)
    → next ≤ first.stamp → IsGlance next cs (Some first)
glance-some next cs first is low = record {
  rests = rests-all next cs (λ j c at. unsent-later next first.stamp (ahead_of c.cursor) low (later j c at));
  best = record {
    stamp = by (best_of cs) refl;
    there = record { choice = own.choice; at = own.at; ahead = own.ahead };
  };
}
  where
    own : TellsOf cs first.index first.stamp
    own = tells-of cs first.index first.stamp is.0

    later : (j : ℕ) (c : Choice) → slice_get cs j ≡ Some c → is_sooner (ahead_of c.cursor) (Some first.stamp) ≡ false
    later j c at =
        subst (λ o. is_sooner (ahead_of c.cursor) o ≡ false) is.0
        (subst (λ o. is_sooner o (ahead_at (map entry_of cs) first.index) ≡ false) (told cs j c at) (is.1 j))

    least : (o : Option First) → best_of cs ≡ o → is_sooner (Some first.stamp) (stamp_of o) ≡ false
    least o e =
        subst (λ b. is_sooner (Some first.stamp) (stamp_of b) ≡ false) e
        (subst (λ a. is_sooner a (stamp_of (best_of cs)) ≡ false) own.ahead
        (least-each None 0 cs first.index own.choice own.at))

    by : (o : Option First) → best_of cs ≡ o → Some first.stamp ≡ stamp_of o
    by None e = absurd (let wrong : true ≡ false = least None e in cc)
    by (Some f) e =
        let there = best-there cs f e in
        let other : nat_lt f.stamp first.stamp ≡ false =
        subst (λ a. is_sooner a (Some first.stamp) ≡ false) there.ahead (later f.index there.choice there.at) in
        ap (λ n. Some n) (same-stamp first.stamp f.stamp (least (Some f) e) other)

-- ---- what is as good as the first of all

pub best-is : (cs : List Choice) (first : Option First) → first ≡ best_of cs → IsBest cs first
best-is cs first e = record { stamp = ap stamp_of e; there = (best-leads nothing cs first e).there }

stamp-none : (o : Option First) → None ≡ stamp_of o → o ≡ None
stamp-none None e = refl
stamp-none (Some f) e = absurd cc

pub none-best : (cs : List Choice) (first : Option First) → IsBest cs first → first ≡ None → None ≡ best_of cs
none-best cs first best none = sym (stamp-none (best_of cs) (sym (ap stamp_of none) ∙ best.stamp))

late-too : (q : ℕ) (first best : Option First) → stamp_of first ≡ stamp_of best → IfSome best (λ f. q ≤ f.stamp)
    → IfSome first (λ f. q ≤ f.stamp)
late-too q None best e late = tt
late-too q (Some f) None e late = absurd cc
late-too q (Some f) (Some g) e late = let same : f.stamp ≡ g.stamp = cc in subst (λ n. q ≤ n) (sym same) late

pub best-leads-too : (rings : RingsValue) (cs : List Choice) (first : Option First) → IsBest cs first
    → LeadsSoFar rings cs (length cs) first
best-leads-too rings cs first best =
    let leads = best-leads rings cs (best_of cs) refl in
    record {
      position = λ q rests config h holds. best.stamp ∙ leads.position q rests config h holds;
      there = best.there;
      late = λ q rests. late-too q first (best_of cs) best.stamp (leads.late q rests);
      reached = λ q rests none. leads.reached q rests (sym (none-best cs first best none));
    }
