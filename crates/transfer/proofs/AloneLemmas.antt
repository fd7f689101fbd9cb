-- A transfer that knows which of its requests has something to look at, or a record ahead.
use Rattle.std.proofs.Common.{◌≡◌, ◌≢◌, ℕ, ◌+◌, zero, suc, nat_lt, List, []}
use Rattle.std.proofs.Common.{◌∷◌, map, slice_get, Option, Some, None, unwrap_or, refl, sym, ap, subst}
use Rattle.std.proofs.Common.{◌∙◌, arith}
use Rattle.std.specs.Prelude.{◌==◌, if◌then◌else◌}
use Rattle.std.proofs.lemmas.Bool.Decides.{nat_tests}
use Rattle.protocol.proofs.FoundLemmas.{both}
use Rattle.station_ring.specs.Rings.{RingValue}
use Rattle.station_ring.specs.HeldRecords.{RingsValue}
use Rattle.sl_lines.specs.declared.actions.Action.{Action}
use Rattle.session_state.specs.declared.choices.Cursor.{Cursor}
use Rattle.session_state.specs.declared.choices.Entry.{Entry}
use Rattle.session_state.specs.declared.choices.Ahead.TheVariants.{Nobody}
use Rattle.session_state.specs.NamedValues.{Choice, ahead_of, entry_of}
use Rattle.session_state.specs.Choices.{chosen_of}
use Rattle.session_state.specs.Entries.{IsOnlyAt, TellsAhead}
use Rattle.session_state.specs.Sessions.{SessionValue}
use Rattle.session_state.specs.declared.choices.First.{First}
use Rattle.transfer.specs.Cursors.{HasLooked, HasPassedAll, IsLooked, OfAll, PassedIn, RestsIn}
use Rattle.transfer.specs.Firsts.{best_after, best_of, earlier}
use Rattle.transfer.proofs.PassedLemmas.{one-rests}
use Rattle.transfer.proofs.RestLemmas.{Passes}

-- the entry of a named station
pub mapped : (cs : List Choice) (j : ℕ) (c : Choice) → slice_get cs j ≡ Some c
    → slice_get (map entry_of cs) j ≡ Some (entry_of c)
mapped [] j c at = absurd cc
mapped (x ∷ cs) zero c at = ap (λ o. Some (entry_of (unwrap_or o x))) at
mapped (x ∷ cs) (suc j) c at = mapped cs j c at

-- ---- the one station that got all that arrived

-- Where the ring of one station got all that arrived since all had looked, the other requests have looked at theirs.
pub others-looked : (rings : RingsValue) (next n i place : ℕ) (s : SessionValue) (x : Choice) (a : Action)
    (q : RingValue) → HasPassedAll rings next s → s.looked ≡ Some n
    → IsOnlyAt (map entry_of (chosen_of s.mode)) place i → slice_get (chosen_of s.mode) i ≡ Some x → x.action ≡ Some a
    → slice_get rings.rings x.station ≡ Some q → q.pushes + n ≡ rings.arrivals + x.cursor.seen → (j : ℕ) (c : Choice)
    → j ≢ i → slice_get (chosen_of s.mode) j ≡ Some c → HasLooked rings c
others-looked rings next n i place s x a q passed kept only at asked there grown j c apart at_j =
    let since = passed.looked.since n kept in
    let own : Some only.entry ≡ Some (entry_of x) = sym only.at ∙ mapped (chosen_of s.mode) i x at in
    let here : x.station ≡ place =
    ap (λ (o : Option Entry). (unwrap_or o (entry_of x)).station) (sym own) ∙ only.there in
    let other : x.station ≢ c.station = λ same.
    apart (only.only j (entry_of c) (mapped (chosen_of s.mode) j c at_j) (sym same ∙ here)) in
    record {
      seen = λ r b there_j asked_j.
          let two = since.two i j x c q r a b at at_j other there there_j asked asked_j in
          let before = ((passed.passed j c at_j).passed r b there_j asked_j).seen in
          omega arith;
      nowhere = since.nowhere j c at_j;
    }

-- It is true of all once one has another cursor, if it is true of that one and was true of the others.
one-else : (P : Choice → Type 0) (i : ℕ) (cursor : Cursor) (a n : SessionValue) (c : Choice) → Passes i cursor a n
    → slice_get (chosen_of a.mode) i ≡ Some c → P (record c { cursor = cursor })
    → ((j : ℕ) (x : Choice) → j ≢ i → slice_get (chosen_of a.mode) j ≡ Some x → P x) → OfAll P (chosen_of n.mode)
one-else P i cursor a n c passes at here others j x there = both (j == i)
    (λ y. let same : j ≡ i = grind (arith, nat_tests) in
    let is : Some x ≡ Some (record c { cursor = cursor }) = sym there ∙ ap (slice_get (chosen_of n.mode)) same
    ∙ passes.here c at in
    subst P (ap (λ o. unwrap_or o x) (sym is)) here)
    (λ m. let apart : j ≢ i = λ e. absurd (grind (arith, nat_tests)) in
    others j x apart (sym (passes.others j apart) ∙ there))

-- All have looked.
looked-now : (rings : RingsValue) (s : SessionValue) → s.looked ≡ Some rings.arrivals
    → OfAll (HasLooked rings) (chosen_of s.mode) → IsLooked rings s
looked-now rings s kept all = record {
  late = λ n e. let t : Some n ≡ Some rings.arrivals = sym e ∙ kept in
      let same : n ≡ rings.arrivals = cc in omega (arith, same);
  seen = λ e. all;
  since = λ n e. record {
    two = λ i j c d q r a b at_i at_j apart there_i there_j asked_i asked_j.
        let t : Some n ≡ Some rings.arrivals = sym e ∙ kept in
        let same : n ≡ rings.arrivals = cc in
        let one : c.cursor.seen ≡ q.pushes = (all i c at_i).seen q a there_i asked_i in
        let other : d.cursor.seen ≡ r.pushes = (all j d at_j).seen r b there_j asked_j in
        omega arith;
    nowhere = λ i c at. (all i c at).nowhere;
  };
}

-- The one request has looked at its ring, and the others had.
pub caught-up : (rings : RingsValue) (next i : ℕ) (cursor : Cursor) (a n m : SessionValue) (c : Choice)
    → Passes i cursor a n → n.looked ≡ a.looked → m ≡ record n { looked = Some rings.arrivals }
    → slice_get (chosen_of a.mode) i ≡ Some c
    → (PassedIn rings next c → RestsIn rings next (record c { cursor = cursor }))
    → ((j : ℕ) (x : Choice) → j ≢ i → slice_get (chosen_of a.mode) j ≡ Some x → HasLooked rings x)
    → HasPassedAll rings next a → HasPassedAll rings next m
caught-up rings next i cursor a n m c passes kept made at rests others all =
    let mid = one-rests rings next i cursor a n c passes kept at rests all in
    let rest = rests (all.passed i c at) in
    let mode : n.mode ≡ m.mode = ap (λ (s : SessionValue). s.mode) (sym made) in
    let looked : OfAll (HasLooked rings) (chosen_of n.mode) =
    one-else (HasLooked rings) i cursor a n c passes at
    (record {
      seen = λ r action there asked. (rest.rests r action there asked).seen;
      nowhere = rest.nowhere;
    }) others in
    record {
      passed = subst (λ d. OfAll (PassedIn rings next) (chosen_of d)) mode mid.passed;
      looked = looked-now rings m (ap (λ (s : SessionValue). s.looked) made)
          (subst (λ d. OfAll (HasLooked rings) (chosen_of d)) mode looked);
    }

-- no request has a record ahead
abbrev pub AreQuiet : List Choice → Type 0
AreQuiet cs = (j : ℕ) (c : Choice) → slice_get cs j ≡ Some c → ahead_of c.cursor ≡ None

-- ---- none is first

never-none : (f : First) (i : ℕ) (cs : List Choice) → None ≡ best_after (Some f) i cs → ⊥
never-none f i [] e = absurd cc
never-none f i (x ∷ cs) e = by (ahead_of x.cursor) refl (λ g. never-none g (i + 1) cs)
  where
    by : (o : Option ℕ) → ahead_of x.cursor ≡ o → ((g : First) → None ≡ best_after (Some g) (i + 1) cs → ⊥) → ⊥
    by None is later = later f (e ∙ ap (λ o. best_after (earlier (Some f) i o) (i + 1) cs) is)
    by (Some stamp) is later = both (nat_lt stamp f.stamp)
        (λ y. later (record { index = i; stamp = stamp })
        (e ∙ ap (λ o. best_after (earlier (Some f) i o) (i + 1) cs) is
        ∙ ap (λ b. best_after (if b then Some (record { index = i; stamp = stamp }) else Some f) (i + 1) cs) y))
        (λ n. later f
        (e ∙ ap (λ o. best_after (earlier (Some f) i o) (i + 1) cs) is
        ∙ ap (λ b. best_after (if b then Some (record { index = i; stamp = stamp }) else Some f) (i + 1) cs) n))

quiet-after : (i : ℕ) (cs : List Choice) → None ≡ best_after None i cs → AreQuiet cs
quiet-after i [] e = λ j c at. absurd (let wrong : None ≡ Some c = at in cc)
quiet-after i (x ∷ cs) e = by (ahead_of x.cursor) refl (quiet-after (i + 1) cs)
  where
    by : (o : Option ℕ) → ahead_of x.cursor ≡ o → (None ≡ best_after None (i + 1) cs → AreQuiet cs)
        → AreQuiet (x ∷ cs)
    by None is later zero c at = ap (λ q. ahead_of (unwrap_or q x).cursor) (sym at) ∙ is
    by None is later (suc j) c at =
        later (e ∙ ap (λ o. best_after (earlier None i o) (i + 1) cs) is) j c at
    by (Some stamp) is later j c at =
        absurd (never-none (record { index = i; stamp = stamp }) (i + 1) cs
        (e ∙ ap (λ o. best_after (earlier None i o) (i + 1) cs) is))

entries-quiet : (cs : List Choice) → AreQuiet cs → TellsAhead Nobody (map entry_of cs)
entries-quiet [] quiet j e at = absurd cc
entries-quiet (x ∷ cs) quiet zero e at =
    ap (λ (o : Option Entry). ahead_of (unwrap_or o e).cursor) (sym at) ∙ quiet 0 x refl
entries-quiet (x ∷ cs) quiet (suc j) e at = entries-quiet cs (λ k c there. quiet (suc k) c there) j e at

-- Where nothing is first, no request has a record ahead.
pub none-first : (cs : List Choice) → None ≡ best_of cs → TellsAhead Nobody (map entry_of cs)
none-first cs e = entries-quiet cs (quiet-after 0 cs e)
