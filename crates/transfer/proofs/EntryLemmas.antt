-- The named stations behind the entries that a session lends.
use Rattle.std.proofs.Common.{◌≡◌, ℕ, ◌<◌, zero, suc, true, List, [], ◌∷◌, length, map, get_or, slice_get}
use Rattle.std.proofs.Common.{slice_index_or, Option, Some, None, unwrap_or, refl, sym, ap, subst, ◌∙◌, arith}
use Rattle.std.proofs.lemmas.List.{length-map}
use Rattle.station_ring.specs.Rings.{RingValue}
use Rattle.station_ring.specs.HeldRecords.{RingsValue}
use Rattle.sl_lines.specs.declared.actions.Action.{Action}
use Rattle.session_state.specs.declared.choices.Entry.{Entry}
use Rattle.session_state.specs.NamedValues.{Choice, ModeValue, entry_of, ahead_of}
use Rattle.session_state.specs.NamedValues.ModeValue.{Uni, Multi}
use Rattle.session_state.specs.Choices.{all_at_start, at_start, chosen_of}
use Rattle.session_state.specs.Sessions.{SessionValue, but_for_cursors}
pub use Rattle.session_state.proofs.NamedLemmas.{there as choice-there}
use Rattle.transfer.specs.Cursors.{HasLooked, PassedIn, RestsIn}
use Rattle.transfer.specs.Firsts.{is_unsent}
use Rattle.transfer.proofs.FirstsLemmas.{fresh-rests}
use Rattle.transfer.proofs.RestLemmas.{rests-nothing, rests-nowhere}

-- A named station stands at that place, and has that entry.
pub record IsEntryAt (cs : List Choice) (i : ℕ) (e : Entry) : Type 0 where
  pub choice : Choice
  pub there : slice_get cs i ≡ Some choice
  pub entry : entry_of choice ≡ e
  pub item : choice ≡ get_or cs i choice
  pub within : i < length cs

entry-in : (cs : List Choice) (i : ℕ) (e : Entry) → i < length (map entry_of cs)
    → e ≡ slice_index_or (map entry_of cs) i e → IsEntryAt cs i e
entry-in [] i e low is = absurd (omega arith)
entry-in (c ∷ cs) zero e low is = record { choice = c; there = refl; entry = sym is; item = refl; within = omega arith }
entry-in (c ∷ cs) (suc i) e low is =
    let later = entry-in cs i e (omega arith) is in
    let within : i < length cs = later.within in
    record {
      choice = later.choice;
      there = later.there;
      entry = later.entry;
      item = later.item;
      within = omega (arith, within);
    }

pub entry-at : (cs : List Choice) (es : List Entry) (i : ℕ) (e : Entry) → map entry_of cs ≡ es → i < length es
    → e ≡ slice_index_or es i e → IsEntryAt cs i e
entry-at cs es i e same low is =
    entry-in cs i e (subst (λ xs. i < length xs) (sym same) low) (subst (λ xs. e ≡ slice_index_or xs i e) (sym same) is)

pub same-length : (cs : List Choice) (es : List Entry) → map entry_of cs ≡ es → length cs ≡ length es
same-length cs es same = sym (length-map cs entry_of) ∙ ap length same

start-count : (mode : ModeValue) → length (chosen_of (all_at_start mode)) ≡ length (chosen_of mode)
start-count (Uni ps) = refl
start-count (Multi n) = length-map n.choices at_start

-- Sessions that are the same but for their cursors have as many named stations.
pub counts-same : (a b : SessionValue) → but_for_cursors a ≡ but_for_cursors b
    → length (chosen_of a.mode) ≡ length (chosen_of b.mode)
counts-same a b same =
    sym (start-count a.mode) ∙ ap (λ (s : SessionValue). length (chosen_of s.mode)) same ∙ start-count b.mode

pub item-is : (cs : List Choice) (i : ℕ) (c : Choice) → slice_get cs i ≡ Some c → c ≡ get_or cs i c
item-is [] i c e = absurd cc
item-is (x ∷ cs) zero c e = sym (ap (λ o. unwrap_or o c) e)
item-is (x ∷ cs) (suc i) c e = item-is cs i c e

-- What a fresh entry tells of its station.
pub fresh-entry : (rings : RingsValue) (next : ℕ) (c : Choice) (r : RingValue) (e : Entry) → entry_of c ≡ e
    → slice_get rings.rings e.station ≡ Some r → e.cursor.seen ≡ r.pushes → is_unsent next (ahead_of e.cursor) ≡ true
    → PassedIn rings next c → RestsIn rings next c
fresh-entry rings next c r e same =
    subst (λ (y : Entry). slice_get rings.rings y.station ≡ Some r → y.cursor.seen ≡ r.pushes
    → is_unsent next (ahead_of y.cursor) ≡ true → PassedIn rings next c → RestsIn rings next c) same
    (fresh-rests rings next c r)

-- A request that looked at its ring, and whose record ahead was not sent, rests.
pub looked-rests : (rings : RingsValue) (next : ℕ) (c : Choice) (e : Entry) → entry_of c ≡ e
    → is_unsent next (ahead_of e.cursor) ≡ true → HasLooked rings c → PassedIn rings next c → RestsIn rings next c
looked-rests rings next c e same unsent looked passed = by_action c.action refl
  where
    by_ring : (a : Action) (o : Option RingValue) → c.action ≡ Some a → slice_get rings.rings c.station ≡ o
        → RestsIn rings next c
    by_ring a None asked there = rests-nowhere rings next c there (looked.nowhere there)
    by_ring a (Some r) asked there = fresh-rests rings next c r there (looked.seen r a there asked)
        (subst (λ (y : Entry). is_unsent next (ahead_of y.cursor) ≡ true) (sym same) unsent) passed

    by_action : (o : Option Action) → c.action ≡ o → RestsIn rings next c
    by_action None none = rests-nothing rings next c none (passed.quiet none)
    by_action (Some a) asked = by_ring a (slice_get rings.rings c.station) asked refl

-- the named station at an index is one alone
pub same-choice : (cs : List Choice) (i : ℕ) (c d : Choice) → slice_get cs i ≡ Some c → slice_get cs i ≡ Some d → c ≡ d
same-choice cs i c d at there = ap (λ o. unwrap_or o c) (sym at ∙ there)
