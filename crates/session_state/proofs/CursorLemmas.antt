-- How far a request has come, and sessions that stay in their transfer.
use Rattle.std.proofs.Common.{◌≡◌, ◌≢◌, ℕ, List, [], ◌∷◌, length, map, slice_get, Some, None, Option, suc, zero, refl}
use Rattle.std.proofs.Common.{sym, ap, subst, ◌∙◌, unwrap_or, nat_lt}
use Rattle.protocol.specs.Catalog.{Config}
use Rattle.protocol.proofs.FoundLemmas.{both}
use Rattle.catalog.specs.Places.{Seen}
use Rattle.session_state.specs.NamedValues.{Choice}
use Rattle.session_state.specs.declared.choices.Cursor.{Cursor}
use Rattle.session_state.specs.NamedValues.{ModeValue}
use Rattle.session_state.specs.NamedValues.ModeValue.{Uni, Multi}
use Rattle.session_state.specs.declared.negotiation.Change.{Change}
use Rattle.session_state.specs.declared.negotiation.Change.TheVariants.{Done, Refused, Starts}
use Rattle.session_state.specs.declared.session.State.{State}
use Rattle.session_state.specs.declared.session.State.TheVariants.{Negotiating, Listing, Starting, Transfer, Ending}
use Rattle.session_state.specs.Choices.{all_at_start, at_start, chosen_of, passed_at, passed_in}
use Rattle.session_state.specs.Sessions.{SessionValue, KeepsTransfer, but_for_cursors, after_change, line_made}
use Rattle.session_state.specs.Sessions.{listed_in, with_line}

-- ---- how far a request has come

at-start : (cs : List Choice) (i : ℕ) (cursor : Cursor)
    → map at_start (passed_at i cursor cs (slice_get cs i)) ≡ map at_start cs
at-start [] i cursor = refl
at-start (c ∷ cs) zero cursor = refl
at-start (c ∷ cs) (suc i) cursor = later (slice_get cs i) (at-start cs i cursor)
  where
    later : (o : Option Choice) → map at_start (passed_at i cursor cs o) ≡ map at_start cs
        → map at_start (passed_at (suc i) cursor (c ∷ cs) o) ≡ map at_start (c ∷ cs)
    later None e = refl
    later (Some x) e = ap (λ l. at_start c ∷ l) e

passed-length : (cs : List Choice) (i : ℕ) (cursor : Cursor)
    → length (passed_at i cursor cs (slice_get cs i)) ≡ length cs
passed-length [] i cursor = refl
passed-length (c ∷ cs) zero cursor = refl
passed-length (c ∷ cs) (suc i) cursor = later (slice_get cs i) (passed-length cs i cursor)
  where
    later : (o : Option Choice) → length (passed_at i cursor cs o) ≡ length cs
        → length (passed_at (suc i) cursor (c ∷ cs) o) ≡ length (c ∷ cs)
    later None e = refl
    later (Some x) e = ap suc e

passed-here : (cs : List Choice) (i : ℕ) (cursor : Cursor) (c : Choice) → slice_get cs i ≡ Some c
    → slice_get (passed_at i cursor cs (slice_get cs i)) i ≡ Some (record c { cursor = cursor })
passed-here [] i cursor c e = absurd cc
passed-here (x ∷ cs) zero cursor c e = ap (λ o. Some (record (unwrap_or o x) { cursor = cursor })) e
passed-here (x ∷ cs) (suc i) cursor c e = later (slice_get cs i) (passed-here cs i cursor c e)
  where
    later : (o : Option Choice) → slice_get (passed_at i cursor cs o) i ≡ Some (record c { cursor = cursor })
        → slice_get (passed_at (suc i) cursor (x ∷ cs) o) (suc i) ≡ Some (record c { cursor = cursor })
    later None q = q
    later (Some y) q = q

passed-others : (cs : List Choice) (i : ℕ) (cursor : Cursor) (j : ℕ) → j ≢ i
    → slice_get (passed_at i cursor cs (slice_get cs i)) j ≡ slice_get cs j
passed-others [] i cursor j apart = refl
passed-others (c ∷ cs) zero cursor zero apart = absurd (apart refl)
passed-others (c ∷ cs) zero cursor (suc j) apart = refl
passed-others (c ∷ cs) (suc i) cursor j apart = later j (slice_get cs i) apart (λ k e. passed-others cs i cursor k e)
  where
    later : (j : ℕ) (o : Option Choice) → j ≢ suc i
        → ((k : ℕ) → k ≢ i → slice_get (passed_at i cursor cs o) k ≡ slice_get cs k)
        → slice_get (passed_at (suc i) cursor (c ∷ cs) o) j ≡ slice_get (c ∷ cs) j
    later zero None e rest = refl
    later zero (Some x) e rest = refl
    later (suc j) None e rest = refl
    later (suc j) (Some x) e rest = rest j (λ q. e (ap suc q))

same-mode : (mode : ModeValue) (i : ℕ) (cursor : Cursor) → all_at_start (passed_in mode i cursor) ≡ all_at_start mode
same-mode (Uni ps) i cursor = refl
same-mode (Multi n) i cursor = ap (λ cs. Multi (record n { choices = cs })) (at-start n.choices i cursor)

mode-length : (mode : ModeValue) (i : ℕ) (cursor : Cursor)
    → length (chosen_of (passed_in mode i cursor)) ≡ length (chosen_of mode)
mode-length (Uni ps) i cursor = refl
mode-length (Multi n) i cursor = passed-length n.choices i cursor

mode-here : (mode : ModeValue) (i : ℕ) (cursor : Cursor) (c : Choice) → slice_get (chosen_of mode) i ≡ Some c
    → slice_get (chosen_of (passed_in mode i cursor)) i ≡ Some (record c { cursor = cursor })
mode-here (Uni ps) i cursor c e = absurd cc
mode-here (Multi n) i cursor c e = passed-here n.choices i cursor c e

mode-others : (mode : ModeValue) (i : ℕ) (cursor : Cursor) (j : ℕ) → j ≢ i
    → slice_get (chosen_of (passed_in mode i cursor)) j ≡ slice_get (chosen_of mode) j
mode-others (Uni ps) i cursor j apart = refl
mode-others (Multi n) i cursor j apart = passed-others n.choices i cursor j apart

pub pass-same : (a n : SessionValue) (i : ℕ) (cursor : Cursor) → n ≡ record a { mode = passed_in a.mode i cursor }
    → but_for_cursors n ≡ but_for_cursors a
pass-same a n i cursor made =
    ap but_for_cursors made
    ∙ ap (λ m. record a { mode = m; looked = None; lost = 0; packets = [] }) (same-mode a.mode i cursor)

pub pass-here : (a n : SessionValue) (i : ℕ) (cursor : Cursor) → n ≡ record a { mode = passed_in a.mode i cursor }
    → (c : Choice) → slice_get (chosen_of a.mode) i ≡ Some c
    → slice_get (chosen_of n.mode) i ≡ Some (record c { cursor = cursor })
pass-here a n i cursor made c e = ap (λ (s : SessionValue). slice_get (chosen_of s.mode) i) made
    ∙ mode-here a.mode i cursor c e

pub pass-others : (a n : SessionValue) (i : ℕ) (cursor : Cursor) → n ≡ record a { mode = passed_in a.mode i cursor }
    → (j : ℕ) → j ≢ i → slice_get (chosen_of n.mode) j ≡ slice_get (chosen_of a.mode) j
pass-others a n i cursor made j apart = ap (λ (s : SessionValue). slice_get (chosen_of s.mode) j) made
    ∙ mode-others a.mode i cursor j apart

pub pass-length : (a n : SessionValue) (i : ℕ) (cursor : Cursor) → n ≡ record a { mode = passed_in a.mode i cursor }
    → length (chosen_of n.mode) ≡ length (chosen_of a.mode)
pass-length a n i cursor made = ap (λ (s : SessionValue). length (chosen_of s.mode)) made ∙ mode-length a.mode i cursor

pub pass-looked : (a n : SessionValue) (i : ℕ) (cursor : Cursor) → n ≡ record a { mode = passed_in a.mode i cursor }
    → n.looked ≡ a.looked
pass-looked a n i cursor made = ap (λ (s : SessionValue). s.looked) made

-- ---- sessions that stay in their transfer

pub keeps-same : (a : SessionValue) → KeepsTransfer a a
keeps-same a = record { kept = λ next e. (e, refl); looked = λ next e. refl }

pub keeps-then : (a b c : SessionValue) → KeepsTransfer a b → KeepsTransfer b c → KeepsTransfer a c
keeps-then a b c first second = record {
  kept = λ next e.
      let later = second.kept next e in
      let before = first.kept next later.0 in
      (before.0, later.1 ∙ before.1);
  looked = λ next e. second.looked next e ∙ first.looked next (second.kept next e).0;
}

-- a step that changes neither the state nor the requests, nor what is known of them
pub keeps-apart : (a b : SessionValue) → b.state ≡ a.state → b.mode ≡ a.mode → b.looked ≡ a.looked → KeepsTransfer a b
keeps-apart a b state mode looked = record { kept = λ next e. (sym state ∙ e, mode); looked = λ next e. looked }

-- a step after which it is in no transfer
pub keeps-none : (a b : SessionValue) → ((next : ℕ) → b.state ≢ Transfer next) → KeepsTransfer a b
keeps-none a b none = record {
  kept = λ next e. absurd (none next e);
  looked = λ next e. absurd (none next e);
}

pub change-elsewhere : (m : SessionValue) (change : Change) (next : ℕ) → m.state ≡ Negotiating
    → (after_change m change).state ≢ Transfer next
change-elsewhere m Done next state e = absurd (let t : Negotiating ≡ Transfer next = sym state ∙ e in cc)
change-elsewhere m Refused next state e = absurd (let t : Negotiating ≡ Transfer next = sym state ∙ e in cc)
change-elsewhere m Starts next state e = absurd (let t : Starting ≡ Transfer next = e in cc)

listed-kept : (seen : Seen) (t : State) (next : ℕ) → listed_in seen t ≡ Transfer next → t ≡ Transfer next
listed-kept seen Negotiating next e = e
listed-kept seen (Listing made) next e =
    both (nat_lt (length seen.places) made)
    (λ y. absurd (let t : Negotiating ≡ Transfer next = rw y at e in cc))
    (λ n. absurd (let t : Listing made ≡ Transfer next = rw n at e in cc))
listed-kept seen Starting next e = e
listed-kept seen (Transfer q) next e = e
listed-kept seen Ending next e = e

pub listed-keeps : (a b : SessionValue) → b ≡ record a { state = listed_in a.places a.state } → KeepsTransfer a b
listed-keeps a b ends = record {
  kept = λ next e. (
    listed-kept a.places a.state next (ap (λ (s : SessionValue). s.state) (sym ends) ∙ e),
    ap (λ (s : SessionValue). s.mode) ends,
  );
  looked = λ next e. ap (λ (s : SessionValue). s.looked) ends;
}

pub lined-keeps : (config : Config) (made : ℕ) (a b : SessionValue) → b ≡ line_made config made a → KeepsTransfer a b
lined-keeps config made a b e = subst (λ (s : SessionValue). KeepsTransfer a s) (sym e) (with_it (slice_get _ made))
  where
    with_it : (o : Option (List ℕ)) → KeepsTransfer a (with_line made a o)
    with_it None = keeps-same a
    with_it (Some line) = keeps-none a _ (λ next q. absurd cc)
