-- When a request is over, by the words.
use Rattle.std.proofs.Common.{◌≡◌, suc, zero, true, ◌&&◌, List, [], ◌∷◌, ◌++◌, Some, None, ℤ, refl, sym, ap, subst}
use Rattle.std.proofs.Common.{arith, true≢false}
use Rattle.std.specs.Prelude.{◌<ℤ◌, int_lt, ◌↔◌}
use Rattle.std.specs.Bool.{Decides}
use Rattle.std.proofs.lemmas.Int.{ints}
use Rattle.std.proofs.lemmas.Bool.Decides.{Decides-and}
use Rattle.protocol.specs.Catalog.{Station}
use Rattle.protocol.specs.History.{Arrival, Action, is_held, holds_after, is_over_by}
use Rattle.protocol.specs.History.Action.{Data, Fetch, Time}
use Rattle.protocol.specs.Choosing.{IsKept, HasPassed, IsOver}
use Rattle.protocol.proofs.FoundLemmas.{both}
use Rattle.protocol.proofs.BeginLemmas.{decides-kept}

decides-before : (a b : ℤ) → Decides (int_lt a b) (a <ℤ b)
decides-before a b = (λ e. grind (arith, ints), λ h. grind (arith, ints))

module _ (s : Station) (last : ℤ) where
  abbrev Passes : Arrival → List Arrival → Type 0
  Passes a later = IsKept s a later × (last <ℤ a.facts.start)

  decides-passes : (a : Arrival) (later : List Arrival)
      → Decides (is_held s later a && int_lt last a.facts.start) (Passes a later)
  decides-passes a later = Decides-and _ _ (decides-kept s a later) (decides-before last a.facts.start)

  passed : (h : List Arrival) → holds_after s last h ≡ true → HasPassed s last h
  passed [] e = absurd (true≢false (sym e))
  passed (a ∷ later) e =
      both (is_held s later a && int_lt last a.facts.start)
      (λ y. (
        zero,
        record {
          arrival = a;
          later = later;
          is_at = record { before = []; whole = refl; place = refl };
          is_true = (decides-passes a later).0 y;
        },
      ))
      (λ n. let more = passed later (rw n at e) in (
        suc more.0,
        record {
          arrival = more.1.arrival;
          later = more.1.later;
          is_at = record {
            before = a ∷ more.1.is_at.before;
            whole = ap (λ l. a ∷ l) more.1.is_at.whole;
            place = ap suc more.1.is_at.place;
          };
          is_true = more.1.is_true;
        },
      ))

  holds_behind : (before : List Arrival) (a : Arrival) (later : List Arrival) → Passes a later
      → holds_after s last (before ++ a ∷ later) ≡ true
  holds_behind [] a later pass = rw ((decides-passes a later).1 pass)
  holds_behind (b ∷ before) a later pass =
      both (is_held s (before ++ a ∷ later) b && int_lt last b.facts.start) (λ y. rw y)
      (λ n. rw n (holds_behind before a later pass))

  holds : (h : List Arrival) → HasPassed s last h → holds_after s last h ≡ true
  holds h (p, at) = subst (λ l. holds_after s last l ≡ true) at.is_at.whole
      (holds_behind at.is_at.before at.arrival at.later at.is_true)

pub over_law : (s : Station) (h : List Arrival) (action : Action) → (is_over_by s h action ≡ true) ↔ IsOver s h action
over_law s h (Data n b) = (λ e. true≢false (sym e), λ none. absurd none)
over_law s h (Fetch n b) = (λ e. tt, λ h. refl)
over_law s h (Time b None) = (λ e. true≢false (sym e), λ none. absurd none)
over_law s h (Time b (Some last)) = (passed s last h, holds s last h)
