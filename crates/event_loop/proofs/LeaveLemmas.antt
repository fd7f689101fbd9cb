-- What calls leave of the marks of others, one after the other.
use Rattle.std.proofs.Common.{◌≡◌, ℕ, ◌+◌, true, Result, Ok, Err, refl, sym, ap, ◌∙◌, length, arith}
use Rattle.std.specs.Result.{is_err}
use Rattle.std.specs.Prelude.{OnErr, ◌≢◌, is_some}
use Rattle.server_core.specs.Marks.{LeavesOthers}
use Rattle.server_core.specs.ServerValues.{ServerValue, mark_at}
use Rattle.event_loop.specs.declared.seat.Role.{Role}
use Rattle.event_loop.specs.declared.seat.Role.TheVariants.{Client as ClientRole, Feed as FeedRole}
use Rattle.event_loop.specs.declared.seat.Seat.{Seat}
use Rattle.event_loop.specs.Sleeping.{IsQuiet, LeavesRest, NoneArrived}

pub leaves_none : (k : ℕ) (a : ServerValue) → LeavesOthers k a a
leaves_none k a = record { marks = λ other apart. refl; count = refl }

pub leaves_then : (k : ℕ) (a b c : ServerValue) → LeavesOthers k a b → LeavesOthers k b c → LeavesOthers k a c
leaves_then k a b c p q =
    record { marks = λ other apart. q.marks other apart ∙ p.marks other apart; count = q.count ∙ p.count }

pub quiet_none : (a : ServerValue) → IsQuiet a a
quiet_none a = record { rises = omega arith; same = λ e. refl; kept = λ k. refl; count = refl }

pub quiet_then : (a b c : ServerValue) → IsQuiet a b → IsQuiet b c → IsQuiet a c
quiet_then a b c p q =
    let up = p.rises in
    let on = q.rises in
    record {
      rises = omega (arith, up, on);
      same = λ e. q.same (omega (arith, up, on, e)) ∙ p.same (omega (arith, up, on, e));
      kept = λ k. q.kept k ∙ p.kept k;
      count = q.count ∙ p.count;
    }

-- One record arrived.
pub quiet_brought : (a b : ServerValue) → b.rings.arrivals ≡ a.rings.arrivals + 1
    → length b.sessions ≡ length a.sessions
    → ((k : ℕ) → is_some (mark_at b k) ≡ is_some (mark_at a k)) → IsQuiet a b
quiet_brought a b more count kept =
    record {
      rises = omega (arith, more);
      same = λ e. absurd (omega (arith, more, e));
      kept = kept;
      count = count;
    }

-- A record was refused.
pub quiet_refused : {X E : Type 0} (r : Result X E) (a b : ServerValue) → is_err r ≡ true → OnErr r (b ≡ a)
    → IsQuiet a b
quiet_refused (Ok v) a b err unchanged = absurd cc
quiet_refused (Err e) a b err unchanged =
    let same = ap (λ (s : ServerValue). s.rings.arrivals) unchanged in
    record {
      rises = omega (arith, same);
      same = λ f. unchanged;
      kept = λ k. ap (λ s. is_some (mark_at s k)) unchanged;
      count = ap (λ (s : ServerValue). length s.sessions) unchanged;
    }

-- ---- a whole pass

pub rest_client : (s : Seat) (k : ℕ) (Quiet : Type 0) (a b : ServerValue) → s.role ≡ ClientRole k
    → LeavesOthers k a b → LeavesRest s Quiet a b
rest_client s k Quiet a b role leaves = record {
  marks = λ quiet other apart. leaves.marks other (λ e. apart (role ∙ ap (λ n. ClientRole n) (sym e)));
  kept = λ other apart. ap is_some (leaves.marks other (λ e. apart (role ∙ ap (λ n. ClientRole n) (sym e))));
  count = leaves.count;
}

pub rest_feed : (s : Seat) (a b : ServerValue) → IsQuiet a b → LeavesRest s (NoneArrived a b) a b
rest_feed s a b quiet = record {
  marks = λ e other apart. ap (λ x. mark_at x other) (quiet.same e);
  kept = λ other apart. quiet.kept other;
  count = quiet.count;
}

-- What is left if no record came is left by what tells that none came.
pub rest_told : (s : Seat) (Quiet Told : Type 0) (a b : ServerValue) → (Told → Quiet) → LeavesRest s Quiet a b
    → LeavesRest s Told a b
rest_told s Quiet Told a b tells leaves = record {
  marks = λ e. leaves.marks (tells e);
  kept = leaves.kept;
  count = leaves.count;
}
