-- A turn: what was heard, and the passes after it.
use Rattle.std.proofs.Common.{◌≡◌, ℕ, ◌*◌, ◌≤◌, List, ◌++◌, length, refl, sym, ap, subst, Option, arith}
use Rattle.protocol.specs.Catalog.{Config}
use Rattle.protocol.specs.History.{Arrival}
use Rattle.protocol.specs.World.{World}
use Rattle.server_core.specs.ServerValues.{ServerValue, StandsAt}
use Rattle.event_loop.specs.declared.seat.Seat.{Seat}
use Rattle.event_loop.specs.declared.hearing.HeardInTurn.{HeardInTurn}
use Rattle.event_loop.specs.declared.turning.Turned.{Turned}
use Rattle.ports.specs.Calls.{Call}
use Rattle.event_loop.specs.Deeds.{Deed, Tally, no_tally, world_beyond}
use Rattle.event_loop.specs.Feeding.{feed_tally}
use Rattle.event_loop.specs.Going.{Does}
use Rattle.event_loop.specs.Hearing.End.{Faulted}
use Rattle.event_loop.specs.Hearing.{feeds_in}
use Rattle.event_loop.specs.Turns.{BringsAtMost, Passes, Turns, Fails, tally_of}
use Rattle.event_loop.specs.Tables.{WholeHearing, PassesAll, tally_heard_by, heard_end}
use Rattle.event_loop.proofs.DeedLemmas.{does-then, world_beyond-append}
use Rattle.event_loop.proofs.FewLemmas.{hearing-brings, passes-few, turn-few}
use Rattle.event_loop.proofs.HandsLemmas.{hands-as-alone}

-- what a turn answers, by what it heard
abbrev pub turned_by : HeardInTurn → ℕ → Turned
turned_by in_turn refused = record { happenings = in_turn.happenings; quiet = in_turn.quiet; refused = refused }

none-brought : (w w' : World) → w'.history ≡ w.history → BringsAtMost 0 w w'
none-brought w w' same = omega (arith, ap (λ (h : List Arrival). length h) same)

module _ (config : Config) (max_clients limit : ℕ) (w : World) (a b : Option (List Call)) (mid : ServerValue)
    (ss mid_ss : List Seat) where
  pub turn-made : (c : Option (List Call)) (last : ServerValue) (ss' : List Seat) (in_turn : HeardInTurn) (refused : ℕ)
      → WholeHearing config max_clients limit w a b mid (tally_heard_by in_turn) ss mid_ss (heard_end in_turn) →
      ((v : World) → StandsAt mid config v →
      PassesAll limit config v b c last (feed_tally in_turn.happenings 0)
      (feed_tally in_turn.happenings refused) mid_ss ss') → feeds_in mid_ss ≤ 16 →
      Turns config max_clients limit w a c last ss ss' (turned_by in_turn refused)
  turn-made c last ss' in_turn refused hearing passes few =
      let v : World = world_beyond config w hearing.deeds in
      let x : PassesAll limit config v b c last (feed_tally in_turn.happenings 0)
      (feed_tally in_turn.happenings refused) mid_ss ss' = passes v hearing.does.stands in
      let deeds : List Deed = hearing.deeds ++ x.deeds in
      let does : Does config w a c last no_tally (tally_of (turned_by in_turn refused)) deeds =
      does-then config w a b c mid last no_tally (tally_heard_by in_turn)
      (tally_of (turned_by in_turn refused)) hearing.deeds x.deeds hearing.does x.does in
      record {
        deeds = deeds;
        does = does;
        how = record {
          heard_deeds = hearing.deeds;
          pass_deeds = x.deeds;
          between = v;
          open_then = mid_ss;
          whole = refl;
          first = hearing.how;
          passes = subst (λ u. Passes config limit v mid_ss x.deeds u ss')
              (sym (world_beyond-append config w hearing.deeds x.deeds)) x.how;
        };
        few_records = subst (λ u. BringsAtMost (16 * limit) w u)
            (sym (world_beyond-append config w hearing.deeds x.deeds))
            (turn-few (feeds_in mid_ss) limit w v (world_beyond config v x.deeds) few
            (hearing-brings config hearing.how) (passes-few config x.how));
        isolation = hands-as-alone config w deeds does.faithful;
      }

  pub turn-failed : (t : Tally) → WholeHearing config max_clients limit w a b mid t ss mid_ss Faulted →
      Fails config max_clients limit w a b mid ss mid_ss
  turn-failed t hearing = record {
    deeds = hearing.deeds;
    counts = t;
    does = hearing.does;
    how = hearing.how;
    no_record = none-brought w (world_beyond config w hearing.deeds) (hearing-brings config hearing.how);
    isolation = hands-as-alone config w hearing.deeds hearing.does.faithful;
  }
