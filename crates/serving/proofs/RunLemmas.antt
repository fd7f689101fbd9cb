-- Runs, turn after turn.
use Rattle.std.proofs.Common.{◌≡◌, ℕ, suc, ◌<◌, ◌≤◌, arith, Bool, true, false, Result, Ok, Err, List}
use Rattle.std.proofs.Common.{[], ◌∷◌, ◌++◌, refl, sym, ap, subst, ◌∙◌, Option, Some, None}
use Rattle.protocol.specs.Catalog.{Config}
use Rattle.protocol.specs.World.{World}
use Rattle.station_ring.specs.Levels.{raises_after}
use Rattle.server_core.specs.ServerValues.{ServerValue, StandsAt}
use Rattle.ports.specs.Calls.{Tells}
use Rattle.event_loop.specs.Deeds.{Deed, calls_in, world_beyond}
use Rattle.event_loop.proofs.DeedLemmas.{Tells-nil}
use Rattle.event_loop.specs.Turns.{HandsAsAlone}
use Rattle.serving.specs.declared.running.Stopped.{Stopped}
use Rattle.serving.specs.declared.timetable.Timetable.{Timetable}
use Rattle.serving.specs.Timetables.{failures_kept, turns_of}
use Rattle.serving.specs.Asked.{Asked}
use Rattle.serving.specs.Acts.{Act, all_calls, config_then, world_then, HandsThroughout}
use Rattle.serving.specs.Acts.Act.{Turning}
use Rattle.event_loop.specs.Loops.{LoopValue}
use Rattle.serving.specs.Runs.{RereadsIf, SomeStop, OneTurn, Runs, RanSo, Ran, GaveUp, reloads}
use Rattle.serving.specs.Runs.OneTurn.{made, not_made}
use Rattle.serving.specs.Runs.Runs.{begins, turned, failed}
use Rattle.serving.proofs.ActLemmas.{config-append, world-append, config-turning, world-turning}
use Rattle.serving.proofs.ActLemmas.{tells-turning, tells-silent}
use Rattle.serving.proofs.ActLemmas.{hands-nothing, hands-turning, hands-reloading, hands-then}

-- how many failed turns are counted after a stop
kept-none : (reread : Bool) → failures_kept reread 0 ≡ 0
kept-none true = refl
kept-none false = refl

module _ (config : Config) (w : World) (acts : List Act) (deeds : List Deed) where
  abbrev here : Config
  here = config_then config acts

  abbrev there : World
  there = world_then config w acts

  -- the configuration and the world after a turn more
  config-turned : config_then config (acts ++ Turning deeds ∷ []) ≡ here
  config-turned = config-append config acts (Turning deeds ∷ []) ∙ config-turning here deeds

  pub world-turned : world_then config w (acts ++ Turning deeds ∷ []) ≡ world_beyond here there deeds
  world-turned = world-append config w acts (Turning deeds ∷ []) ∙ world-turning here there deeds

  pub stands-turned : (server : ServerValue) → StandsAt server here (world_beyond here there deeds) →
      StandsAt server (config_then config (acts ++ Turning deeds ∷ []))
      (world_then config w (acts ++ Turning deeds ∷ []))
  stands-turned server stands =
      subst (λ c. StandsAt server c (world_then config w (acts ++ Turning deeds ∷ []))) (sym config-turned)
      (subst (λ u. StandsAt server here u) (sym world-turned) stands)

  pub hands-turned : HandsThroughout config w acts → HandsAsAlone here there deeds →
      HandsThroughout config w (acts ++ Turning deeds ∷ [])
  hands-turned before hands =
      hands-then config w acts (Turning deeds ∷ []) before (hands-turning here there deeds hands)

-- A stop hands no byte.
hands-reloads : {F : Type 0} (config : Config) (w : World) (answer : Result (Option Config) F)
    → HandsThroughout config w (reloads answer)
hands-reloads config w (Err fault) = hands-nothing config w
hands-reloads config w (Ok None) = hands-nothing config w
hands-reloads config w (Ok (Some new)) = hands-reloading config w new

hands-stop : {F : Type 0} (due : Bool) (config : Config) (w : World) (v v' : LoopValue) (a b : Option (List (Asked F)))
    (acts : List Act) → RereadsIf due config w v a acts v' b → HandsThroughout config w acts
hands-stop true config w v v' a b acts x =
    subst (λ l. HandsThroughout config w l) (sym x.comes) (hands-reloads config w x.answer)
hands-stop false config w v v' a b acts x =
    subst (λ l. HandsThroughout config w l) (sym x.0) (hands-nothing config w)

-- A stop calls no port.
reloads-call : {F : Type 0} (answer : Result (Option Config) F) → all_calls (reloads answer) ≡ []
reloads-call (Err fault) = refl
reloads-call (Ok None) = refl
reloads-call (Ok (Some new)) = refl

stop-calls : {F : Type 0} (due : Bool) (config : Config) (w : World) (v v' : LoopValue) (a b : Option (List (Asked F)))
    (acts : List Act) → RereadsIf due config w v a acts v' b → all_calls acts ≡ []
stop-calls true config w v v' a b acts x = ap all_calls x.comes ∙ reloads-call x.answer
stop-calls false config w v v' a b acts x = ap all_calls x.0

stop-keeps : {F : Type 0} (due : Bool) (config : Config) (w : World) (v v' : LoopValue) (a b : Option (List (Asked F)))
    (acts : List Act) → RereadsIf due config w v a acts v' b → v'.calls ≡ v.calls
stop-keeps true config w v v' a b acts x = ap (λ (u : LoopValue). u.calls) x.only
stop-keeps false config w v v' a b acts x = ap (λ (u : LoopValue). u.calls) x.1

module _ {F : Type 0} (t : Timetable) (config : Config) (w : World) (first : LoopValue)
    (first_asked : Option (List (Asked F))) where
  -- no turn yet
  pub ran-nothing : (kept : ℕ) → kept ≡ raises_after config w.history → StandsAt first.server config w
      → RanSo t config w first first_asked 0 0 kept first first_asked
  ran-nothing kept is stands = record {
    acts = [];
    runs = subst (λ n. Runs t config w first first_asked 0 0 n [] first first_asked) (sym is) begins;
    tells = Tells-nil first.calls;
    stands = stands;
    isolation = hands-nothing config w;
  }

  module _ (done failures failures' kept : ℕ) (v v' : LoopValue) (a : Option (List (Asked F)))
      (r : RanSo t config w first first_asked done failures kept v a) where
    abbrev now : Config
    now = config_then config r.acts

    abbrev at : World
    at = world_then config w r.acts

    -- the acts with a turn more
    abbrev with : List Deed → List Act
    with deeds = r.acts ++ Turning deeds ∷ []

    module _ (v'' : LoopValue) (left : Stopped) (b : Option (List (Asked F)))
        (stop : (k : Config) (u : World) → StandsAt v'.server k u → SomeStop t (suc done) k u v' kept a v'' left b)
        (few : failures' < 16) where
      after : (deeds : List Deed) → (s : SomeStop t (suc done) (config_then config (with deeds))
          (world_then config w (with deeds)) v' kept a v'' left b) →
          Runs t config w first first_asked (suc done) (failures_kept left.reread failures') left.kept
          (with deeds ++ s.acts) v'' b →
          Tells v.calls v'.calls (calls_in deeds) → HandsAsAlone now at deeds →
          RanSo t config w first first_asked (suc done) (failures_kept left.reread failures') left.kept v'' b
      after deeds s runs tells hands =
          let k : Config = config_then config (with deeds) in
          let u : World = world_then config w (with deeds) in
          record {
            acts = with deeds ++ s.acts;
            runs = runs;
            tells = tells-silent first.calls v'.calls v''.calls (with deeds) s.acts
                (stop-calls s.stops.due.reread k u v' v'' s.stops.first s.stops.between s.acts
                s.stops.reread)
                (stop-keeps s.stops.due.reread k u v' v'' s.stops.first s.stops.between s.acts
                s.stops.reread)
                (tells-turning first.calls v.calls v'.calls r.acts deeds r.tells tells);
            stands = subst (λ c. StandsAt v''.server c (world_then config w (with deeds ++ s.acts)))
                (sym (config-append config (with deeds) s.acts))
                (subst (λ x. StandsAt v''.server (config_then k s.acts) x)
                (sym (world-append config w (with deeds) s.acts))
                s.stands);
            isolation = hands-then config w (with deeds) s.acts (hands-turned config w r.acts deeds r.isolation hands)
                (hands-stop s.stops.due.reread k u v' v'' s.stops.first s.stops.between s.acts
                s.stops.reread);
          }

      by-turn : OneTurn failures failures' now at v v' →
          RanSo t config w first first_asked (suc done) (failures_kept left.reread failures') left.kept v'' b
      by-turn (made answer e x refused) =
          let s : SomeStop t (suc done) (config_then config (with x.deeds)) (world_then config w (with x.deeds))
          v' kept a v'' left b =
          stop _ _ (stands-turned config w r.acts x.deeds v'.server x.does.stands) in
          after x.deeds s
          (subst (λ n. Runs t config w first first_asked (suc done) n left.kept (with x.deeds ++ s.acts) v'' b)
          (sym (ap (failures_kept left.reread) e ∙ kept-none left.reread))
          (turned v' answer s.acts r.runs x refused s.stops))
          x.does.tells x.isolation
      by-turn (not_made e x refused) =
          let s : SomeStop t (suc done) (config_then config (with x.deeds)) (world_then config w (with x.deeds))
          v' kept a v'' left b =
          stop _ _ (stands-turned config w r.acts x.deeds v'.server x.does.stands) in
          after x.deeds s
          (subst (λ n. Runs t config w first first_asked (suc done) n left.kept (with x.deeds ++ s.acts) v'' b)
          (sym (ap (failures_kept left.reread) e ∙ ap (λ r. failures_kept r (suc failures)) (sym s.was)))
          (failed v' s.acts r.runs x refused (subst (λ n. n < 16) e few) s.stops))
          x.does.tells x.isolation

    module _ (some_left : done < turns_of t) (few : failures < 16) (many : 16 ≤ failures') where
      fifteen : failures' ≡ suc failures → failures ≡ 15
      fifteen e = omega arith

      by-last : OneTurn failures failures' now at v v' → GaveUp t config w first first_asked v' a
      by-last (made answer e x refused) = absurd (omega (arith, e, many))
      by-last (not_made e x refused) =
          record {
            done = done;
            some_left = some_left;
            kept = kept;
            before = v;
            ran = record {
              acts = r.acts;
              runs = subst (λ n. Runs t config w first first_asked done n kept r.acts v a) (fifteen e) r.runs;
              tells = r.tells;
              stands = r.stands;
              isolation = r.isolation;
            };
            last = x;
            refused = refused;
            tells = tells-turning first.calls v.calls v'.calls r.acts x.deeds r.tells x.does.tells;
            stands = stands-turned config w r.acts x.deeds v'.server x.does.stands;
            isolation = hands-turned config w r.acts x.deeds r.isolation x.isolation;
          }

  -- a turn more, with the stop after it
  pub ran-on : (done next failures failures' last : ℕ) (left : Stopped) (v v' v'' : LoopValue)
      (a b : Option (List (Asked F))) → next ≡ suc done →
      RanSo t config w first first_asked done failures last v a →
      ((k : Config) (u : World) → StandsAt v.server k u → OneTurn failures failures' k u v v') →
      ((k : Config) (u : World) → StandsAt v'.server k u → SomeStop t next k u v' last a v'' left b) →
      failures' < 16 → (kept : ℕ) → kept ≡ failures_kept left.reread failures' →
      RanSo t config w first first_asked next kept left.kept v'' b
  ran-on done next failures failures' last left v v' v'' a b e r turn stop few kept is =
      subst (λ n. RanSo t config w first first_asked next n left.kept v'' b) (sym is)
      (subst (λ n. RanSo t config w first first_asked n (failures_kept left.reread failures') left.kept v'' b) (sym e)
      (by-turn done failures failures' last v v' a r v'' left b
      (λ k u there. subst (λ n. SomeStop t n k u v' last a v'' left b) e (stop k u there)) few
      (turn _ _ r.stands)))

  -- the sixteenth in a row that failed
  pub ran-out : (done failures failures' kept : ℕ) (v v' : LoopValue) (a : Option (List (Asked F)))
      → RanSo t config w first first_asked done failures kept v a →
      ((k : Config) (u : World) → StandsAt v.server k u → OneTurn failures failures' k u v v') →
      done < turns_of t → failures < 16 → 16 ≤ failures' →
      GaveUp t config w first first_asked v' a
  ran-out done failures failures' kept v v' a r turn left few many =
      by-last done failures failures' kept v v' a r left few many
      (turn _ _ r.stands)

  pub ran-all : (done failures kept : ℕ) (v : LoopValue) (a : Option (List (Asked F))) →
      RanSo t config w first first_asked done failures kept v a → done ≡ turns_of t →
      Ran t config w first first_asked v a
  ran-all done failures kept v a r e =
      record {
        failures = failures;
        kept = kept;
        ran = subst (λ n. RanSo t config w first first_asked n failures kept v a) e r;
      }
