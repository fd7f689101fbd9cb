-- What is kept along a run.
use Rattle.std.proofs.Common.{◌≡◌, ℕ, suc, ◌+◌, ◌≤◌, Bool, true, false, if◌then◌else◌, List, []}
use Rattle.std.proofs.Common.{◌∷◌, ◌++◌, ◌&&◌, length, refl, sym, ap, subst, ◌∙◌, arith, append_assoc, append-nil}
use Rattle.std.proofs.Common.{length-append, Option, Some, None, Result, Ok, Err, nat_lt, get_or}
use Rattle.std.proofs.lemmas.Bool.Decides.{nat_tests}
use Rattle.protocol.specs.Catalog.{Config, is_same_but_for_access}
use Rattle.protocol.specs.History.{Arrival}
use Rattle.protocol.specs.World.{Event, World, accepted, arrived, config_after, config_by, step, world_from}
use Rattle.protocol.specs.World.Event.{Open, Bytes, Take, Close, Arrive, Reload}
use Rattle.protocol.proofs.Connections.{world_from-append}
use Rattle.station_ring.specs.HeldRecords.{numbers_after}
use Rattle.station_ring.specs.Levels.{raises_after}
use Rattle.event_loop.specs.Deeds.{Deed, events_in, world_beyond}
use Rattle.event_loop.specs.Loops.{LoopValue}
use Rattle.event_loop.specs.Turns.{BringsAtMost}
use Rattle.serving.specs.declared.between.Refusal.TheVariants.{Different}
use Rattle.serving.specs.declared.timetable.Timetable.{Timetable}
use Rattle.serving.specs.Ahead.{numbers_ahead}
use Rattle.serving.specs.Asked.{Asked, Tells}
use Rattle.serving.specs.Asked.Asked.{Configuration, Keeps, Refuses}
use Rattle.serving.specs.Acts.{Act, all_events, config_then, world_then}
use Rattle.serving.specs.Acts.Act.{Turning}
use Rattle.serving.specs.Keeping.{AreAhead, BeginsTurn, IsAhead, Kept, KeepsAhead, KeepsExactly, just_kept, kept_by}
use Rattle.serving.specs.Keeping.{kept_from}
use Rattle.serving.specs.Keeping.{kept_with}
use Rattle.serving.specs.Keeping.{nothing_kept}
use Rattle.serving.specs.Keeping.BeginsTurn.{no_turn, of_made, of_failed}
use Rattle.serving.specs.declared.between.Due.{Due}
use Rattle.serving.specs.Runs.{KeepsIf, LooksIf, RereadsIf, Runs, Stops, refusals, reloads, raises_kept, reports_if}
use Rattle.serving.specs.Runs.{unkept}
use Rattle.serving.specs.Runs.Runs.{begins, turned, failed}
use Rattle.serving.specs.Timetables.{is_keep_due, is_timed}
use Rattle.serving.proofs.ActLemmas.{world-append}
use Rattle.serving.proofs.RunLemmas.{world-turned}
use Rattle.serving.proofs.AheadLemmas.{ahead-at, ahead-same, ahead-stays, raises-stay}

-- ---- histories grow

record Grows (h h' : List Arrival) : Type 0 where
  more : List Arrival
  is : h' ≡ h ++ more

grows-not : (h : List Arrival) → Grows h h
grows-not h = record { more = []; is = sym (append-nil h) }

grows-then : (a b c : List Arrival) → Grows a b → Grows b c → Grows a c
grows-then a b c p q =
    record { more = p.more ++ q.more; is = q.is ∙ ap (λ l. l ++ q.more) p.is ∙ append_assoc a p.more q.more }

grows-arrived : (h : List Arrival) (o : Option Arrival) → Grows h (arrived h o)
grows-arrived h None = grows-not h
grows-arrived h (Some a) = record { more = a ∷ []; is = refl }

grows-step : (config : Config) (w : World) (e : Event) → Grows w.history (step config w e).history
grows-step config w (Open a) = grows-not w.history
grows-step config w (Bytes k bytes) = grows-not w.history
grows-step config w (Take k n) = grows-not w.history
grows-step config w (Close k) = grows-not w.history
grows-step config w (Arrive r) = grows-arrived w.history (accepted config r)
grows-step config w (Reload new) = grows-not w.history

grows-from : (config : Config) (w : World) (es : List Event) → Grows w.history (world_from config w es).history
grows-from config w [] = grows-not w.history
grows-from config w (e ∷ es) =
    grows-then w.history (step config w e).history (world_from (config_by config e) (step config w e) es).history
    (grows-step config w e) (grows-from (config_by config e) (step config w e) es)

-- A beginning of the events brings no more than all of them.
first-few : (config : Config) (w : World) (all events more : List Event) (most : ℕ) → all ≡ events ++ more
    → BringsAtMost most w (world_from config w all) → BringsAtMost most w (world_from config w events)
first-few config w all events more most is few =
    let there : World = world_from config w events in
    let later : Grows there.history (world_from config w (events ++ more)).history =
    subst (λ (u : World). Grows there.history u.history) (sym (world_from-append config w events more))
    (grows-from _ there more) in
    let size : length (world_from config w all).history ≡ length there.history + length later.more =
    ap (λ l. length (world_from config w l).history) is ∙ ap (λ (h : List Arrival). length h) later.is
    ∙ length-append there.history later.more in
    omega (arith, size, few)

-- ---- what is told

module _ {F : Type 0} where
  pub kept-append : (k : Kept) (xs ys : List (Asked F)) → kept_from k (xs ++ ys) ≡ kept_from (kept_from k xs) ys
  kept-append k [] ys = refl
  kept-append k (x ∷ xs) ys = kept-append (kept_with k x) xs ys

  -- what was told before
  record Before (a : Option (List (Asked F))) (ys l : List (Asked F)) : Type 0 where
    xs : List (Asked F)
    was : a ≡ Some xs
    is : kept_by ys ≡ kept_from (kept_by xs) l

  told-before : (a b : Option (List (Asked F))) (l ys : List (Asked F)) → Tells a b l → b ≡ Some ys → Before a ys l
  told-before a None l ys p e = absurd (cc)
  told-before None (Some y) l ys p e = absurd p
  told-before (Some x) (Some y) l ys p e =
      let q : ys ≡ x ++ l = cc in
      record { xs = x; was = refl; is = ap kept_by q ∙ kept-append nothing_kept x l }

  refused-keep : (k : Kept) (config : Config) (answer : Result (Option Config) F)
      → kept_from k (Configuration answer ∷ refusals config answer) ≡ k
  refused-keep k config (Err fault) = refl
  refused-keep k config (Ok None) = refl
  refused-keep k config (Ok (Some new)) = by (is_same_but_for_access config new)
    where
      by : (same : Bool)
          → kept_from {F = F} k (Configuration (Ok (Some new)) ∷ (if same then [] else Refuses Different ∷ [])) ≡ k
      by true = refl
      by false = refl

  reread-before : (due : Bool) (config : Config) (w : World) (v v' : LoopValue) (a b : Option (List (Asked F)))
      (acts : List Act) (ys : List (Asked F)) → RereadsIf due config w v a acts v' b → b ≡ Some ys → Before a ys []
  reread-before true config w v v' a b acts ys x e =
      let told = told-before a b (Configuration x.answer ∷ refusals config x.answer) ys x.tells e in
      record { xs = told.xs; was = told.was; is = told.is ∙ refused-keep (kept_by told.xs) config x.answer }
  reread-before false config w v v' a b acts ys x e = record { xs = ys; was = sym x.2 ∙ e; is = refl }

  report-before : (due : Bool) (w : World) (v : LoopValue) (a b : Option (List (Asked F))) (ys : List (Asked F))
      → Tells a b (reports_if due w v) → b ≡ Some ys → Before a ys []
  report-before true w v a b ys p e = let told = told-before a b _ ys p e in
      record { xs = told.xs; was = told.was; is = told.is }
  report-before false w v a b ys p e = told-before a b [] ys p e

  look-before : (timed : Bool) (by_time : Due) (a b : Option (List (Asked F))) (ys : List (Asked F))
      → LooksIf timed a by_time b → b ≡ Some ys → Before a ys []
  look-before true by_time a b ys p e = let told = told-before a b _ ys p e in
      record { xs = told.xs; was = told.was; is = told.is }
  look-before false by_time a b ys p e = record { xs = ys; was = sym p.1 ∙ e; is = refl }

  -- A stop brings no record.
  reloads-bring : (config : Config) (w : World) (answer : Result (Option Config) F)
      → (world_then config w (reloads answer)).history ≡ w.history
  reloads-bring config w (Err fault) = refl
  reloads-bring config w (Ok None) = refl
  reloads-bring config w (Ok (Some new)) = refl

  reread-brings : (due : Bool) (config : Config) (w : World) (v v' : LoopValue) (a b : Option (List (Asked F)))
      (acts : List Act) → RereadsIf due config w v a acts v' b → (world_then config w acts).history ≡ w.history
  reread-brings true config w v v' a b acts x =
      ap (λ l. (world_then config w l).history) x.comes ∙ reloads-bring config w x.answer
  reread-brings false config w v v' a b acts x = ap (λ l. (world_then config w l).history) x.0

-- ---- along a run

-- The number of a station after a history, and that of what is kept.
abbrev AheadAt : ℕ → Config → List Arrival → List ℕ → ℕ → Type 0
AheadAt least config h kept place =
    IsAhead least (get_or (numbers_after config h) place 0) (get_or kept place 0)

-- The numbers were kept last after the beginning of a history, and what is to be kept has not changed since, unless a
-- keep failed.
record Follows (config : Config) (h : List Arrival) (kept : ℕ) (k : Kept) : Type 0 where
  earlier : List Arrival
  later : List Arrival
  is : h ≡ earlier ++ later
  numbers : k.numbers ≡ Some (numbers_ahead config earlier)
  levels : kept ≡ raises_after config earlier
  exact : k.fails ≡ 0 → numbers_ahead config h ≡ numbers_ahead config earlier

module _ (config : Config) where
  -- numbers that are kept at once
  just : (h : List Arrival) → Follows config h (raises_after config h) (just_kept (numbers_ahead config h))
  just h = record {
    earlier = h;
    later = [];
    is = sym (append-nil h);
    numbers = refl;
    levels = refl;
    exact = λ none. refl;
  }

  module _ (h h' : List Arrival) (kept : ℕ) (k : Kept) (f : Follows config h kept k) (grows : Grows h h') where
    abbrev later' : List Arrival
    later' = f.later ++ grows.more

    is' : h' ≡ f.earlier ++ later'
    is' = grows.is ∙ ap (λ l. l ++ grows.more) f.is ∙ append_assoc f.earlier f.later grows.more

    not-due : raises_after config h' ≤ kept → Follows config h' kept k
    not-due still = record {
      earlier = f.earlier;
      later = later';
      is = is';
      numbers = f.numbers;
      levels = f.levels;
      exact = λ none.
          subst (λ l. numbers_ahead config l ≡ numbers_ahead config f.earlier) (sym is')
          (ahead-same config f.earlier later'
          (subst (λ l. raises_after config l ≤ raises_after config f.earlier) is'
          (subst (λ n. raises_after config h' ≤ n) f.levels still)));
    }

    failed-keep : Follows config h' kept (record k { fails = suc k.fails })
    failed-keep = record {
      earlier = f.earlier;
      later = later';
      is = is';
      numbers = f.numbers;
      levels = f.levels;
      exact = λ none. absurd (cc);
    }

  -- what is kept is ahead
  are-ahead : (least : ℕ) (h more : List Arrival) (kept : ℕ) (k : Kept) → Follows config h kept k → k.fails ≡ 0
      → length more + least ≤ 1025 → AreAhead least config (h ++ more) k
  are-ahead least h more kept k f none few = record {
    kept = numbers_ahead config h;
    last = f.numbers ∙ ap {B = Option (List ℕ)} Some (sym (f.exact none));
    ahead = λ place inside. ahead-at least config.entries h more place few inside;
  }

  -- the keep of a stop, if one is due
  keep-follows : {F : Type 0} (due : Bool) (t : Timetable) (es : List Event) (w' : World) (h : List Arrival)
      (kept kept' : ℕ) (a b : Option (List (Asked F))) (ys : List (Asked F))
      → due ≡ is_keep_due t kept (raises_after (config_after config es) w'.history) → t.keep ≡ true
      → KeepsIf due (config_after config es) w' kept a kept' b → b ≡ Some ys → Grows h w'.history
      → (xs : List (Asked F)) × (a ≡ Some xs)
      × (Follows config h kept (kept_by xs) → Follows config w'.history kept' (kept_by ys))
  keep-follows {F = F} false t es w' h kept kept' a b ys due is x e grows =
      let levels : ℕ = raises_after (config_after config es) w'.history in
      let still : raises_after config w'.history ≤ kept =
      subst (λ n. n ≤ kept) (raises-stay config es w'.history) (no-more kept levels (due ∙ rule t kept levels is)) in (
        ys,
        sym x.1 ∙ e,
        λ f. subst (λ n. Follows config w'.history n (kept_by ys)) (sym x.0)
            (not-due h w'.history kept (kept_by ys) f grows still),
      )
    where
      rule : (t : Timetable) (kept levels : ℕ) → t.keep ≡ true → is_keep_due t kept levels ≡ nat_lt kept levels
      rule t kept levels is = ap (λ k. k && nat_lt kept levels) is

      no-more : (kept levels : ℕ) → false ≡ nat_lt kept levels → levels ≤ kept
      no-more kept levels test = grind (arith, nat_tests, sym test)
  keep-follows {F = F} true t es w' h kept kept' a b ys due is x e grows = by x.answer x.tells x.counts
    where
      by : (answer : Result (Unit {0}) F)
          → Tells a b (Keeps (numbers_ahead (config_after config es) w'.history) answer ∷ unkept answer)
          → kept' ≡ raises_kept answer kept (raises_after (config_after config es) w'.history)
          → (xs : List (Asked F)) × (a ≡ Some xs)
          × (Follows config h kept (kept_by xs) → Follows config w'.history kept' (kept_by ys))
      by (Ok done) tells counts =
          let told = told-before a b _ ys tells e in
          let same : kept_by ys ≡ just_kept (numbers_ahead config w'.history) =
          told.is ∙ ap just_kept (ahead-stays config es w'.history) in
          let levels : kept' ≡ raises_after config w'.history = counts ∙ raises-stay config es w'.history in (
            told.xs,
            told.was,
            λ f. subst (λ n. Follows config w'.history n (kept_by ys)) (sym levels)
                (subst (Follows config w'.history (raises_after config w'.history)) (sym same) (just w'.history)),
          )
      by (Err fault) tells counts =
          let told = told-before a b _ ys tells e in (
            told.xs,
            told.was,
            λ f. subst (λ n. Follows config w'.history n (kept_by ys)) (sym counts)
                (subst (Follows config w'.history kept) (sym told.is)
                (failed-keep h w'.history kept (kept_by told.xs) f grows)),
          )

  -- a stop after a turn
  stop-follows : {F : Type 0} (t : Timetable) (done : ℕ) (es : List Event) (w' : World) (v' v'' : LoopValue)
      (h : List Arrival) (kept kept' : ℕ) (a b : Option (List (Asked F))) (stop : List Act) (ys : List (Asked F))
      → Stops t done (config_after config es) w' v' kept a stop v'' kept' b → t.keep ≡ true → b ≡ Some ys
      → Grows h w'.history
      → (xs : List (Asked F)) × (a ≡ Some xs)
      × (Follows config h kept (kept_by xs)
      → Follows config (world_then (config_after config es) w' stop).history kept' (kept_by ys))
  stop-follows t done es w' v' v'' h kept kept' a b stop ys x is e grows =
      let k : Config = config_after config es in
      let r = report-before x.due.report (world_then k w' stop) v'' x.between b ys x.report e in
      let s = reread-before x.due.reread k w' v' v'' x.first x.between stop r.xs x.reread r.was in
      let m = keep-follows (is_keep_due t kept (raises_after k w'.history)) t es w' h kept kept' x.looked x.first s.xs
      refl is x.keep s.was grows in
      let o = look-before (is_timed t) x.finds.by_time a x.looked m.0 x.finds.looks m.1 in
      let same : kept_by ys ≡ kept_by s.xs = r.is ∙ s.is in (
        o.xs,
        o.was,
        λ f.
            subst (λ l. Follows config l kept' (kept_by ys))
            (sym (reread-brings x.due.reread k w' v' v'' x.first x.between stop x.reread))
            (subst (Follows config w'.history kept') (sym same)
            (m.2 (subst (Follows config h kept) (sym o.is) f))),
      )

module _ {F : Type 0} (t : Timetable) (config : Config) (w : World) (first : LoopValue)
    (asked : List (Asked F)) (is : t.keep ≡ true)
    (begun : kept_by asked ≡ just_kept (numbers_ahead config w.history)) where
  -- a turn more, with the stop after it
  turn-follows : (done : ℕ) (acts : List Act) (deeds : List Deed) (v' v'' : LoopValue) (kept kept' : ℕ)
      (a b : Option (List (Asked F))) (stop : List Act) (ys : List (Asked F))
      → Stops t done (config_then config (acts ++ Turning deeds ∷ []))
      (world_then config w (acts ++ Turning deeds ∷ []))
      v' kept a stop v'' kept' b
      → b ≡ Some ys
      → (xs : List (Asked F)) × (a ≡ Some xs)
      × (Follows config (world_then config w acts).history kept (kept_by xs)
      → Follows config (world_then config w ((acts ++ Turning deeds ∷ []) ++ stop)).history kept' (kept_by ys))
  turn-follows done acts deeds v' v'' kept kept' a b stop ys x e =
      let with : List Act = acts ++ Turning deeds ∷ [] in
      let k : Config = config_then config acts in
      let u : World = world_then config w acts in
      let there : World = world_then config w with in
      let turned : there ≡ world_beyond k u deeds = world-turned config w acts deeds in
      let grows : Grows u.history there.history = subst (λ (z : World). Grows u.history z.history) (sym turned)
      (grows-from k u (events_in deeds)) in
      let m = stop-follows config t done (all_events with) there v' v'' u.history kept kept' a b stop ys x is e
      grows in (
        m.0,
        m.1,
        λ f.
            subst (λ (z : World). Follows config z.history kept' (kept_by ys))
            (sym (world-append config w with stop)) (m.2 f),
      )

  follows : {done failures kept : ℕ} {acts : List Act} {v : LoopValue} {b : Option (List (Asked F))}
      → Runs t config w first (Some asked) done failures kept acts v b → (ys : List (Asked F)) → b ≡ Some ys
      → Follows config (world_then config w acts).history kept (kept_by ys)
  follows begins ys e =
      let same : asked ≡ ys = cc in
      subst (λ l. Follows config w.history (raises_after config w.history) (kept_by l)) same
      (subst (Follows config w.history (raises_after config w.history)) (sym begun) (just config w.history))
  follows (turned {acts = acts} v' tn stop r x refused s) ys e =
      let m = turn-follows _ acts x.deeds v' _ _ _ _ _ stop ys s e in
      m.2 (follows r m.0 m.1)
  follows (failed {acts = acts} v' stop r x refused few s) ys e =
      let m = turn-follows _ acts x.deeds v' _ _ _ _ _ stop ys s e in
      m.2 (follows r m.0 m.1)

-- how many records the first events of a turn bring
turn-brings : (config : Config) (w : World) (v : LoopValue) (events : List Event) → BeginsTurn config w v events
    → BringsAtMost 1024 w (world_from config w events)
turn-brings config w v events (no_turn is) =
    subst (λ l. BringsAtMost 1024 w (world_from config w l)) (sym is) (omega arith)
turn-brings config w v events (of_made v' tn more x is) =
    first-few config w (events_in x.deeds) events more 1024 is x.few_records
turn-brings config w v events (of_failed v' more x is) =
    first-few config w (events_in x.deeds) events more 1024 is (omega (arith, x.no_record))

pub keeps-ahead : (F : Type 0) → KeepsAhead F
keeps-ahead F t config w first v asked asked' done failures kept acts is begun runs none =
    let k : Config = config_then config acts in
    let u : World = world_then config w acts in
    let f = follows t config w first asked is begun runs asked' refl in (
      subst (λ l. AreAhead 1025 config l (kept_by asked')) (append-nil u.history)
          (are-ahead config 1025 u.history [] kept (kept_by asked') f none (omega arith)),
      λ events turn.
          let grows : Grows u.history (world_from k u events).history = grows-from k u events in
          let few : BringsAtMost 1024 u (world_from k u events) = turn-brings k u v events turn in
          let size : length (world_from k u events).history ≡ length u.history + length grows.more =
          ap (λ (l : List Arrival). length l) grows.is ∙ length-append u.history grows.more in
          subst (λ l. AreAhead 1 config l (kept_by asked')) (sym grows.is)
          (are-ahead config 1 u.history grows.more kept (kept_by asked') f none (omega (arith, size, few))),
    )

pub keeps-exactly : (F : Type 0) → KeepsExactly F
keeps-exactly F t config w first v asked asked' done failures kept acts is begun runs none =
    let f = follows t config w first asked is begun runs asked' refl in
    f.numbers ∙ ap {B = Option (List ℕ)} Some (sym (f.exact none))
