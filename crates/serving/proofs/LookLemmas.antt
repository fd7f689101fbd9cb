-- When a configuration is asked for, by what is said to be due by time.
use Rattle.std.proofs.Common.{◌≡◌, ◌||◌, ℕ, suc, Bool, true, false, if◌then◌else◌, List, [], ◌∷◌, ◌++◌, refl, sym}
use Rattle.std.proofs.Common.{ap, ap₂, length, map, subst, ◌∙◌, append_assoc, length-append, arith}
use Rattle.std.proofs.Common.{Option, Some, None, Result, Ok, Err}
use Rattle.std.proofs.lemmas.List.{append-nil, map-append}
use Rattle.protocol.specs.Catalog.{Config, is_same_but_for_access}
use Rattle.protocol.specs.World.{World}
use Rattle.event_loop.specs.Loops.{LoopValue}
use Rattle.station_ring.specs.Levels.{raises_after}
use Rattle.text_parts.specs.declared.period.Period.{Period}
use Rattle.text_parts.specs.declared.period.Period.TheVariants.{Seconds, Turns}
use Rattle.serving.specs.declared.between.Due.{Due}
use Rattle.serving.specs.declared.between.Refusal.TheVariants.{Different}
use Rattle.serving.specs.declared.timetable.Timetable.{Timetable}
use Rattle.serving.specs.Timetables.{is_by_turns, is_due, is_keep_due, is_timed}
use Rattle.serving.specs.Ahead.{numbers_ahead}
use Rattle.serving.specs.Asked.{Asked, Tells}
use Rattle.serving.specs.Asked.Asked.{Configuration, Keeps, Looks, Refuses, Reports}
use Rattle.serving.specs.Acts.{Act, world_then}
use Rattle.serving.specs.Looking.{AddsLooks, AsksByLooks, AsksByTime, asks_first, looks, rereads}
use Rattle.serving.specs.Runs.{KeepsIf, LooksIf, RereadsIf, Runs, Stops, refusals, reports_if, unkept}
use Rattle.serving.specs.Runs.Runs.{begins, turned, failed}

-- what was told before, and what was added
record Adds {F : Type 0} (a : Option (List (Asked F))) (ys block : List (Asked F)) : Type 0 where
  xs : List (Asked F)
  was : a ≡ Some xs
  is : ys ≡ xs ++ block

-- nothing goes by turns
by-time : (period : Option Period) (done : ℕ) (by_time : Bool) → is_by_turns period ≡ false
    → (is_due period done || by_time) ≡ by_time
by-time None done by_time e = refl
by-time (Some (Turns n)) done by_time e = absurd cc
by-time (Some (Seconds n)) done by_time e = refl

-- what is added in four pieces
pieces : {A : Type 0} (xs : List A) (x : A) (ks rs ps : List A)
    → (((xs ++ x ∷ []) ++ ks) ++ rs) ++ ps ≡ xs ++ x ∷ (ks ++ (rs ++ ps))
pieces xs x ks rs ps = simp append_assoc

module _ {F : Type 0} where
  adds : (a b : Option (List (Asked F))) (block ys : List (Asked F)) → Tells a b block → b ≡ Some ys → Adds a ys block
  adds a None block ys p e = absurd (cc)
  adds None (Some y) block ys p e = absurd p
  adds (Some x) (Some y) block ys p e =
      let q : y ≡ ys = cc in
      record { xs = x; was = refl; is = sym q ∙ p }

  adds-none : (a : Option (List (Asked F))) (ys : List (Asked F)) → a ≡ Some ys → Adds a ys []
  adds-none a ys e = record { xs = ys; was = e; is = sym (append-nil ys) }

  -- ---- calls of one stop after its look

  -- It has no look, and asks as is said.
  record IsRest (due : Bool) (calls : List (Asked F)) : Type 0 where
    no_look : looks calls ≡ []
    asks : asks_first calls ≡ due

  report-rest : (due : Bool) (w : World) (v : LoopValue) → IsRest false (reports_if due w v)
  report-rest true w v = record { no_look = refl; asks = refl }
  report-rest false w v = record { no_look = refl; asks = refl }

  refusals-rest : (config : Config) (answer : Result (Option Config) F) (rest : List (Asked F)) → looks rest ≡ []
      → looks (refusals config answer ++ rest) ≡ []
  refusals-rest config (Err fault) rest h = h
  refusals-rest config (Ok None) rest h = h
  refusals-rest config (Ok (Some new)) rest h = by (is_same_but_for_access config new)
    where
      by : (same : Bool) → looks ((if same then [] else Refuses Different ∷ []) ++ rest) ≡ []
      by true = h
      by false = h

  record RereadRest (due : Bool) (a : Option (List (Asked F))) (ys rest : List (Asked F)) : Type 0 where
    block : List (Asked F)
    added : Adds a ys block
    is_rest : IsRest due (block ++ rest)

  reread-rest : (due : Bool) (config : Config) (w : World) (v v' : LoopValue) (a b : Option (List (Asked F)))
      (acts : List Act) (ys rest : List (Asked F)) → RereadsIf due config w v a acts v' b → b ≡ Some ys
      → IsRest false rest → RereadRest due a ys rest
  reread-rest true config w v v' a b acts ys rest x e h =
      record {
        block = Configuration x.answer ∷ refusals config x.answer;
        added = adds a b (Configuration x.answer ∷ refusals config x.answer) ys x.tells e;
        is_rest = record { no_look = refusals-rest config x.answer rest h.no_look; asks = refl };
      }
  reread-rest false config w v v' a b acts ys rest x e h =
      record { block = []; added = adds-none a ys (sym x.2 ∙ e); is_rest = h }

  keep-look : (numbers : List ℕ) (answer : Result (Unit {0}) F) (rest : List (Asked F))
      → looks ((Keeps numbers answer ∷ unkept answer) ++ rest) ≡ looks rest
  keep-look numbers (Err fault) rest = refl
  keep-look numbers (Ok done) rest = refl

  keep-ask : (numbers : List ℕ) (answer : Result (Unit {0}) F) (rest : List (Asked F))
      → asks_first ((Keeps numbers answer ∷ unkept answer) ++ rest) ≡ asks_first rest
  keep-ask numbers (Err fault) rest = refl
  keep-ask numbers (Ok done) rest = refl

  keep-rest : (due again : Bool) (config : Config) (w : World) (kept kept' : ℕ) (a b : Option (List (Asked F)))
      (ys rest : List (Asked F)) → KeepsIf due config w kept a kept' b → b ≡ Some ys → IsRest again rest
      → RereadRest again a ys rest
  keep-rest true again config w kept kept' a b ys rest x e h =
      let answer = x.answer in
      let numbers = numbers_ahead config w.history in
      record {
        block = Keeps numbers answer ∷ unkept answer;
        added = adds a b (Keeps numbers answer ∷ unkept answer) ys x.tells e;
        is_rest = record {
          no_look = keep-look numbers answer rest ∙ h.no_look;
          asks = keep-ask numbers answer rest ∙ h.asks;
        };
      }
  keep-rest false again config w kept kept' a b ys rest x e h =
      record { block = []; added = adds-none a ys (sym x.1 ∙ e); is_rest = h }

  -- ---- one stop

  -- One look was added, which says whether the configuration was asked for then.
  record AddsLook (a : Option (List (Asked F))) (ys : List (Asked F)) : Type 0 where
    due : Due
    rest : List (Asked F)
    added : Adds a ys (Looks due ∷ rest)
    is_rest : IsRest due.reread rest

  looked : (timed : Bool) (by_time : Due) (a b : Option (List (Asked F))) (ys rest : List (Asked F)) → timed ≡ true
      → LooksIf timed a by_time b → b ≡ Some ys → IsRest by_time.reread rest → Adds a ys (Looks by_time ∷ [])
  looked true by_time a b ys rest e p was h = adds a b (Looks by_time ∷ []) ys p was
  looked false by_time a b ys rest e p was h = absurd cc

  stop-adds : (t : Timetable) (done : ℕ) (config : Config) (w : World) (v v' : LoopValue) (kept kept' : ℕ)
      (a b : Option (List (Asked F))) (acts : List Act) (ys : List (Asked F))
      → Stops t done config w v kept a acts v' kept' b → is_timed t ≡ true → is_by_turns t.reread ≡ false
      → b ≡ Some ys → AddsLook a ys
  stop-adds t done config w v v' kept kept' a b acts ys x timed none e =
      let d : Due = x.finds.by_time in
      let again : x.due.reread ≡ d.reread =
      ap (λ (due : Due). due.reread) x.finds.is ∙ by-time t.reread done d.reread none in
      let u : World = world_then config w acts in
      let report : List (Asked F) = reports_if x.due.report u v' in
      let p : Adds x.between ys report = adds x.between b report ys x.report e in
      let r : RereadRest x.due.reread x.first p.xs report =
      reread-rest x.due.reread config w v v' x.first x.between acts p.xs report x.reread p.was
      (report-rest x.due.report u v') in
      let k : RereadRest x.due.reread x.looked r.added.xs (r.block ++ report) =
      keep-rest (is_keep_due t kept (raises_after config w.history)) x.due.reread config w kept kept' x.looked x.first
      r.added.xs (r.block ++ report) x.keep r.added.was r.is_rest in
      let rest : List (Asked F) = k.block ++ (r.block ++ report) in
      let is_rest : IsRest d.reread rest = subst (λ due. IsRest due rest) again k.is_rest in
      let l : Adds a k.added.xs (Looks d ∷ []) =
      looked (is_timed t) d a x.looked k.added.xs rest timed x.finds.looks k.added.was is_rest in
      record {
        due = d;
        rest = rest;
        added = record {
          xs = l.xs;
          was = l.was;
          is = p.is ∙ (ap (λ z. z ++ report) (r.added.is ∙ ap (λ z. z ++ r.block) (k.added.is
              ∙ ap (λ z. z ++ k.block) l.is)) ∙ pieces l.xs (Looks d) k.block r.block report);
        };
        is_rest = is_rest;
      }

  -- ---- all calls so far

  asks-before : (xs rest : List (Asked F)) (due : Due) → asks_first (xs ++ Looks due ∷ rest) ≡ asks_first xs
  asks-before [] rest due = refl
  asks-before (Looks d ∷ xs) rest due = refl
  asks-before (Configuration answer ∷ xs) rest due = refl
  asks-before (Refuses refusal ∷ xs) rest due = asks-before xs rest due
  asks-before (Reports activity ∷ xs) rest due = asks-before xs rest due
  asks-before (Keeps numbers answer ∷ xs) rest due = asks-before xs rest due

  no-reread : (rest : List (Asked F)) → looks rest ≡ [] → rereads rest ≡ []
  no-reread [] h = refl
  no-reread (Looks d ∷ xs) h = absurd cc
  no-reread (Configuration answer ∷ xs) h = no-reread xs h
  no-reread (Refuses refusal ∷ xs) h = no-reread xs h
  no-reread (Reports activity ∷ xs) h = no-reread xs h
  no-reread (Keeps numbers answer ∷ xs) h = no-reread xs h

  rereads-look : (xs rest : List (Asked F)) (due : Due) → IsRest due.reread rest
      → rereads (xs ++ Looks due ∷ rest) ≡ rereads xs ++ due.reread ∷ []
  rereads-look [] rest due h = ap₂ (λ b bs. b ∷ bs) h.asks (no-reread rest h.no_look)
  rereads-look (Looks d ∷ xs) rest due h =
      ap₂ (λ b bs. b ∷ bs) (asks-before xs rest due) (rereads-look xs rest due h)
  rereads-look (Configuration answer ∷ xs) rest due h = rereads-look xs rest due h
  rereads-look (Refuses refusal ∷ xs) rest due h = rereads-look xs rest due h
  rereads-look (Reports activity ∷ xs) rest due h = rereads-look xs rest due h
  rereads-look (Keeps numbers answer ∷ xs) rest due h = rereads-look xs rest due h

  looks-look : (xs rest : List (Asked F)) (due : Due) → looks rest ≡ [] → looks (xs ++ Looks due ∷ rest)
      ≡ looks xs ++ due ∷ []
  looks-look [] rest due h = ap (λ l. due ∷ l) h
  looks-look (Looks d ∷ xs) rest due h = ap (λ l. d ∷ l) (looks-look xs rest due h)
  looks-look (Configuration answer ∷ xs) rest due h = looks-look xs rest due h
  looks-look (Refuses refusal ∷ xs) rest due h = looks-look xs rest due h
  looks-look (Reports activity ∷ xs) rest due h = looks-look xs rest due h
  looks-look (Keeps numbers answer ∷ xs) rest due h = looks-look xs rest due h

  one-more : (turns : ℕ) (new rest : List (Asked F)) (due : Due) → AsksByLooks turns new → IsRest due.reread rest
      → AsksByLooks (suc turns) (new ++ Looks due ∷ rest)
  one-more turns new rest due so h =
      let more : looks (new ++ Looks due ∷ rest) ≡ looks new ++ due ∷ [] = looks-look new rest due h.no_look in
      record {
        each_turn = ap length more
            ∙ (let e : length (looks new ++ due ∷ []) ≡ suc turns =
            omega (arith, length-append (looks new) (due ∷ []), so.each_turn) in e);
        as_said = rereads-look new rest due h
            ∙ (ap (λ l. l ++ due.reread ∷ []) so.as_said
            ∙ (sym (map-append (λ (d : Due). d.reread) (looks new) (due ∷ []))
            ∙ sym (ap (map (λ (d : Due). d.reread)) more)));
      }

  adds-look : (turns : ℕ) (asked xs ys : List (Asked F)) (due : Due) (rest : List (Asked F))
      → AddsLooks turns asked xs → ys ≡ xs ++ Looks due ∷ rest → IsRest due.reread rest
      → AddsLooks (suc turns) asked ys
  adds-look turns asked xs ys due rest so is h = record {
    new = so.new ++ Looks due ∷ rest;
    is = is ∙ (ap (λ l. l ++ Looks due ∷ rest) so.is ∙ append_assoc asked so.new (Looks due ∷ rest));
    as_said = one-more turns so.new rest due so.as_said h;
  }

module _ {F : Type 0} (t : Timetable) (config : Config) (w : World) (first : LoopValue) (asked : List (Asked F))
    (timed : is_timed t ≡ true) (none : is_by_turns t.reread ≡ false) where
  looked-so : {done failures kept : ℕ} {acts : List Act} {v : LoopValue} {b : Option (List (Asked F))}
      → Runs t config w first (Some asked) done failures kept acts v b → (ys : List (Asked F)) → b ≡ Some ys
      → AddsLooks done asked ys
  looked-so begins ys e =
      let same : asked ≡ ys = cc in
      record {
        new = [];
        is = sym same ∙ sym (append-nil asked);
        as_said = record { each_turn = refl; as_said = refl };
      }
  looked-so (turned v' tn stop r x refused s) ys e =
      let p = stop-adds t _ _ _ v' _ _ _ _ _ stop ys s timed none e in
      adds-look _ asked p.added.xs ys p.due p.rest (looked-so r p.added.xs p.added.was) p.added.is p.is_rest
  looked-so (failed v' stop r x refused few s) ys e =
      let p = stop-adds t _ _ _ v' _ _ _ _ _ stop ys s timed none e in
      adds-look _ asked p.added.xs ys p.due p.rest (looked-so r p.added.xs p.added.was) p.added.is p.is_rest

pub asks-by-time : (F : Type 0) → AsksByTime F
asks-by-time F t config w first last asked asked' timed none ran =
    looked-so t config w first asked timed none ran.ran.runs asked' refl
