-- How often a configuration is asked for.
use Rattle.std.proofs.Common.{◌≡◌, ◌||◌, ℕ, ◌+◌, Bool, true, false, if◌then◌else◌, List, [], ◌∷◌, ◌++◌, refl, sym, ap}
use Rattle.std.proofs.Common.{subst, ◌∙◌}
use Rattle.std.proofs.Common.{Option, Some, None, Result, Ok, Err, arith, rules}
use Rattle.std.proofs.lemmas.Grind.{common_steps}
use Rattle.protocol.specs.Catalog.{Config, is_same_but_for_access}
use Rattle.protocol.specs.World.{World}
use Rattle.event_loop.specs.Loops.{LoopValue}
use Rattle.station_ring.specs.Levels.{raises_after}
use Rattle.serving.specs.declared.timetable.Timetable.{Timetable}
use Rattle.serving.specs.declared.between.Refusal.TheVariants.{Different}
use Rattle.serving.specs.Timetables.{is_due, is_keep_due, is_timed, nothing_due, turns_of}
use Rattle.serving.specs.Ahead.{numbers_ahead}
use Rattle.serving.specs.Asked.{Asked, Tells}
use Rattle.serving.specs.Asked.Asked.{Configuration, Keeps, Looks, Refuses}
use Rattle.serving.specs.Acts.{Act, world_then}
use Rattle.serving.specs.declared.between.Due.{Due}
use Rattle.serving.specs.Runs.{FindsDue, LooksIf, Runs, Stops, KeepsIf, RereadsIf, refusals, reports_if, unkept}
use Rattle.serving.specs.Runs.Runs.{begins, turned, failed}
use Rattle.serving.specs.Counting.{asks, due_in, AsksAsDue}

-- what was told before, with so many asks fewer
record Since {F : Type 0} (a : Option (List (Asked F))) (ys : List (Asked F)) (more : ℕ) : Type 0 where
  xs : List (Asked F)
  was : a ≡ Some xs
  counts : asks ys ≡ asks xs + more

asks-append : {F : Type 0} (xs ys : List (Asked F)) → asks (xs ++ ys) ≡ asks xs + asks ys
asks-append xs ys = search (rules, common_steps)

reports-ask : (F : Type 0) (due : Bool) (w : World) (v : LoopValue) → asks (reports_if {F = F} due w v) ≡ 0
reports-ask F true w v = refl
reports-ask F false w v = refl

-- where nothing goes by time, what is due is due by turns
no-more : (due : Bool) (by_time : Due) → by_time ≡ nothing_due → (due || by_time.reread) ≡ due
no-more true by_time is = refl
no-more false by_time is = ap (λ (d : Due). d.reread) is

module _ {F : Type 0} where
  told-since : (a b : Option (List (Asked F))) (l ys : List (Asked F)) → Tells a b l → b ≡ Some ys → Since a ys (asks l)
  told-since a None l ys p e = absurd (cc)
  told-since None (Some y) l ys p e = absurd p
  told-since (Some x) (Some y) l ys p e =
      let q : y ≡ ys = cc in
      record {
        xs = x;
        was = refl;
        counts = subst (λ (z : List (Asked F)). asks z ≡ asks x + asks l) q (ap asks p ∙ asks-append x l);
      }

  since-since : (a b : Option (List (Asked F))) (ys : List (Asked F)) (m n : ℕ) (s : Since b ys m) → Since a s.xs n
      → Since a ys (n + m)
  since-since a b ys m n s r = record { xs = r.xs; was = r.was; counts = omega (arith, s.counts, r.counts) }

  reread-asks : (config : Config) (answer : Result (Option Config) F)
      → asks (Configuration answer ∷ refusals config answer) ≡ 1
  reread-asks config (Err fault) = refl
  reread-asks config (Ok None) = refl
  reread-asks config (Ok (Some new)) = by (is_same_but_for_access config new)
    where
      by : (same : Bool)
          → asks {F = F} (Configuration (Ok (Some new)) ∷ (if same then [] else Refuses Different ∷ [])) ≡ 1
      by true = refl
      by false = refl

  reread-since : (due : Bool) (config : Config) (w : World) (v v' : LoopValue) (a b : Option (List (Asked F)))
      (acts : List Act) (ys : List (Asked F)) → RereadsIf due config w v a acts v' b → b ≡ Some ys
      → Since a ys (if due then 1 else 0)
  reread-since true config w v v' a b acts ys x e =
      subst (λ n. Since a ys n) (reread-asks config x.answer)
      (told-since a b (Configuration x.answer ∷ refusals config x.answer) ys x.tells e)
  reread-since false config w v v' a b acts ys x e =
      record { xs = ys; was = sym x.2 ∙ e; counts = omega arith }

  keep-asks : (numbers : List ℕ) (answer : Result (Unit {0}) F) → asks (Keeps numbers answer ∷ unkept answer) ≡ 0
  keep-asks numbers (Err fault) = refl
  keep-asks numbers (Ok done) = refl

  keep-since : (due : Bool) (config : Config) (w : World) (kept kept' : ℕ) (a b : Option (List (Asked F)))
      (ys : List (Asked F)) → KeepsIf due config w kept a kept' b → b ≡ Some ys → Since a ys 0
  keep-since true config w kept kept' a b ys x e =
      let answer = x.answer in
      let numbers = numbers_ahead config w.history in
      subst (λ n. Since a ys n) (keep-asks numbers answer)
      (told-since a b (Keeps numbers answer ∷ unkept answer) ys x.tells e)
  keep-since false config w kept kept' a b ys x e = record { xs = ys; was = sym x.1 ∙ e; counts = omega arith }

  look-since : (timed : Bool) (by_time : Due) (a b : Option (List (Asked F))) (ys : List (Asked F))
      → LooksIf timed a by_time b → b ≡ Some ys → Since a ys 0
  look-since true by_time a b ys p e = told-since a b (Looks by_time ∷ []) ys p e
  look-since false by_time a b ys p e = record { xs = ys; was = sym p.1 ∙ e; counts = omega arith }

  untimed : (timed : Bool) (by_time : Due) (a b : Option (List (Asked F))) → timed ≡ false → LooksIf timed a by_time b
      → by_time ≡ nothing_due
  untimed true by_time a b e p = absurd cc
  untimed false by_time a b e p = p.0

  untimed-due : (t : Timetable) (done : ℕ) (a b : Option (List (Asked F))) (due : Due) → FindsDue t done a due b
      → is_timed t ≡ false → due.reread ≡ is_due t.reread done
  untimed-due t done a b due x e =
      ap (λ (d : Due). d.reread) x.is
      ∙ no-more (is_due t.reread done) x.by_time (untimed (is_timed t) x.by_time a b e x.looks)

  stop-since : (t : Timetable) (done : ℕ) (config : Config) (w : World) (v v' : LoopValue) (kept kept' : ℕ)
      (a b : Option (List (Asked F))) (acts : List Act) (ys : List (Asked F))
      → Stops t done config w v kept a acts v' kept' b → is_timed t ≡ false
      → b ≡ Some ys → Since a ys (if is_due t.reread done then 1 else 0)
  stop-since t done config w v v' kept kept' a b acts ys x untimed e =
      let due : Bool = x.due.report in
      let again : x.due.reread ≡ is_due t.reread done =
      untimed-due t done a x.looked x.due x.finds untimed in
      let u : World = world_then config w acts in
      let s : Since x.between ys 0 =
      subst (λ n. Since x.between ys n) (reports-ask F due u v')
      (told-since x.between b (reports_if due u v') ys x.report e) in
      let r : Since x.first s.xs (if is_due t.reread done then 1 else 0) =
      subst (λ d. Since x.first s.xs (if d then 1 else 0)) again
      (reread-since x.due.reread config w v v' x.first x.between acts s.xs x.reread s.was) in
      let k : Since x.looked r.xs 0 =
      keep-since (is_keep_due t kept (raises_after config w.history)) config w kept kept' x.looked x.first r.xs
      x.keep r.was in
      let l : Since a k.xs 0 = look-since (is_timed t) x.finds.by_time a x.looked k.xs x.finds.looks k.was in
      record { xs = l.xs; was = l.was; counts = omega (arith, s.counts, r.counts, k.counts, l.counts) }

module _ {F : Type 0} (t : Timetable) (config : Config) (w : World) (first : LoopValue)
    (a : Option (List (Asked F))) (untimed : is_timed t ≡ false) where
  counted : {done failures kept : ℕ} {acts : List Act} {v : LoopValue} {b : Option (List (Asked F))}
      → Runs t config w first a done failures kept acts v b → (ys : List (Asked F)) → b ≡ Some ys
      → Since a ys (due_in t.reread done)
  counted begins ys e = record { xs = ys; was = e; counts = omega arith }
  counted (turned v' tn stop r x refused s) ys e =
      let p = stop-since t _ _ _ v' _ _ _ _ _ stop ys s untimed e in
      since-since a _ ys _ _ p (counted r p.xs p.was)
  counted (failed v' stop r x refused few s) ys e =
      let p = stop-since t _ _ _ v' _ _ _ _ _ stop ys s untimed e in
      since-since a _ ys _ _ p (counted r p.xs p.was)

pub asks-as-due : (F : Type 0) → AsksAsDue F
asks-as-due F t config w first last asked asked' untimed ran =
    let s : Since (Some asked) asked' (due_in t.reread (turns_of t)) =
    counted t config w first (Some asked) untimed ran.ran.runs asked' refl in
    let same : s.xs ≡ asked = cc in
    subst (λ (z : List (Asked F)). asks asked' ≡ asks z + due_in t.reread (turns_of t)) same s.counts
