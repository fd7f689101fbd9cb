-- What is done between two turns.
use Rattle.std.proofs.Common.{◌≡◌, ℕ, Bool, true, false, List, [], ◌∷◌, ◌++◌, length, refl, sym, ap, subst, ◌∙◌}
use Rattle.std.proofs.Common.{append_assoc, append-nil, Option, Some, None, Ok, Err}
use Rattle.protocol.specs.Catalog.{Config, is_same_but_for_access}
use Rattle.protocol.specs.World.{World, config_by, step}
use Rattle.protocol.specs.World.Event.{Reload}
use Rattle.station_ring.specs.Levels.{raises_after}
use Rattle.server_core.specs.ServerValues.{StandsAt}
use Rattle.event_loop.specs.Hearing.{clients_in, feeds_in}
use Rattle.serving.specs.declared.activity.Activity.{Activity}
use Rattle.serving.specs.declared.between.Due.{Due}
use Rattle.serving.specs.declared.between.Refusal.TheVariants.{Unread, Different, Unkept}
use Rattle.serving.specs.declared.timetable.Timetable.{Timetable}
use Rattle.serving.specs.Ahead.{numbers_ahead}
use Rattle.serving.specs.Timetables.{is_keep_due}
use Rattle.serving.specs.Asked.{Asked, Tells}
use Rattle.serving.specs.Asked.Asked.{Configuration, Keeps, Refuses, Reports}
use Rattle.serving.specs.Acts.{config_then, world_then}
use Rattle.serving.specs.Acts.Act.{Reloading}
use Rattle.event_loop.specs.Loops.{LoopValue}
use Rattle.serving.specs.Runs.{refusals, KeepsIf, KeepsNow, SomeReread, SomeStop, activity_of}
use Rattle.serving.specs.Runs.{FindsDue, reports_if}

pub Tells-nil : {F : Type 0} (a : Option (List (Asked F))) → Tells a a []
Tells-nil None = tt
Tells-nil (Some x) = sym (append-nil x)

pub Tells-trans : {F : Type 0} (a b c : Option (List (Asked F))) (xs ys : List (Asked F)) → Tells a b xs → Tells b c ys
    → Tells a c (xs ++ ys)
Tells-trans a b None xs ys p q = tt
Tells-trans None None (Some z) xs ys p q = absurd q
Tells-trans (Some x) None (Some z) xs ys p q = absurd q
Tells-trans None (Some y) (Some z) xs ys p q = absurd p
Tells-trans (Some x) (Some y) (Some z) xs ys p q = q ∙ ap (λ l. l ++ ys) p ∙ append_assoc x xs ys

-- what is told of a configuration that came into force, or did not
in-force : {F : Type 0} (config new : Config) → is_same_but_for_access config new ≡ true
    → refusals {F = F} config (Ok (Some new)) ≡ []
in-force config new e = rw e

different : {F : Type 0} (config new : Config) → is_same_but_for_access config new ≡ false
    → refusals {F = F} config (Ok (Some new)) ≡ Refuses Different ∷ []
different config new e = rw e

pub not-due : {F : Type 0} (config : Config) (w : World) (v : LoopValue) (asked : Option (List (Asked F))) →
    StandsAt v.server config w → SomeReread false config w v asked v asked
not-due config w v asked stands = record { acts = []; rereads = (refl, refl, refl); stands = stands }

module _ {F : Type 0} (config : Config) (w : World) (v v' : LoopValue)
    (only : v' ≡ record v { server = v'.server; decided = v'.decided }) (new : Config)
    (stands : StandsAt v.server config w)
    (goes : StandsAt v'.server (config_by config (Reload new)) (step config w (Reload new)))
    (a b : Option (List (Asked F))) where
  given : (told : List (Asked F)) → refusals config (Ok (Some new)) ≡ told →
      Tells a b (Configuration (Ok (Some new)) ∷ told) →
      SomeReread true config w v a v' b
  given told e tells = record {
    acts = Reloading new ∷ [];
    rereads = record {
      answer = Ok (Some new);
      tells = subst (λ l. Tells a b (Configuration (Ok (Some new)) ∷ l)) (sym e) tells;
      comes = refl;
      stands = goes;
      only = only;
    };
    stands = goes;
  }

  in_place : (same : Bool) → same ≡ is_same_but_for_access v.server.config new
      → is_same_but_for_access config new ≡ same
  in_place same e = ap (λ c. is_same_but_for_access c new) (sym stands.config_is) ∙ sym e

  pub came-into-force : true ≡ is_same_but_for_access v.server.config new →
      Tells a b (Configuration (Ok (Some new)) ∷ []) →
      SomeReread true config w v a v' b
  came-into-force same tells = given [] (in-force config new (in_place true same)) tells

  pub was-different : false ≡ is_same_but_for_access v.server.config new → (between : Option (List (Asked F))) →
      Tells a between (Configuration (Ok (Some new)) ∷ []) → Tells between b (Refuses Different ∷ []) →
      SomeReread true config w v a v' b
  was-different same between tells more =
      given (Refuses Different ∷ []) (different config new (in_place false same))
      (Tells-trans a between b (Configuration (Ok (Some new)) ∷ []) (Refuses Different ∷ []) tells more)

pub was-unread : {F : Type 0} (config : Config) (w : World) (v : LoopValue) (a b c : Option (List (Asked F)))
    (fault : F) →
    Tells a b (Configuration (Err fault) ∷ []) → Tells b c (Refuses (Unread fault) ∷ []) → StandsAt v.server config w →
    SomeReread true config w v a v c
was-unread config w v a b c fault tells more stands =
    record {
      acts = [];
      rereads = record {
        answer = Err fault;
        tells = Tells-trans a b c (Configuration (Err fault) ∷ []) (Refuses (Unread fault) ∷ []) tells more;
        comes = refl;
        stands = stands;
        only = refl;
      };
      stands = stands;
    }

pub was-unchanged : {F : Type 0} (config : Config) (w : World) (v : LoopValue) (a b : Option (List (Asked F)))
    → Tells a b (Configuration (Ok None) ∷ []) → StandsAt v.server config w → SomeReread true config w v a v b
was-unchanged config w v a b tells stands =
    record {
      acts = [];
      rereads = record {
        answer = Ok None;
        tells = tells;
        comes = refl;
        stands = stands;
        only = refl;
      };
      stands = stands;
    }

-- what is told of what was done
activity-is : (a : Activity) (w : World) (v : LoopValue) → a.clients ≡ clients_in v.seats → a.feeds ≡ feeds_in v.seats →
    a.records ≡ length w.history → a.refused ≡ v.refused → a ≡ activity_of w v
activity-is a w v c f r x =
    ap (λ n. record a { clients = n }) c
    ∙ ap (λ n. record a { clients = clients_in v.seats; feeds = n }) f
    ∙ ap (λ n. record a { clients = clients_in v.seats; feeds = feeds_in v.seats; records = n }) r
    ∙ ap (λ n. record (activity_of w v) { refused = n }) x

-- numbers that were kept, or that were not
pub were-kept : {F : Type 0} (config : Config) (w : World) (kept raises : ℕ) (a b : Option (List (Asked F)))
    (numbers : List ℕ) → numbers ≡ numbers_ahead config w.history → raises ≡ raises_after config w.history
    → Tells a b (Keeps numbers (Ok tt) ∷ []) → KeepsNow config w kept a raises b
were-kept config w kept raises a b numbers is counts tells = record {
  answer = Ok tt;
  tells = subst (λ ns. Tells a b (Keeps ns (Ok tt) ∷ [])) is tells;
  counts = counts;
}

pub were-not-kept : {F : Type 0} (config : Config) (w : World) (kept : ℕ) (a b c : Option (List (Asked F)))
    (numbers : List ℕ) (fault : F)
    → numbers ≡ numbers_ahead config w.history → Tells a b (Keeps numbers (Err fault) ∷ [])
    → Tells b c (Refuses (Unkept fault) ∷ []) → KeepsNow config w kept a kept c
were-not-kept config w kept a b c numbers fault is tells more = record {
  answer = Err fault;
  tells = subst (λ ns. Tells a c (Keeps ns (Err fault) ∷ Refuses (Unkept fault) ∷ [])) is
      (Tells-trans a b c (Keeps numbers (Err fault) ∷ []) (Refuses (Unkept fault) ∷ []) tells more);
  counts = refl;
}

module _ {F : Type 0} (config : Config) (w : World) (kept : ℕ) (a b : Option (List (Asked F))) (due : Bool) where
  pub not-kept : due ≡ false → KeepsIf due config w kept a kept a
  not-kept is = subst (λ d. KeepsIf d config w kept a kept a) (sym is) (refl, refl)

  pub kept-now : due ≡ true → (kept' : ℕ) → KeepsNow config w kept a kept' b → KeepsIf due config w kept a kept' b
  kept-now due_is kept' x = subst (λ d. KeepsIf d config w kept a kept' b) (sym due_is) x

module _ {F : Type 0} (t : Timetable) (done : ℕ) (due : Due) (config : Config) (w : World) (v v' : LoopValue)
    (kept kept' : ℕ) (before looked a b : Option (List (Asked F))) (finds : FindsDue t done before due looked)
    (keeps : KeepsIf (is_keep_due t kept (raises_after config w.history)) config w kept looked kept' a) where
  pub stops-silent : due.report ≡ false → SomeReread due.reread config w v a v' b →
      SomeStop t done config w v kept before v' (record { kept = kept'; reread = due.reread }) b
  stops-silent silent x =
      record {
        acts = x.acts;
        stops = record {
          due = due;
          looked = looked;
          first = a;
          between = b;
          finds = finds;
          keep = keeps;
          reread = x.rereads;
          report = subst (λ d. Tells b b (reports_if d (world_then config w x.acts) v')) (sym silent) (Tells-nil b);
        };
        was = refl;
        stands = x.stands;
      }

  pub stops-told : due.report ≡ true → (x : SomeReread due.reread config w v a v' b)
      → (c : Option (List (Asked F))) (told : Activity) →
      Tells b c (Reports told ∷ []) →
      told.clients ≡ clients_in v'.seats → told.feeds ≡ feeds_in v'.seats →
      ((k : Config) (u : World) → StandsAt v'.server k u → told.records ≡ length u.history)
      → told.refused ≡ v'.refused →
      SomeStop t done config w v kept before v' (record { kept = kept'; reread = due.reread }) c
  stops-told loud x c told tells clients feeds records refused =
      let u : World = world_then config w x.acts in
      let is : told ≡ activity_of u v' =
      activity-is told u v' clients feeds (records (config_then config x.acts) u x.stands) refused in
      record {
        acts = x.acts;
        stops = record {
          due = due;
          looked = looked;
          first = a;
          between = b;
          finds = finds;
          keep = keeps;
          reread = x.rereads;
          report = subst (λ d. Tells b c (reports_if d u v')) (sym loud)
              (subst (λ (y : Activity). Tells b c (Reports y ∷ [])) is tells);
        };
        was = refl;
        stands = x.stands;
      }
