-- How calls and deeds go on.
use Rattle.std.proofs.Common.{◌≡◌, ℕ, ◌<◌, ◌-◌, suc, arith, List, [], ◌∷◌, ◌++◌, refl, sym, ap, subst, ◌∙◌}
use Rattle.std.proofs.Common.{append_assoc, append-nil, Option, Some, None, map, flat_map}
use Rattle.protocol.specs.Catalog.{Config}
use Rattle.protocol.specs.World.{Event, World, config_after, world_from}
use Rattle.protocol.specs.World.Event.{Arrive}
use Rattle.protocol.proofs.Connections.{config_after-append, world_from-append}
use Rattle.server_core.specs.ServerValues.{ServerValue, StandsAt}
use Rattle.ports.specs.Calls.{Call, Tells}
use Rattle.event_loop.specs.Deeds.{Deed, Tally, calls_of, calls_in, events_of, events_in, tally, tallied, world_beyond}
use Rattle.ports.specs.Calls.Given.{Piece, Nothing, TheEnd, Failure}
use Rattle.event_loop.specs.Deeds.Deed.{Hears, Opens, Feeds, TurnsAway, Reads, ReadsFeed, Writes, Offers, Closes}
use Rattle.event_loop.specs.Deeds.Deed.{ShutsFeed}
use Rattle.event_loop.specs.Faithful.{AreFaithful}
use Rattle.event_loop.specs.Passes.{beyond}
use Rattle.event_loop.specs.Going.{Kind, GoesOn, Ends, Does, SoFar, Whole}

pub Tells-nil : (a : Option (List Call)) → Tells a a []
Tells-nil None = tt
Tells-nil (Some x) = sym (append-nil x)

pub Tells-trans : (a b c : Option (List Call)) (xs ys : List Call) → Tells a b xs → Tells b c ys → Tells a c (xs ++ ys)
Tells-trans a b None xs ys p q = tt
Tells-trans None None (Some z) xs ys p q = absurd q
Tells-trans (Some x) None (Some z) xs ys p q = absurd q
Tells-trans None (Some y) (Some z) xs ys p q = absurd p
Tells-trans (Some x) (Some y) (Some z) xs ys p q = q ∙ ap (λ l. l ++ ys) p ∙ append_assoc x xs ys

pub flat_map-append : {X Y : Type 0} (f : X → List Y) (xs ys : List X)
    → flat_map f (xs ++ ys) ≡ flat_map f xs ++ flat_map f ys
flat_map-append f [] ys = refl
flat_map-append f (x ∷ xs) ys = ap (λ l. f x ++ l) (flat_map-append f xs ys)
    ∙ sym (append_assoc (f x) (flat_map f xs) (flat_map f ys))

-- ---- no deed brings a new configuration
arrivals-keep : (config : Config) (records : List (List ℕ)) → config_after config (map Arrive records) ≡ config
arrivals-keep config [] = refl
arrivals-keep config (r ∷ rs) = arrivals-keep config rs

pub deed-keeps : (config : Config) (d : Deed) → config_after config (events_of d) ≡ config
deed-keeps config (Hears answer) = refl
deed-keeps config (Opens port address) = refl
deed-keeps config (Feeds port) = refl
deed-keeps config (TurnsAway happening port) = refl
deed-keeps config (Reads client port most (Piece bytes)) = refl
deed-keeps config (Reads client port most Nothing) = refl
deed-keeps config (Reads client port most TheEnd) = refl
deed-keeps config (Reads client port most Failure) = refl
deed-keeps config (ReadsFeed port most gave records refused) = arrivals-keep config records
deed-keeps config (Writes client port bytes answer) = refl
deed-keeps config (Offers client) = refl
deed-keeps config (Closes client port) = refl
deed-keeps config (ShutsFeed port) = refl

pub deeds-keep : (config : Config) (ds : List Deed) → config_after config (events_in ds) ≡ config
deeds-keep config [] = refl
deeds-keep config (d ∷ ds) =
    config_after-append config (events_of d) (events_in ds)
    ∙ ap (λ c. config_after c (events_in ds)) (deed-keeps config d)
    ∙ deeds-keep config ds

world_from-then : (config : Config) (w : World) (es more : List Event) → config_after config es ≡ config →
    world_from config w (es ++ more) ≡ world_from config (world_from config w es) more
world_from-then config w es more keeps = world_from-append config w es more
    ∙ ap (λ c. world_from c (world_from config w es) more) keeps

pub world_beyond-append : (config : Config) (w : World) (ds es : List Deed) →
    world_beyond config w (ds ++ es) ≡ world_beyond config (world_beyond config w ds) es
world_beyond-append config w ds es =
    ap (world_from config w) (flat_map-append events_of ds es)
    ∙ world_from-then config w (events_in ds) (events_in es) (deeds-keep config ds)

pub tallied-append : (t : Tally) (ds es : List Deed) → tallied t (ds ++ es) ≡ tallied (tallied t ds) es
tallied-append t [] es = refl
tallied-append t (d ∷ ds) es = tallied-append (tally t d) ds es

pub faithful-append : (config : Config) (w : World) (ds es : List Deed) → AreFaithful config w ds →
    AreFaithful config (world_beyond config w ds) es → AreFaithful config w (ds ++ es)
faithful-append config w [] es p q = q
faithful-append config w (d ∷ ds) es p q = (
  p.0,
  faithful-append config (beyond config w d) ds es p.1
      (subst (λ v. AreFaithful config v es)
      (world_from-then config w (events_of d) (events_in ds) (deed-keeps config d)) q),
)

-- nothing done yet
pub does-nothing : (config : Config) (w : World) (calls : Option (List Call)) (server : ServerValue) (t : Tally) →
    StandsAt server config w → Does config w calls calls server t t []
does-nothing config w calls server t stands =
    record { tells = Tells-nil calls; stands = stands; counted = refl; faithful = tt }

-- one after the other
pub does-then : (config : Config) (w : World) (a b c : Option (List Call)) (server' server'' : ServerValue)
    (t t' t'' : Tally)
    (ds es : List Deed) → Does config w a b server' t t' ds
    → Does config (world_beyond config w ds) b c server'' t' t'' es →
    Does config w a c server'' t t'' (ds ++ es)
does-then config w a b c server' server'' t t' t'' ds es p q =
    record {
      tells = subst (Tells a c) (sym (flat_map-append calls_of ds es))
          (Tells-trans a b c (calls_in ds) (calls_in es) p.tells q.tells);
      stands = subst (StandsAt server'' config) (sym (world_beyond-append config w ds es)) q.stands;
      counted = q.counted ∙ ap (λ x. tallied x es) p.counted ∙ sym (tallied-append t ds es);
      faithful = faithful-append config w ds es p.faithful q.faithful;
    }

pub begins : {S O : Type 0} (R : Kind S O) (limit : ℕ) (config : Config) (w : World) (calls : Option (List Call))
    (server : ServerValue) (t : Tally) (s : S) → StandsAt server config w
    → SoFar R limit limit config w calls calls server t t s s
begins R limit config w calls server t s stands =
    record { deeds = []; does = does-nothing config w calls server t stands; how = λ ds w' o p. p }

pub one-less : (left : ℕ) → 0 < left → left ≡ suc (left - 1)
one-less left some = omega arith

module _ {S O : Type 0} (R : Kind S O) (limit left : ℕ) (some : 0 < left) (config : Config) (w : World)
    (a b c : Option (List Call)) (mid last : ServerValue) (t t' t'' : Tally) (s s' : S) where
  -- one step more
  pub goes-on-from : (s'' : S) → SoFar R limit left config w a b mid t t' s s' →
      ((v : World) → StandsAt mid config v
      → (deeds : List Deed) × Does config v b c last t' t'' deeds × GoesOn R config v s' s'' deeds) →
      SoFar R limit (left - 1) config w a c last t t'' s s''
  goes-on-from s'' so_far once =
      let v : World = world_beyond config w so_far.deeds in
      let x = once v so_far.does.stands in
      record {
        deeds = so_far.deeds ++ x.0;
        does = does-then config w a b c mid last t t' t'' so_far.deeds x.0 so_far.does x.1;
        how = λ ds w' o p.
            subst (λ l. R limit w s l w' o) (sym (append_assoc so_far.deeds x.0 ds))
            (so_far.how (x.0 ++ ds) w' o
            (subst (λ n. R n v s' (x.0 ++ ds) w' o) (sym (one-less left some))
            (x.2 (left - 1) ds w' o
            (subst (λ u. R (left - 1) u s'' ds w' o) (world_beyond-append config w so_far.deeds x.0) p))));
      }

  -- the last step
  pub ends-from : (o : O) → SoFar R limit left config w a b mid t t' s s' →
      ((v : World) → StandsAt mid config v
      → (deeds : List Deed) × Does config v b c last t' t'' deeds × Ends R config v s' deeds o) →
      Whole R limit config w a c last t t'' s o
  ends-from o so_far once =
      let v : World = world_beyond config w so_far.deeds in
      let x = once v so_far.does.stands in
      record {
        deeds = so_far.deeds ++ x.0;
        does = does-then config w a b c mid last t t' t'' so_far.deeds x.0 so_far.does x.1;
        how = subst (λ u. R limit w s (so_far.deeds ++ x.0) u o) (sym (world_beyond-append config w so_far.deeds x.0))
            (so_far.how x.0 _ o
            (subst (λ n. R n v s' x.0 (world_beyond config v x.0) o) (sym (one-less left some)) (x.2 (left - 1))));
      }

-- No step is left.
pub runs-out-at : {S O : Type 0} (R : Kind S O) (limit left : ℕ) → left ≡ 0 → (config : Config) (w : World)
    (a b : Option (List Call)) (mid : ServerValue) (t t' : Tally) (s s' : S) (o : O) → ((v : World) → R 0 v s' [] v o) →
    SoFar R limit left config w a b mid t t' s s' → Whole R limit config w a b mid t t' s o
runs-out-at R limit left none config w a b mid t t' s s' o enough so_far =
    record {
      deeds = so_far.deeds;
      does = so_far.does;
      how = subst (λ l. R limit w s l (world_beyond config w so_far.deeds) o) (append-nil so_far.deeds)
          (so_far.how [] _ o
          (subst (λ n. R n (world_beyond config w so_far.deeds) s' [] (world_beyond config w so_far.deeds) o)
          (sym none)
          (enough (world_beyond config w so_far.deeds))));
    }
