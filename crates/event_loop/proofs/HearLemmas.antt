-- One call of `next`, by what is heard.
use Rattle.std.proofs.Common.{◌≡◌, ℕ, ◌<◌, true, false, List, [], ◌∷◌, length, refl, sym, ap, subst, ◌∙◌, Option, Ok}
use Rattle.std.proofs.Common.{Err}
use Rattle.std.specs.Net.Addr.{ipv4_bits}
use Rattle.std.specs.declared.net.ipv4_addr.Ipv4Addr.{Ipv4Addr}
use Rattle.protocol.specs.Catalog.{Config}
use Rattle.protocol.specs.World.{World, step}
use Rattle.protocol.specs.World.Event.{Open}
use Rattle.server_core.specs.ServerValues.{ServerValue, StandsAt}
use Rattle.ports.specs.declared.answers.Happening.{Happening}
use Rattle.ports.specs.declared.answers.Happening.TheVariants.{Joined, JoinedFeed, Quiet}
use Rattle.ports.specs.declared.answers.PortFault.{PortFault}
use Rattle.ports.specs.Calls.{Call, Tells}
use Rattle.ports.specs.Calls.Call.{Next, Shut}
use Rattle.event_loop.specs.declared.seat.Seat.{Seat}
use Rattle.event_loop.specs.declared.seat.Role.TheVariants.{Client as ClientRole, Feed as FeedRole}
use Rattle.event_loop.specs.declared.hearing.Heard.TheVariants.{Happened, Quiet as HeardQuiet, Fault}
use Rattle.event_loop.specs.Deeds.{Deed, Tally, tally_heard, one_more}
use Rattle.event_loop.specs.Deeds.Deed.{Hears, Opens, Feeds, TurnsAway}
use Rattle.event_loop.specs.Going.{Does, GoesOn, Ends}
use Rattle.event_loop.specs.Hearing.{Hearing, heard, is_seated, is_old, marked, open_client, joining, clients_in}
use Rattle.event_loop.specs.Hearing.{feeds_in}
use Rattle.event_loop.specs.Hearing.Hearing.{quiet, fault, marks, opens, feeds, turns_away, turns_away_feed}
use Rattle.event_loop.specs.Tables.{HearsOnce, HeardBy, HeardStep, tally_next}
use Rattle.event_loop.specs.Hearing.End.{Quieted, Faulted}
use Rattle.event_loop.specs.declared.hearing.Heard.{Heard as HeardNext}
use Rattle.event_loop.proofs.DeedLemmas.{Tells-trans}

module _ (config : Config) (max_clients : ℕ) (w : World) (a b : Option (List Call)) (server : ServerValue) (t : Tally)
    (ss : List Seat) where
  -- nothing new comes of it
  pub hears-old : (ss' : List Seat) (happening : Happening) → tally_heard t (Ok happening) ≡ one_more t →
      is_old happening ss ≡ true → ss' ≡ marked happening ss → Tells a b (Next (Ok happening) ∷ []) →
      StandsAt server config w → HearsOnce config max_clients w a b server t ss ss' Happened
  hears-old ss' happening counts old e tells stands = record {
    deeds = Hears (Ok happening) ∷ [];
    does = record { tells = tells; stands = stands; counted = sym counts; faithful = (tt, tt) };
    how = λ n ds w' o p. marks happening old (subst (λ x. Hearing config max_clients n w x ds w' o) e p);
  }

  pub hears-quiet : Tells a b (Next (Ok Quiet) ∷ []) → StandsAt server config w →
      HearsOnce config max_clients w a b server t ss ss HeardQuiet
  hears-quiet tells stands = record {
    deeds = Hears (Ok Quiet) ∷ [];
    does = record { tells = tells; stands = stands; counted = refl; faithful = (tt, tt) };
    how = λ n. quiet;
  }

  pub hears-fault : (f : PortFault) → Tells a b (Next (Err f) ∷ []) → StandsAt server config w →
      HearsOnce config max_clients w a b server t ss ss Fault
  hears-fault f tells stands = record {
    deeds = Hears (Err f) ∷ [];
    does = record { tells = tells; stands = stands; counted = refl; faithful = (tt, tt) };
    how = λ n. fault f;
  }

  -- a port that joins is shut
  pub hears-away : (c : Option (List Call)) (port : ℕ) (address : Ipv4Addr) → is_seated port ss ≡ false →
      Tells a b (Next (Ok (Joined port address)) ∷ []) → Tells b c (Shut port ∷ []) → StandsAt server config w →
      HearsOnce config max_clients w a c server t ss ss Happened
  hears-away c port address new tells shut stands = record {
    deeds = TurnsAway (Joined port address) port ∷ [];
    does = record { tells = Tells-trans a b c _ _ tells shut; stands = stands; counted = refl; faithful = (tt, tt) };
    how = λ n ds w' o p. turns_away port address new p;
  }

  pub hears-away-feed : (c : Option (List Call)) (port : ℕ) → is_seated port ss ≡ false →
      Tells a b (Next (Ok (JoinedFeed port)) ∷ []) → Tells b c (Shut port ∷ []) → StandsAt server config w →
      HearsOnce config max_clients w a c server t ss ss Happened
  hears-away-feed c port new tells shut stands = record {
    deeds = TurnsAway (JoinedFeed port) port ∷ [];
    does = record { tells = Tells-trans a b c _ _ tells shut; stands = stands; counted = refl; faithful = (tt, tt) };
    how = λ n ds w' o p. turns_away_feed port new p;
  }

  -- a client's port joins, and the client is opened
  pub hears-open : (server' : ServerValue) (ss' : List Seat) (port : ℕ) (address : Ipv4Addr) (number : ℕ)
      → is_seated port ss ≡ false →
      clients_in ss < max_clients → number ≡ length w.connections
      → ss' ≡ open_client (joining port (ClientRole number)) ss →
      Tells a b (Next (Ok (Joined port address)) ∷ [])
      → StandsAt server' config (step config w (Open (ipv4_bits address))) →
      HearsOnce config max_clients w a b server' t ss ss' Happened
  hears-open server' ss' port address number new few is e tells stands = record {
    deeds = Opens port address ∷ [];
    does = record { tells = tells; stands = stands; counted = refl; faithful = (tt, tt) };
    how = λ n ds w' o p. opens port address new few
        (subst (λ x. Hearing config max_clients n (step config w (Open (ipv4_bits address))) x ds w' o)
        (e ∙ ap (λ k. open_client (joining port (ClientRole k)) ss) is) p);
  }

  -- a feed's port joins
  pub hears-feed : (ss' : List Seat) (port : ℕ) → is_seated port ss ≡ false → feeds_in ss < 16 →
      ss' ≡ open_client (joining port (FeedRole [])) ss → Tells a b (Next (Ok (JoinedFeed port)) ∷ [])
      → StandsAt server config w →
      HearsOnce config max_clients w a b server t ss ss' Happened
  hears-feed ss' port new few e tells stands = record {
    deeds = Feeds port ∷ [];
    does = record { tells = tells; stands = stands; counted = refl; faithful = (tt, tt) };
    how = λ n ds w' o p. feeds port new few (subst (λ x. Hearing config max_clients n w x ds w' o) e p);
  }

-- ---- by the answer

module _ (config : Config) (max_clients : ℕ) (w : World) (a b : Option (List Call)) (server : ServerValue) (t : Tally)
    (ss ss' : List Seat)
    (next : HeardNext) (o : HearsOnce config max_clients w a b server t ss ss' next) where
  pub heard-happened : next ≡ Happened →
      (deeds : List Deed) × Does config w a b server t (one_more t) deeds
      × GoesOn (HeardBy config max_clients) config w ss ss' deeds
  heard-happened e = (
    o.deeds,
    subst (λ x. Does config w a b server t (tally_next t x) o.deeds) e o.does,
    subst (λ x. HeardStep config max_clients w ss ss' o.deeds x) e o.how,
  )

  pub heard-quiet : next ≡ HeardQuiet →
      (deeds : List Deed) × Does config w a b server t t deeds
      × Ends (HeardBy config max_clients) config w ss deeds (heard ss' Quieted)
  heard-quiet e = (
    o.deeds,
    subst (λ x. Does config w a b server t (tally_next t x) o.deeds) e o.does,
    subst (λ x. HeardStep config max_clients w ss ss' o.deeds x) e o.how,
  )

  pub heard-fault : next ≡ Fault →
      (deeds : List Deed) × Does config w a b server t t deeds
      × Ends (HeardBy config max_clients) config w ss deeds (heard ss' Faulted)
  heard-fault e = (
    o.deeds,
    subst (λ x. Does config w a b server t (tally_next t x) o.deeds) e o.does,
    subst (λ x. HeardStep config max_clients w ss ss' o.deeds x) e o.how,
  )
