-- One read of a feed's port.
use Rattle.std.proofs.Common.{◌≡◌, ℕ, ◌≤◌, Bool, true, false, List, [], ◌∷◌, ◌++◌, map, refl, sym, ap, subst}
use Rattle.std.proofs.Common.{append-nil, length, ◌<◌, Option, arith}
use Rattle.protocol.specs.Catalog.{Config}
use Rattle.protocol.specs.World.{World, world_from}
use Rattle.protocol.specs.World.Event.{Arrive}
use Rattle.server_core.specs.ServerValues.{ServerValue, StandsAt}
use Rattle.event_loop.specs.declared.passes.Onward.TheVariants.{On, Stop, Over}
use Rattle.ports.specs.Calls.{Call, Tells}
use Rattle.ports.specs.Calls.Call.{Read, Shut}
use Rattle.ports.specs.Calls.Given.{Piece, Nothing, TheEnd, Failure}
use Rattle.event_loop.specs.Deeds.{refused_more}
use Rattle.event_loop.specs.Deeds.Deed.{ReadsFeed, ShutsFeed}
use Rattle.event_loop.specs.Feeding.{Arrives, FeedReads, fed, countable, feed_seat, feed_tally, piece_read}
use Rattle.event_loop.specs.Feeding.FeedReads.{not_readable, piece, later, closed, failed}
use Rattle.event_loop.specs.Going.{Once}
use Rattle.event_loop.proofs.DeedLemmas.{Tells-nil, Tells-trans}

none-refused : (happenings refused : ℕ) → feed_tally happenings refused ≡ feed_tally happenings (refused_more refused 0)
none-refused happenings refused = let e : refused ≡ refused_more refused 0 = omega arith in ap (feed_tally happenings) e

module _ (config : Config) (w : World) (happenings refused port : ℕ) (rest : List ℕ) (readable writable : Bool) where
  pub feed-refused : (calls : Option (List Call)) (server : ServerValue) → StandsAt server config w → readable ≡ false →
      Once (FeedReads config) config w calls calls server (feed_tally happenings refused)
      (feed_tally happenings refused)
      (feed_seat port rest readable writable) (feed_seat port rest readable writable) Stop
  feed-refused calls server stands shown =
      record {
        deeds = [];
        does = record { tells = Tells-nil calls; stands = stands; counted = refl; faithful = tt };
        how = λ n. not_readable shown;
      }

  module _ (may : readable ≡ true) (most : ℕ) (short : most ≤ 512) (a b : Option (List Call)) where
    pub feed-piece : (bytes : List ℕ) (server' : ServerValue) (refused' : ℕ) (rest' : List ℕ)
        → Tells a b (Read port most (Piece bytes) ∷ []) →
        Arrives config w (fed rest bytes).records server' refused refused' → rest' ≡ (fed rest bytes).rest →
        length rest < 512 → length bytes ≤ most →
        Once (FeedReads config) config w a b server' (feed_tally happenings refused) (feed_tally happenings refused')
        (feed_seat port rest readable writable) (feed_seat port rest' readable writable) On
    feed-piece bytes server' refused' rest' tells arrives left held few =
        let one = append-nil (map Arrive (countable config w (fed rest bytes).records)) in
        record {
          deeds = piece_read config w port most rest bytes ∷ [];
          does = record {
            tells = tells;
            stands = subst (λ es. StandsAt server' config (world_from config w es)) (sym one) arrives.stands;
            counted = ap (feed_tally happenings) arrives.counted;
            faithful = (tt, tt);
          };
          how = λ n ds w' o p.
              piece most rest bytes may short refl held few
              (subst
              (λ es. FeedReads config n (world_from config w es)
              (feed_seat port (fed rest bytes).rest readable writable) ds w' o) one
              (subst
              (λ r. FeedReads config n
              (world_from config w (map Arrive (countable config w (fed rest bytes).records) ++ []))
              (feed_seat port r readable writable) ds w' o) left p));
        }

    pub feed-later : (server : ServerValue) → StandsAt server config w → Tells a b (Read port most Nothing ∷ []) →
        Once (FeedReads config) config w a b server (feed_tally happenings refused) (feed_tally happenings refused)
        (feed_seat port rest readable writable) (feed_seat port rest false writable) Stop
    feed-later server stands tells = record {
      deeds = ReadsFeed port most Nothing [] 0 ∷ [];
      does = record { tells = tells; stands = stands; counted = none-refused happenings refused; faithful = (tt, tt) };
      how = λ n. later most may short;
    }

    pub feed-closed : (c : Option (List Call)) (server : ServerValue) → StandsAt server config w
        → Tells a b (Read port most TheEnd ∷ []) →
        Tells b c (Shut port ∷ []) →
        Once (FeedReads config) config w a c server (feed_tally happenings refused) (feed_tally happenings refused)
        (feed_seat port rest readable writable) (feed_seat port rest readable writable) Over
    feed-closed c server stands tells shut = record {
      deeds = ReadsFeed port most TheEnd [] 0 ∷ ShutsFeed port ∷ [];
      does =
          record {
            tells = Tells-trans a b c _ _ tells shut;
            stands = stands;
            counted = none-refused happenings refused;
            faithful = (tt, (tt, tt));
          };
      how = λ n. closed most may short;
    }

    pub feed-failed : (c : Option (List Call)) (server : ServerValue) → StandsAt server config w
        → Tells a b (Read port most Failure ∷ []) →
        Tells b c (Shut port ∷ []) →
        Once (FeedReads config) config w a c server (feed_tally happenings refused) (feed_tally happenings refused)
        (feed_seat port rest readable writable) (feed_seat port rest readable writable) Over
    feed-failed c server stands tells shut = record {
      deeds = ReadsFeed port most Failure [] 0 ∷ ShutsFeed port ∷ [];
      does =
          record {
            tells = Tells-trans a b c _ _ tells shut;
            stands = stands;
            counted = none-refused happenings refused;
            faithful = (tt, (tt, tt));
          };
      how = λ n. failed most may short;
    }
