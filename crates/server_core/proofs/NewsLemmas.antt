-- What a session has to tell is no part of what it does.
use Rattle.std.proofs.Common.{◌≡◌, ℕ, ◌∙◌, refl, ap, sym, Option, Some, None, subst, slice_index_or, true}
use Rattle.slab.specs.Slab.{Slab, get, Updates}
use Rattle.protocol.specs.Catalog.{Config}
use Rattle.station_ring.specs.HeldRecords.{RingsValue}
use Rattle.session_state.specs.declared.news.News.{News}
use Rattle.session_state.specs.declared.session.State.{State}
use Rattle.session_state.specs.declared.session.State.TheVariants.{Negotiating, Listing, Starting, Transfer, Ending}
use Rattle.session_state.specs.Sessions.{SessionValue}
use Rattle.transfer.specs.Cursors.{ArePassed}
use Rattle.transfer.specs.Sleeping.{Sleeps}
use Rattle.server_core.specs.Clients.{IsTable, in_slot, sessions_of, slot_in}
use Rattle.server_core.specs.Marks.{AreMarked, Elsewhere, IsIdle, IsMarkedAt, idle_in}
use Rattle.server_core.specs.ServerValues.{IsSettled, news_of}
use Rattle.server_core.specs.declared.clients.Clients.{Clients}
use Rattle.server_core.specs.declared.marks.Marks.{Marks}
use Rattle.server_core.proofs.MarkLemmas.{keeps-itself, marked-goes}
use Rattle.server_core.proofs.SlotLemmas.{session-is}

passed-told : (rings : RingsValue) (s : SessionValue) (news : Option News) → ArePassed rings s
    → ArePassed rings (record s { news = news })
unfolding ArePassed
passed-told rings s news passed = record {
  all = λ next state.
      let p = passed.all next state in
      record {
        passed = p.passed;
        looked =
            record { late = p.looked.late; seen = p.looked.seen; since = p.looked.since };
      };
}

pub settled-told : (config : Config) (rings : RingsValue) (s : SessionValue) (news : Option News)
    → IsSettled config rings s → IsSettled config rings (record s { news = news })
settled-told config rings s news settled = record {
  places = settled.places;
  started = settled.started;
  passed = passed-told rings s news settled.passed;
}

idle-told : (config : Config) (rings : RingsValue) (s : SessionValue) (news : Option News) (state : State)
    → idle_in config rings s state → idle_in config rings (record s { news = news }) state
idle-told config rings s news Negotiating idle = idle
idle-told config rings s news (Listing made) idle = idle
idle-told config rings s news Starting idle = idle
idle-told config rings s news (Transfer next) idle = record {
  nothing_waits = idle.nothing_waits;
  unwanted = idle.unwanted;
  more = idle.more;
}
idle-told config rings s news Ending idle = idle

marked-at-told : (config : Config) (rings : RingsValue) (marks : Marks) (slot : ℕ) (s : SessionValue)
    (news : Option News) → IsMarkedAt config rings marks slot s
    → IsMarkedAt config rings marks slot (record s { news = news })
marked-at-told config rings marks slot s news is = record {
  room = is.room;
  idle = λ unmarked. record {
    by_state = idle-told config rings s news s.state (let idle : IsIdle config rings s = is.idle unmarked in
        idle.by_state);
  };
  sends = is.sends;
  asks = is.asks;
}

-- A session whose news was told keeps its mark.
pub marked-told : (config : Config) (rings : RingsValue) (marks : Marks) (before after : Slab SessionValue) (slot : ℕ)
    (a r : SessionValue) → AreMarked config rings marks before → get before slot ≡ Some a
    → Updates before after slot (Some r) → r ≡ record a { news = None } → AreMarked config rings marks after
marked-told config rings marks before after slot a r are there updates told =
    marked-goes config rings marks marks before after slot (keeps-itself (Elsewhere slot) marks) are r updates
    (subst (IsMarkedAt config rings marks slot) (sym told)
    (marked-at-told config rings marks slot a None (are.held slot a there)))

-- what the session of a number has to tell
pub news-there : (c : Clients) (number slot : ℕ) → IsTable c → slot_in c.opened.items number ≡ Some slot
    → news_of (slice_index_or (sessions_of c) number None) ≡ news_of (get c.slots slot)
news-there c number slot table there =
    ap news_of (session-is c number table ∙ ap (in_slot c.slots) there)

pub news-nowhere : (c : Clients) (number : ℕ) → IsTable c → slot_in c.opened.items number ≡ None
    → news_of (slice_index_or (sessions_of c) number None) ≡ None
news-nowhere c number table none = ap news_of (session-is c number table ∙ ap (in_slot c.slots) none)
