-- What a request makes of records by what a search looks at of them.
-- SeedLink 3, SELECT, DATA, FETCH and TIME.
use Rattle.std.specs.Prelude.{◌≡◌, ℕ, ℤ, ◌+◌, ◌<◌, Bool, true, false, int_lt, List, length, slice_get, Option, Some}
use Rattle.std.specs.Prelude.{None}
use Rattle.protocol.specs.Pattern.{Pattern, passes}
use Rattle.station_ring.specs.declared.held.Brief.{Brief}
use Rattle.station_ring.specs.declared.held.Held.{Held}
use Rattle.station_ring.specs.declared.held.Stream.{Stream}
use Rattle.station_ring.specs.declared.held.Summary.{Summary}
use Rattle.station_ring.specs.Briefs.{Tells, stream_of}
use Rattle.station_ring.specs.Rings.{RingValue, held_at}
use Rattle.sl_lines.specs.declared.actions.Action.{Action}
use Rattle.session_state.specs.NamedValues.{Choice}
use Rattle.transfer.specs.declared.filters.TimeWindow.{TimeWindow}
use Rattle.transfer.specs.declared.filters.Filter.{Filter}
use Rattle.transfer.specs.declared.filters.Sight.{Sight}
use Rattle.transfer.specs.declared.filters.Sight.TheVariants.{AfterEnd as SeenAfterEnd, Unwanted as SeenUnwanted}
use Rattle.transfer.specs.declared.wanting.Found.TheVariants.{AfterEnd, Unwanted}
use Rattle.transfer.specs.Wanting.{facts_of, is_in_window_of}
use Rattle.transfer.specs.Cursors.{is_after_end, is_late}
use Rattle.transfer.specs.Founds.{found_of}

-- before a moment, where one is given
abbrev pub is_early : Option ℤ → (stop : ℤ) → Bool
is_early None stop = false
is_early (Some begin) stop = int_lt stop begin

-- What lies outside the window is not within what is asked, and what starts after it starts after the end of TIME.
pub record IsWindow (w : TimeWindow) (action : Option Action) : Type 0 where
  pub after : (x : Held) → is_after_end action x ≡ is_late w.last x.summary.start
  pub late : (x : Held) → is_late w.last x.summary.start ≡ true → is_in_window_of action (facts_of x.summary) ≡ false
  pub early : (x : Held) → is_early w.begin x.summary.stop ≡ true
      → is_in_window_of action (facts_of x.summary) ≡ false

-- No record of the stream passes the patterns.
pub record Refuses (patterns : List Pattern) (s : Stream) : Type 0 where
  pub refuses : (x : Summary) → stream_of x ≡ s → passes patterns (facts_of x) ≡ false

-- The filter is that of a named station, where the streams have these numbers.
pub record IsFilter (f : Filter) (streams : List Stream) (c : Choice) : Type 0 where
  pub window : IsWindow f.window c.action
  pub refused : (k : ℕ) (s : Stream) → slice_get f.refused k ≡ Some true → slice_get streams k ≡ Some s
      → Refuses c.patterns s

-- No record passes the patterns of a named station: each has one of these streams, and all of them are refused. And
-- none starts after the end of TIME.
pub record RefusesAll (streams : List Stream) (c : Choice) : Type 0 where
  pub few : length streams < 64
  pub unended : (x : Held) → is_after_end c.action x ≡ false
  pub refused : (k : ℕ) (s : Stream) → slice_get streams k ≡ Some s → Refuses c.patterns s

-- What is seen of a record is so.
pub record IsSight (c : Choice) (x : Held) (sight : Sight) : Type 0 where
  pub after : sight ≡ SeenAfterEnd → (next : ℕ) → found_of c next x ≡ AfterEnd
  pub unwanted : sight ≡ SeenUnwanted → (next : ℕ) → found_of c next x ≡ Unwanted

-- The briefs tell of what a ring holds from a place on, as far as they go.
pub record TellAt (r : RingValue) (place : ℕ) (streams : List Stream) (briefs : List Brief) : Type 0 where
  pub tell : (k : ℕ) (x : Held) (b : Brief) → held_at r (place + k) ≡ Some x → slice_get briefs k ≡ Some b
      → Tells streams x b
