-- The first of what so many requests are to send, by what their cursors tell.
-- SeedLink 3, DATA, FETCH and TIME.
use Rattle.std.specs.Prelude.{◌≡◌, ℕ, ◌<◌, ◌≤◌, Bool, true, nat_le, if◌then◌else◌, List, [], ◌∷◌, ◌+◌, length, take}
use Rattle.std.specs.Prelude.{filter_map, slice_get, Option, Some, None, IfSome, option_map, ⊤}
use Rattle.protocol.specs.Catalog.{Config}
use Rattle.protocol.specs.History.{Arrival, next}
use Rattle.station_ring.specs.HeldRecords.{RingsValue, holdings_of}
use Rattle.session_state.specs.NamedValues.{Choice, ahead_of}
use Rattle.session_state.specs.Choices.{request_in}
use Rattle.session_state.specs.declared.choices.First.{First}
use Rattle.transfer.specs.declared.overview.Overview.{Overview}
use Rattle.transfer.specs.declared.overview.Overview.TheVariants.{Stale, Fresh}
use Rattle.transfer.specs.Choosing.{comes_before}
use Rattle.transfer.specs.Cursors.{HasLooked, OfAll, PassedIn, RestsIn}
use Rattle.transfer.specs.Sleeping.{HasNothing}

-- Whether a record ahead, where there is one, may still be sent, where that is so of those from position `next` on.
abbrev pub is_unsent : (next : ℕ) → Option ℕ → Bool
is_unsent next None = true
is_unsent next (Some stamp) = nat_le next stamp

-- the first of what was found so far and of one request's record ahead
abbrev pub earlier : Option First → (index : ℕ) → (ahead : Option ℕ) → Option First
earlier best index None = best
earlier best index (Some stamp) =
    if comes_before (option_map (λ f. f.stamp) best) stamp then Some (record { index = index; stamp = stamp }) else best

-- The cursor of the request with that index tells of a record ahead with that stamp.
pub record IsAhead (choices : List Choice) (index stamp : ℕ) : Type 0 where
  pub choice : Choice
  pub at : slice_get choices index ≡ Some choice
  pub ahead : ahead_of choice.cursor ≡ Some stamp

-- What was found so far, where all requests rest: the position that comes next for so many, which is late enough, and
-- is there unless all those have passed all.
pub record LeadsSoFar (rings : RingsValue) (choices : List Choice) (i : ℕ) (best : Option First) : Type 0 where
  pub position : (q : ℕ) → OfAll (RestsIn rings q) choices → (config : Config) (h : List Arrival)
      → rings ≡ holdings_of config h →
      option_map (λ f. f.stamp) best ≡ next h (filter_map (request_in config) (take i choices)) q
  pub there : IfSome best (λ f. IsAhead choices f.index f.stamp)
  pub late : (q : ℕ) → OfAll (RestsIn rings q) choices → IfSome best (λ f. q ≤ f.stamp)
  pub reached : (q : ℕ) → OfAll (RestsIn rings q) choices → best ≡ None → (j : ℕ) (c : Choice) → j < i
      → slice_get choices j ≡ Some c → HasNothing rings q c

-- the first of what these requests are to send, of which the first has that index, and of what was found before
abbrev pub best_after : Option First → (index : ℕ) → List Choice → Option First
best_after best index [] = best
best_after best index (c ∷ cs) = best_after (earlier best index (ahead_of c.cursor)) (index + 1) cs

-- the same of all requests
abbrev pub best_of : List Choice → Option First
best_of cs = best_after None 0 cs

-- Those from an index on and before another rest.
abbrev pub RestBetween : RingsValue → (next from to : ℕ) → List Choice → Type 0
RestBetween rings next from to choices = (j : ℕ) (c : Choice) → from ≤ j → j < to → slice_get choices j ≡ Some c
    → PassedIn rings next c → RestsIn rings next c

-- What a look over the requests from an index on comes to: the first that has to look at its ring again, or none.
pub record IsFreshOverview (rings : RingsValue) (next : ℕ) (choices : List Choice) (from : ℕ)
    (before first : Option First) : Type 0 where
  pub rests : RestBetween rings next from (length choices) choices
  pub best : before ≡ best_of (take from choices) → first ≡ best_of choices

pub record IsStaleOverview (rings : RingsValue) (next : ℕ) (choices : List Choice) (from : ℕ) (before : Option First)
    (index : ℕ) (first : Option First) : Type 0 where
  pub after : from ≤ index
  pub within : index < length choices
  pub rests : RestBetween rings next from index choices
  pub best : before ≡ best_of (take from choices) → first ≡ best_of (take index choices)

abbrev pub IsOverview : RingsValue → (next : ℕ) → List Choice → (from : ℕ) → (before : Option First) → Overview → Type 0
IsOverview rings next choices from before (Stale index first) =
    IsStaleOverview rings next choices from before index first
IsOverview rings next choices from before (Fresh first) = IsFreshOverview rings next choices from before first

-- What is found has the stamp of the first, and is a record ahead of the request with that index.
pub record IsBest (choices : List Choice) (first : Option First) : Type 0 where
  pub stamp : option_map (λ f. f.stamp) first ≡ option_map (λ f. f.stamp) (best_of choices)
  pub there : IfSome first (λ f. IsAhead choices f.index f.stamp)

-- What a glance at the cursors comes to, while each tells what its request is to send; where a record that a cursor
-- tells of was sent, nothing.
pub record IsGlance (next : ℕ) (choices : List Choice) (first : Option First) : Type 0 where
  pub rests : (rings : RingsValue) → OfAll (HasLooked rings) choices → OfAll (PassedIn rings next) choices
      → OfAll (RestsIn rings next) choices
  pub best : IsBest choices first

abbrev pub Glances : (next : ℕ) → List Choice → Overview → Type 0
Glances next choices (Stale index first) = ⊤
Glances next choices (Fresh first) = IsGlance next choices first
