-- Named stations in the order in which the records ahead of their requests came, those without one last.
use Rattle.std.specs.Prelude.{◌≡◌, ◌≢◌, ℕ, ◌<◌, ◌≤◌, Bool, true, false, nat_lt, List, length, slice_get, slice_index}
use Rattle.std.specs.Prelude.{Option, Some, None}
use Rattle.session_state.specs.declared.choices.Entry.{Entry}
use Rattle.session_state.specs.declared.choices.First.{First}
use Rattle.session_state.specs.declared.choices.Ahead.{Ahead}
use Rattle.session_state.specs.declared.choices.Ahead.TheVariants.{Nobody, Only, Several}
use Rattle.session_state.specs.NamedValues.{ahead_of}

-- the stamp of the record ahead of an entry, where there are both
abbrev pub stamp_in : Option Entry → Option ℕ
stamp_in None = None
stamp_in (Some e) = ahead_of e.cursor

-- the same of the entry with that index
abbrev pub ahead_at : List Entry → ℕ → Option ℕ
ahead_at es i = stamp_in (slice_get es i)

-- Whether a record came before another one, where that is there.
abbrev pub is_sooner : Option ℕ → Option ℕ → Bool
is_sooner None b = false
is_sooner (Some s) None = true
is_sooner (Some s) (Some t) = nat_lt s t

-- The record ahead of the first of these two didn't come before that of the other.
abbrev pub IsLater : List Entry → (a b : ℕ) → Type 0
IsLater es a b = is_sooner (ahead_at es a) (ahead_at es b) ≡ false

-- No request has a record ahead; or this one has, with that stamp, and no other's came before it.
abbrev pub IsEarliest : List Entry → Option First → Type 0
IsEarliest es None = (j : ℕ) → ahead_at es j ≡ None
IsEarliest es (Some f) = (ahead_at es f.index ≡ Some f.stamp) × ((j : ℕ) → IsLater es j f.index)

-- where an index stands
pub record StandsIn (order : List ℕ) (i : ℕ) : Type 0 where
  pub place : ℕ
  pub within : place < length order
  pub is : slice_index order place ≡ i

-- Each of so many indexes stands there once, and nothing else.
pub record IsOrder (order : List ℕ) (n : ℕ) : Type 0 where
  pub count : length order ≡ n
  pub named : (k : ℕ) → k < n → slice_index order k < n
  pub all : (i : ℕ) → i < n → StandsIn order i
  pub once : (k m : ℕ) → k < n → m < n → slice_index order k ≡ slice_index order m → k ≡ m

-- Those from one place on stand in the order of their records ahead.
abbrev pub IsSortedFrom : ℕ → List Entry → List ℕ → Type 0
IsSortedFrom from es order = (k m : ℕ) → from ≤ k → k < m → m < length order
    → IsLater es (slice_index order m) (slice_index order k)

-- So do all but this one.
abbrev pub IsSortedBut : ℕ → List Entry → List ℕ → Type 0
IsSortedBut i es order = (k m : ℕ) → k < m → m < length order → slice_index order k ≢ i → slice_index order m ≢ i
    → IsLater es (slice_index order m) (slice_index order k)

-- The order as it is once the record ahead of the request with that index is another one, where so many might have one
-- before.
abbrev pub IsReady : Ahead → ℕ → List Entry → List ℕ → Type 0
IsReady Nobody i es order = IsSortedBut i es order
IsReady (Only j) i es order = (k : ℕ) → k ≢ j → k ≢ i → ahead_at es k ≡ None
IsReady Several i es order = IsSortedBut i es order

-- All stand in their order, once several may have a record ahead.
abbrev pub HasSorted : Ahead → List ℕ → List Entry → Type 0
HasSorted Nobody order es = Unit {0}
HasSorted (Only i) order es = Unit {0}
HasSorted Several order es = IsSortedFrom 0 es order
