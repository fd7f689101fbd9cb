-- Rows of bits that are written one after the other.
use Rattle.std.proofs.Common.{map, ◌≡◌, ℕ, zero, suc, ◌+◌, ◌<◌, ◌≤◌, ◌==◌, ◌||◌, ◌&&◌, Bool, true, false, List, [], ◌∷◌}
use Rattle.std.proofs.Common.{Option, Some, length, drop, slice_get, slice_set, slice_index_or, refl, sym, ap, ap₂}
use Rattle.std.proofs.Common.{subst, ◌∙◌, arith, eqb-true}
use Rattle.std.specs.Prelude.{◌≢◌, is_some}
use Rattle.std.proofs.lemmas.Bool.{eqb-false}
use Rattle.std.proofs.lemmas.List.{drop_more}
use Rattle.protocol.proofs.FoundLemmas.{both}
use Rattle.server_core.specs.declared.marks.BitRow.{BitRow}
use Rattle.server_core.specs.Rows.{bit_of, HasRoom}
use Rattle.session_state.specs.declared.choices.Entry.{Entry}
use Rattle.session_state.specs.NamedValues.{Choice, entry_of}
use Rattle.server_core.specs.Marks.{Elsewhere, KeepsRows, RoomBy, asked, asked_of, bit_by}

-- ---- one row is written

set-here : (rs : List BitRow) (place : ℕ) (r : BitRow) → place < length rs
    → slice_get (slice_set rs place r) place ≡ Some r
set-here [] place r lt = absurd (omega (arith, lt))
set-here (x ∷ rs) zero r lt = refl
set-here (x ∷ rs) (suc place) r lt = set-here rs place r (omega (arith, lt))

set-there : (rs : List BitRow) (place other : ℕ) (r : BitRow) → other ≢ place
    → slice_get (slice_set rs place r) other ≡ slice_get rs other
set-there [] place other r apart = refl
set-there (x ∷ rs) zero zero r apart = absurd (apart refl)
set-there (x ∷ rs) zero (suc other) r apart = refl
set-there (x ∷ rs) (suc place) zero r apart = refl
set-there (x ∷ rs) (suc place) (suc other) r apart = set-there rs place other r (λ e. apart (ap suc e))

set-count : (rs : List BitRow) (place : ℕ) (r : BitRow) → length (slice_set rs place r) ≡ length rs
set-count [] place r = refl
set-count (x ∷ rs) zero r = refl
set-count (x ∷ rs) (suc place) r = ap suc (set-count rs place r)

pub item-there : (rs : List BitRow) (place : ℕ) (d : BitRow) → place < length rs
    → slice_get rs place ≡ Some (slice_index_or rs place d)
item-there [] place d lt = absurd (omega (arith, lt))
item-there (x ∷ rs) zero d lt = refl
item-there (x ∷ rs) (suc place) d lt = item-there rs place d (omega (arith, lt))

-- a row that was written: at such slots its bits are the old ones, and it has no less room
pub record Writes (At : ℕ → Type 0) (old new : BitRow) : Type 0 where
  pub bits : (slot : ℕ) → At slot → bit_of new slot ≡ bit_of old slot
  pub longer : length old.words.items ≤ length new.words.items

module _ (At : ℕ → Type 0) where
  pub keeps-none : (rs : List BitRow) → KeepsRows At rs rs
  keeps-none rs = record { bits = λ slot at place. refl; rooms = λ slot place room. room; count = refl }

  pub keeps-on : (before now : List BitRow) (place : ℕ) (old new : BitRow) → slice_get now place ≡ Some old
      → place < length now → Writes At old new → KeepsRows At before now → KeepsRows At before (slice_set now place new)
  keeps-on before now place old new there lt writes keeps = record {
    bits = λ slot at other. both (other == place)
        (λ yes. let e : other ≡ place = eqb-true other place yes in
        ap (λ (o : Option BitRow). bit_by o slot)
        (ap (slice_get (slice_set now place new)) e ∙ set-here now place new lt)
        ∙ writes.bits slot at
        ∙ ap (λ (o : Option BitRow). bit_by o slot) (sym (ap (slice_get now) e ∙ there))
        ∙ keeps.bits slot at other)
        (λ no. ap (λ (o : Option BitRow). bit_by o slot) (set-there now place other new (eqb-false other place no))
        ∙ keeps.bits slot at other);
    rooms = λ slot other room. both (other == place)
        (λ yes. let e : other ≡ place = eqb-true other place yes in
        let was : HasRoom old slot = subst (λ (o : Option BitRow). RoomBy o slot) (ap (slice_get now) e ∙ there)
        (keeps.rooms slot other room) in
        subst (λ (o : Option BitRow). RoomBy o slot)
        (sym (ap (slice_get (slice_set now place new)) e ∙ set-here now place new lt))
        (omega (arith, was, writes.longer)))
        (λ no. subst (λ (o : Option BitRow). RoomBy o slot)
        (sym (set-there now place other new (eqb-false other place no))) (keeps.rooms slot other room));
    count = set-count now place new ∙ keeps.count;
  }

-- The bit of a slot in a row that is written, and in the others.
pub bit-here : (now : List BitRow) (place slot : ℕ) (new : BitRow) → place < length now
    → bit_by (slice_get (slice_set now place new) place) slot ≡ bit_of new slot
bit-here now place slot new lt = ap (λ (o : Option BitRow). bit_by o slot) (set-here now place new lt)

pub bit-there : (now : List BitRow) (place other slot : ℕ) (new : BitRow) → other ≢ place
    → bit_by (slice_get (slice_set now place new) other) slot ≡ bit_by (slice_get now other) slot
bit-there now place other slot new apart =
    ap (λ (o : Option BitRow). bit_by o slot) (set-there now place other new apart)

-- ---- what is asked_of of stations

-- a request and those after it
asked-on : (cs : List Entry) (i place : ℕ) (c d : Entry) → i < length cs → c ≡ slice_index_or cs i d
    → asked_of place (drop i cs) ≡ ((is_some c.action && c.station == place) || asked_of place (drop (i + 1) cs))
asked-on cs i place c d lt is = ap (asked_of place) (drop_more cs i d lt)
    ∙ ap (λ (x : Entry). asked_of place (x ∷ drop (i + 1) cs)) (sym is)

true-or : (a b : Bool) → b ≡ true → (a || b) ≡ true
true-or true b e = refl
true-or false b e = e

-- A bit that is set is one that was asked_of for.
pub set-asked : (cs : List Entry) (i place : ℕ) (c d : Entry) (before now : Bool) → i < length cs
    → c ≡ slice_index_or cs i d → is_some c.action ≡ true → (place ≡ c.station → now ≡ true)
    → (place ≢ c.station → now ≡ before) →
    (now || asked_of place (drop (i + 1) cs)) ≡ (before || asked_of place (drop i cs))
set-asked cs i place c d before now lt is acts here there =
    both (c.station == place)
    (λ yes. ap (λ (b : Bool). b || asked_of place (drop (i + 1) cs)) (here (sym (eqb-true c.station place yes)))
    ∙ sym (true-or before (asked_of place (drop i cs))
    (asked-on cs i place c d lt is ∙ ap₂ (λ (a b : Bool). (a && b) || asked_of place (drop (i + 1) cs)) acts yes)))
    (λ no. ap₂ (λ (a b : Bool). a || b) (there (λ e. eqb-false c.station place no (sym e)))
    (sym (asked-on cs i place c d lt is ∙ ap₂ (λ (a b : Bool). (a && b) || asked_of place (drop (i + 1) cs)) acts no)))

-- A bit of which nothing is asked_of is kept.
pub kept-asked : (cs : List Entry) (i place : ℕ) (c d : Entry) (before : Bool) → i < length cs
    → c ≡ slice_index_or cs i d → (is_some c.action && c.station == place) ≡ false →
    (before || asked_of place (drop (i + 1) cs)) ≡ (before || asked_of place (drop i cs))
kept-asked cs i place c d before lt is none =
    ap (λ (b : Bool). before || b)
    (sym (asked-on cs i place c d lt is ∙ ap (λ (b : Bool). b || asked_of place (drop (i + 1) cs)) none))

-- ---- the requests before one have their bits

pub record Adds (slot : ℕ) (cs : List Entry) (i : ℕ) (before now : List BitRow) : Type 0 where
  pub kept : KeepsRows (Elsewhere slot) before now
  pub added : (place : ℕ) → place < length now
      → (bit_by (slice_get now place) slot || asked_of place (drop i cs))
      ≡ (bit_by (slice_get before place) slot || asked_of place cs)

module _ (slot : ℕ) (cs : List Entry) (i : ℕ) (before now : List BitRow) (c d : Entry) (lt : i < length cs)
    (is : c ≡ slice_index_or cs i d) (adds : Adds slot cs i before now) where
  pub adds-set : (old new : BitRow) → is_some c.action ≡ true → c.station < length now
      → slice_get now c.station ≡ Some old
      → bit_of new slot ≡ true → Writes (Elsewhere slot) old new
      → Adds slot cs (i + 1) before (slice_set now c.station new)
  adds-set old new acts inside there here writes = record {
    kept = keeps-on (Elsewhere slot) before now c.station old new there inside writes adds.kept;
    added = λ place within.
        set-asked cs i place c d (bit_by (slice_get now place) slot)
        (bit_by (slice_get (slice_set now c.station new) place) slot) lt is acts
        (λ e. ap (λ p. bit_by (slice_get (slice_set now c.station new) p) slot) e
        ∙ bit-here now c.station slot new inside ∙ here)
        (λ apart. bit-there now c.station place slot new apart)
        ∙ adds.added place (omega (arith, within, set-count now c.station new));
  }

  pub adds-skip : ((place : ℕ) → place < length now → (is_some c.action && c.station == place) ≡ false)
      → Adds slot cs (i + 1) before now
  adds-skip none = record {
    kept = adds.kept;
    added = λ place within. kept-asked cs i place c d (bit_by (slice_get now place) slot) lt is (none place within)
        ∙ adds.added place within;
  }

pub not-inside : (a : Bool) (p place n : ℕ) → n ≤ p → place < n → (a && p == place) ≡ false
not-inside false p place n le lt = refl
not-inside true p place n le lt =
    both (p == place) (λ yes. absurd (let e = eqb-true p place yes in omega (arith, e, le, lt))) (λ no. no)

pub no-action : (a b : Bool) → a ≡ false → (a && b) ≡ false
no-action a b e = ap (λ x. x && b) e

pub or-false : (a b : Bool) → b ≡ false → (a || b) ≡ a
or-false true b e = refl
or-false false b e = e

-- At the end all are added.
pub adds-all : (slot : ℕ) (cs : List Entry) (i : ℕ) (before now : List BitRow) → length cs ≤ i
    → Adds slot cs i before now
    → (place : ℕ) → place < length now
    → bit_by (slice_get now place) slot ≡ (bit_by (slice_get before place) slot || asked_of place cs)
adds-all slot cs i before now le adds place within =
    sym
    (or-false (bit_by (slice_get now place) slot) (asked_of place (drop i cs))
    (ap (asked_of place) (all-dropped cs i le))) ∙ adds.added place within
  where
    all-dropped : (xs : List Entry) (n : ℕ) → length xs ≤ n → drop n xs ≡ []
    all-dropped [] zero le = refl
    all-dropped [] (suc n) le = refl
    all-dropped (x ∷ xs) zero le = absurd (omega (arith, le))
    all-dropped (x ∷ xs) (suc n) le = all-dropped xs n (omega (arith, le))

-- what is asked for by the entries that a session lends
pub asked_entries : (place : ℕ) (cs : List Choice) → asked_of place (map entry_of cs) ≡ asked place cs
asked_entries place [] = refl
asked_entries place (c ∷ cs) = ap (λ (b : Bool). (is_some c.action && c.station == place) || b) (asked_entries place cs)
