-- A request whose patterns refuse all streams of a station has passed all that its ring holds.
use Rattle.std.proofs.Common.{◌≡◌, ℕ, ◌+◌, ◌-◌, ◌<◌, ◌≤◌, zero, suc, true, false, List, [], ◌∷◌, length, slice_get}
use Rattle.std.proofs.Common.{Option, Some, None, refl, sym, ap, ◌∙◌, arith, inl, inr}
use Rattle.std.proofs.lemmas.Bool.Decides.{leb_tells}
use Rattle.station_ring.specs.declared.held.Brief.{Brief}
use Rattle.station_ring.specs.declared.held.Held.{Held}
use Rattle.station_ring.specs.declared.held.Stream.{Stream}
use Rattle.station_ring.specs.Briefs.{TellFrom}
use Rattle.station_ring.specs.Rings.{RingValue, IsRing, held_at}
use Rattle.session_state.specs.NamedValues.{Choice}
use Rattle.transfer.specs.Wanting.{wants_held}
use Rattle.transfer.specs.Cursors.{HasPassed, RestsAt}
use Rattle.transfer.specs.Filters.{RefusesAll}
use Rattle.transfer.specs.Searches.{at_place}
use Rattle.transfer.proofs.CursorLemmas.{at_end, rests-end}
use Rattle.transfer.proofs.FilterLemmas.{refused-unwanted}

-- a brief that is there
some_brief : (bs : List Brief) (k : ℕ) → k < length bs → (b : Brief) × (slice_get bs k ≡ Some b)
some_brief [] k low = absurd (omega (arith, low))
some_brief (b ∷ bs) zero low = (b, refl)
some_brief (b ∷ bs) (suc k) low = some_brief bs k (omega (arith, low))

module _ (r : RingValue) (next : ℕ) (c : Choice) (place : ℕ) (streams : List Stream) (briefs : List Brief)
    (from : TellFrom r place streams briefs) (all : RefusesAll streams c) where
  -- no record from a place on is wanted
  refused : (k : ℕ) (x : Held) → place + k < r.pushes → held_at r (place + k) ≡ Some x → wants_held c next x ≡ false
  refused k x low there =
      let some = some_brief briefs k (omega (arith, low, from.count)) in
      by some.0 some.1 some.0.stream refl
    where
      by : (b : Brief) → slice_get briefs k ≡ Some b → (o : Option ℕ) → b.stream ≡ o → wants_held c next x ≡ false
      by b at None e = absurd ((from.tell k x b there at).numbered all.few e)
      by b at (Some number) e =
          refused-unwanted c next x
          ((all.refused number _ ((from.tell k x b there at).stream number e)).refuses x.summary refl)

  pub rests-refused : (ended : ℕ) → IsRing r → place ≤ r.pushes → HasPassed r next c (at_place place ended)
      → RestsAt r next c (at_end r ended)
  rests-refused ended holds high so_far = rests-end r next c r.pushes ended holds (omega arith) (record {
    within = omega arith;
    unwanted = λ p x low there. elim (leb_tells place p) [
      | inl (_, after) ↦
          let same : p ≡ place + (p - place) = omega (arith, after) in
          refused (p - place) x (omega (arith, after, low)) (ap (held_at r) (sym same) ∙ there)
      | inr (_, before) ↦ so_far.unwanted p x (omega (arith, before)) there
    ];
    told = λ p x low there late. absurd (let t : false ≡ true = sym (all.unended x) ∙ late in cc);
    before = omega (arith, so_far.before, high);
    after = so_far.after;
  })
