-- The chain is read by one walk over it.
use Rattle.std.proofs.Common.{◌≡◌, ◌≢◌, ℕ, zero, suc, ◌+◌, ◌-◌, ◌<◌, ◌≤◌, ◌==◌, ◌&&◌, nat_le, true, false, List, []}
use Rattle.std.proofs.Common.{◌∷◌, length, Option, Some, None, option_map, add-zero, zero-add, refl, sym, ap, ◌∙◌}
use Rattle.std.proofs.Common.{arith, ne_eqb, leb-true, le-leb}
use Rattle.std.proofs.lemmas.Bool.{and_parts, lt-leb}
use Rattle.protocol.proofs.TestLemmas.{decides-fits}
use Rattle.std.specs.Option.{option_or}
use Rattle.protocol.specs.declared.record.ByteOrder.{ByteOrder}
use Rattle.protocol.specs.Record.{word, fits, chain_from, chain_of, kind_of_type}
use Rattle.protocol.proofs.FoundLemmas.{both}
use Rattle.mseed_header.specs.Chain.{told, told_after, told_with, told_of, given_kind, length_byte}
use Rattle.mseed_header.specs.declared.chain.Blockettes.{Blockettes}

-- what the walk will have found, from an offset on, where none is below `least`
unfoldable pub found_from : ByteOrder → List ℕ → Blockettes → (least at : ℕ) → Option Blockettes
found_from o r b least at = option_map (told_after o r b) (chain_from (560 - least) o r least at)

-- where the walk stands
pub record Walks (o : ByteOrder) (r : List ℕ) (b : Blockettes) (least at : ℕ) : Type 0 where
  pub low : 48 ≤ least
  pub high : least ≤ 509
  pub few : b.links + 48 ≤ least
  pub finds : found_from o r b least at ≡ told_of o r

option_or-none : {A : Type 0} (x : Option A) → option_or x None ≡ x
option_or-none None = refl
option_or-none (Some a) = refl

option_or-assoc : {A : Type 0} (x y z : Option A) → option_or (option_or x y) z ≡ option_or x (option_or y z)
option_or-assoc None y z = refl
option_or-assoc (Some a) y z = refl

-- what stands in `Blockettes`, part by part
same_found : (b c : Blockettes) → b.length ≡ c.length → b.kind ≡ c.kind → b.links ≡ c.links → b ≡ c
same_found b c e k n =
    let same :
    record { length = b.length; kind = b.kind; links = b.links }
    ≡ record { length = c.length; kind = c.kind; links = c.links } =
    rw (e, k, n) in
    same

-- before the walk nothing was found
abbrev pub nothing_found : Blockettes
nothing_found = record { length = None; kind = None; links = 0 }

module _ (o : ByteOrder) (r : List ℕ) where
  -- a blockette that lies within the record
  within : (least at : ℕ) → (nat_le least at && fits o r at) ≡ true → (least ≤ at) × (at ≤ 508)
  within least at e =
      let parts = and_parts (nat_le least at) (fits o r at) e in
      let room = ((decides-fits o r at).0 parts.1).0 in
      (leb-true least at parts.0, omega arith)

  -- the number of steps is no matter, where there are enough
  enough : (steps steps' least at : ℕ) → least ≤ 509 → 512 < least + steps → 512 < least + steps'
      → chain_from steps o r least at ≡ chain_from steps' o r least at
  enough zero steps' least at high e e' = absurd (omega arith)
  enough (suc steps) zero least at high e e' = absurd (omega arith)
  enough (suc steps) (suc steps') least at high e e' =
      both (at == 0)
      (λ z. rw z)
      (λ n. both (nat_le least at && fits o r at)
      (λ y. let here = within least at y in
      let above : least ≤ at = here.0 in
      let below : at ≤ 508 = here.1 in
      rw (
        n,
        y,
      )
      (ap (option_map (λ offsets. at ∷ offsets))
      (enough steps steps' (at + 1) (word o r (at + 2)) (omega arith) (omega arith) (omega arith))))
      (λ f. rw (n, f)))

  first_length : (at : ℕ) (offsets : List ℕ)
      → option_or (length_byte o r (at ∷ [])) (length_byte o r offsets) ≡ length_byte o r (at ∷ offsets)
  first_length at offsets = both (word o r at == 1000) (λ y. rw y) (λ n. rw n)

  -- what is found of a blockette and of those behind it
  told-with : (b : Blockettes) (at : ℕ) (offsets : List ℕ)
      → told_after o r (told_with o r b at) offsets ≡ told_after o r b (at ∷ offsets)
  told-with b at offsets =
      same_found _ _
      (option_or-assoc b.length (length_byte o r (at ∷ [])) (length_byte o r offsets)
      ∙ ap (option_or b.length) (first_length at offsets))
      (option_or-assoc b.kind _ (given_kind o r offsets)
      ∙ ap (option_or b.kind) (option_or-assoc (kind_of_type (word o r at)) None (given_kind o r offsets)))
      (omega arith)

  from_nothing : (found : Option (List ℕ))
      → option_map (told_after o r nothing_found) found ≡ option_map (told o r) found
  from_nothing None = refl
  from_nothing (Some offsets) = ap Some (same_found _ _ refl refl (zero-add (length offsets)))

  pub starts : Walks o r nothing_found 48 (word o r 46)
  unfolding found_from told_of
  starts = record { low = omega arith; high = omega arith; few = omega arith; finds = from_nothing (chain_of o r) }

  pub too_low : (least at : ℕ) → at < least → (nat_le least at && fits o r at) ≡ false
  too_low least at low = rw (lt-leb least at low)

  pub outside : (least at : ℕ) → fits o r at ≡ false → (nat_le least at && fits o r at) ≡ false
  outside least at e = both (nat_le least at) (λ y. rw (y, e)) (λ n. rw n)

  pub inside : (least at : ℕ) → least ≤ at → fits o r at ≡ true → (nat_le least at && fits o r at) ≡ true
  inside least at high e = rw (le-leb least at high, e)

  steps_left : (least : ℕ) → least ≤ 509 → 560 - least ≡ suc (559 - least)
  steps_left least high = omega arith

  pub ends : (b : Blockettes) (least at : ℕ) → at ≡ 0 → Walks o r b least at → Some b ≡ told_of o r
  unfolding found_from told_of
  ends b least at none w =
      let whole : told_after o r b []
      ≡ b = same_found _ _ (option_or-none b.length) (option_or-none b.kind) (add-zero b.links) in
      let here : option_map (told_after o r b) (chain_from (560 - least) o r least at)
      ≡ Some (told_after o r b []) = rw (steps_left least w.high, none) refl in
      sym (here ∙ ap Some whole) ∙ w.finds

  pub breaks : (b : Blockettes) (least at : ℕ) → at ≢ 0 → (nat_le least at && fits o r at) ≡ false
      → Walks o r b least at → None ≡ told_of o r
  unfolding found_from told_of
  breaks b least at some wrong w =
      let here : option_map (told_after o r b) (chain_from (560 - least) o r least at)
      ≡ None = rw (steps_left least w.high, ne_eqb at 0 some, wrong) refl in
      sym here ∙ w.finds

  step : (b : Blockettes) (at : ℕ) (found : Option (List ℕ))
      → option_map (told_after o r (told_with o r b at)) found
      ≡ option_map (told_after o r b) (option_map (λ offsets. at ∷ offsets) found)
  step b at None = refl
  step b at (Some offsets) = ap Some (told-with b at offsets)

  pub goes_on : (b : Blockettes) (least at : ℕ) → at ≢ 0 → (nat_le least at && fits o r at) ≡ true
      → Walks o r b least at → Walks o r (told_with o r b at) (at + 1) (word o r (at + 2))
  unfolding found_from told_of
  goes_on b least at some right w =
      let here = within least at right in
      let above : least ≤ at = here.0 in
      let below : at ≤ 508 = here.1 in
      let low : 48 ≤ least = w.low in
      let same : option_map (told_after o r b) (chain_from (560 - least) o r least at)
      ≡ option_map (told_after o r b)
      (option_map (λ offsets. at ∷ offsets) (chain_from (559 - least) o r (at + 1) (word o r (at + 2)))) =
      rw (steps_left least w.high, ne_eqb at 0 some, right) refl in
      record {
        low = omega arith;
        high = omega arith;
        few = omega (arith, w.few);
        finds =
            ap (option_map (told_after o r (told_with o r b at)))
            (enough (560 - (at + 1)) (559 - least) (at + 1) (word o r (at + 2)) (omega arith) (omega arith)
            (omega arith))
            ∙ step b at (chain_from (559 - least) o r (at + 1) (word o r (at + 2)))
            ∙ sym same
            ∙ w.finds;
      }
