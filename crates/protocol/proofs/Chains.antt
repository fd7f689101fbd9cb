-- The chain that is read is the record's chain.
use Rattle.std.proofs.Common.{arith, ne_eqb, le-leb, ◌<◌, ◌≡◌, ℕ, zero, suc, ◌+◌, ◌≤◌, ◌&&◌, nat_le, ◌==◌, List, []}
use Rattle.std.proofs.Common.{◌∷◌, Option, Some, None, option_map, eqb-true, refl, subst, ◌∙◌}
use Rattle.std.specs.Prelude.{All}
use Rattle.std.proofs.lemmas.List.Elements.{All-nil, All-cons, All-head, All-tail}
use Rattle.std.proofs.lemmas.Bool.{and_parts, leb-true}
use Rattle.protocol.specs.declared.record.ByteOrder.{ByteOrder}
use Rattle.protocol.specs.Record.{word, fits, chain_from, chain_of}
use Rattle.protocol.specs.Reading.{Follow, Rise, Fits, IsChain}
use Rattle.protocol.proofs.FoundLemmas.{both}
use Rattle.protocol.proofs.TestLemmas.{decides-fits}

module _ (o : ByteOrder) (r : List ℕ) where
  -- the offsets from the one that `place` names on
  pub record IsRest (least place : ℕ) (offsets : List ℕ) : Type 0 where
    pub follow : Follow o r place offsets
    pub rise : Rise least offsets
    pub fit : All (Fits o r) offsets

  abbrev Reads : (least place : ℕ) → Option (List ℕ) → Type 0
  Reads least place found = (offsets : List ℕ) → found ≡ Some offsets → IsRest least place offsets

  behind : (least place at : ℕ) (found : Option (List ℕ)) → word o r place ≡ at → least ≤ at → Fits o r at
      → Reads (at + 1) (at + 2) found → Reads least place (option_map (λ offsets. at ∷ offsets) found)
  behind least place at None is above fit rest offsets e = absurd cc
  behind least place at (Some found) is above fit rest offsets e =
      let same : at ∷ found ≡ offsets = cc in
      let more = rest found refl in
      subst (IsRest least place) same
      (record {
        follow = (is, more.follow);
        rise = (above, more.rise);
        fit = All-cons (Fits o r) at found fit more.fit;
      })

  no_offsets : (least place : ℕ) (offsets : List ℕ) → word o r place ≡ 0 → [] ≡ offsets → IsRest least place offsets
  no_offsets least place offsets is same =
      subst (IsRest least place) same (record { follow = is; rise = tt; fit = All-nil (Fits o r) })

  reads_at : (steps least place at : ℕ) → word o r place ≡ at
      → ((least' place' : ℕ) → Reads least' place' (chain_from steps o r least' (word o r place')))
      → Reads least place (chain_from (suc steps) o r least at)
  reads_at steps least place at is more offsets e =
      both (at == 0)
      (λ z. no_offsets least place offsets (is ∙ eqb-true at 0 z)
      (let found : Some [] ≡ Some offsets = rw z at e in cc))
      (λ n. both (nat_le least at && fits o r at)
      (λ y. let parts = and_parts _ _ y in
      behind least place at (chain_from steps o r (at + 1) (word o r (at + 2))) is (leb-true least at parts.0)
      ((decides-fits o r at).0 parts.1) (more (at + 1) (at + 2)) offsets (rw (n, y) at e))
      (λ f. absurd (let found : None ≡ Some offsets = rw (n, f) at e in cc)))

  pub reads : (steps least place : ℕ) → Reads least place (chain_from steps o r least (word o r place))
  reads zero least place offsets e = absurd cc
  reads (suc steps) least place offsets e = reads_at steps least place (word o r place) refl (reads steps) offsets e

  -- and each chain is read, if there are enough steps
  follows_zero : (steps least place : ℕ) → word o r place ≡ 0
      → chain_from (suc steps) o r least (word o r place) ≡ Some []
  follows_zero steps least place e = rw e

  follows_one : (steps least place at : ℕ) (offsets : List ℕ) → word o r place ≡ at → 48 ≤ at → least ≤ at → Fits o r at
      → chain_from steps o r (at + 1) (word o r (at + 2)) ≡ Some offsets
      → chain_from (suc steps) o r least (word o r place) ≡ Some (at ∷ offsets)
  follows_one steps least place at offsets e some above fit rest =
      rw (e, ne_eqb at 0 (λ z. absurd (omega arith)), le-leb least at above, (decides-fits o r at).1 fit, rest)

  pub is_read : (steps least place : ℕ) (offsets : List ℕ) → 48 ≤ least → least ≤ 509 → 512 < least + steps
      → Follow o r place offsets → Rise least offsets → All (Fits o r) offsets
      → chain_from steps o r least (word o r place) ≡ Some offsets
  is_read zero least place offsets low high enough follow rise fit = absurd (omega arith)
  is_read (suc steps) least place [] low high enough follow rise fit = follows_zero steps least place follow
  is_read (suc steps) least place (at ∷ offsets) low high enough follow rise fit =
      let here = All-head (Fits o r) at offsets fit in
      let within : at + 4 ≤ 512 = here.0 in
      let above : least ≤ at = rise.0 in
      follows_one steps least place at offsets follow.0 (omega arith) above here
      (is_read steps (at + 1) (at + 2) offsets (omega arith) (omega arith) (omega arith) follow.1 rise.1
      (All-tail (Fits o r) at offsets fit))

pub chain-sound : (o : ByteOrder) (r : List ℕ) (offsets : List ℕ) → chain_of o r ≡ Some offsets → IsChain o r offsets
chain-sound o r offsets e = let rest =
    reads o r 512 48 46 offsets e in record { follow = rest.follow; rise = rest.rise; fit = rest.fit }

pub chain-complete : (o : ByteOrder) (r : List ℕ) (offsets : List ℕ) → IsChain o r offsets → chain_of o r ≡ Some offsets
chain-complete o r offsets c =
    is_read o r 512 48 46 offsets (omega arith) (omega arith) (omega arith) c.follow c.rise c.fit
