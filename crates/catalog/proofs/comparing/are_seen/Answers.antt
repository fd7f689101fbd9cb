use Rattle.std.proofs.Common.{◌≡◌, ◌∙◌, ◌<◌, ◌≤◌, ℕ, Bool, true, false, refl, sym, arith, length, get_or}
use Rattle.std.specs.Net.Addr.{ipv4_bits}
use Rattle.protocol.specs.Catalog.{Entry, sees}
use Rattle.catalog.proofs.SameLemmas.{seen_more, seen_other, seen_step, unseen_step}
use Rattle.catalog.proofs.comparing.are_seen.Goals as goal
use Rattle.catalog.proofs.comparing.are_seen.Goals.{then-at-places-via-then-at-places}
use Rattle.catalog.proofs.comparing.are_seen.Goals.{then-at-places-via-else-at-places+then-from-place}
use Rattle.catalog.proofs.comparing.are_seen.Goals.{then-is_open_to+else-at-places+else-from-place, else-is_open_to}

below : (a n : ℕ) → a ≤ n → (a ≡ n → ⊥) → a < n
below a n within apart = omega (arith, apart)

pub returns-then-at-places : goal.returns-then-at-places
returns-then-at-places c =
    let p : Entry → Bool = λ e. sees e.access c.args.global.now (ipv4_bits c.args.address) in
    let es = c.args.stations.now in
    let ps = c.args.places.now in
    let i = c.loop-place.place in
    let at = c.loop-place.at in
    let e = c.index-stations-place.result in
    let y : p e ≡ true = sym c.is_open_to.ensures ∙ c.if-is_open_to.true in
    sym (c.loop-place.invariant.same ∙ elim c.then-at-places.branch [
      | then-at-places-via-then-at-places w ↦
          seen_more p es ps i at e c.loop-place-test.true c.index-stations-place.is y w.if-at-places.true
      | then-at-places-via-else-at-places+then-from-place w ↦
          let there : at < length ps = below at (length ps) c.loop-place.invariant.within w.if-at-places.false in
          seen_other p es ps c.requires i at
          (get_or ps at 0) e c.loop-place-test.true c.index-stations-place.is y there refl
          (λ same. w.if-from-place.true (w.from.ensures ∙ same))
    ])

pub loop-place-preserved : goal.loop-place-preserved
loop-place-preserved c =
    let p : Entry → Bool = λ e. sees e.access c.args.global.now (ipv4_bits c.args.address) in
    let es = c.args.stations.now in
    let ps = c.args.places.now in
    let i = c.loop-place.place in
    let at = c.loop-place.at in
    let e = c.index-stations-place.result in
    elim c.if-is_open_to.branch [
      | then-is_open_to+else-at-places+else-from-place w ↦
          let y : p e ≡ true = sym c.is_open_to.ensures ∙ w.if-is_open_to.true in
          let there : at < length ps = below at (length ps) c.loop-place.invariant.within w.if-at-places.false in
          let step = seen_step p es ps i at
          (get_or ps at 0) e c.loop-place-test.true c.index-stations-place.is y there refl
          (sym w.from.ensures ∙ w.if-from-place.false) in
          rw w.at-is (record { within = omega arith; same = c.loop-place.invariant.same ∙ step })
      | else-is_open_to w ↦
          let n : p e ≡ false = sym c.is_open_to.ensures ∙ w.if-is_open_to.false in
          let step = unseen_step p es ps i at e c.loop-place-test.true c.index-stations-place.is n in
          rw w.at-is (record { within = c.loop-place.invariant.within; same = c.loop-place.invariant.same ∙ step })
    ]
