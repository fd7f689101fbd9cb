use Rattle.std.proofs.Common.{rules, ◌≡◌, ◌∙◌, true, false, Some, List, ℕ, [], ◌∷◌, ◌++◌, sym, ap, length}
use Rattle.std.proofs.Common.{length-append, arith, eqb-true}
use Rattle.std.proofs.lemmas.Bool.{eqb-false}
use Rattle.catalog.specs.Changes.{changed_places, is_changed_at, places_below}
use Rattle.catalog.proofs.ChangesLemmas.{below_no, below_yes, few_enough, one_too_many}
use Rattle.catalog.proofs.changes.changed_places.Goals as goal
use Rattle.catalog.proofs.changes.changed_places.Goals.{then-is_changed_at+else-is_full, else-is_changed_at}

pub loop-place-init : goal.loop-place-init
loop-place-init c = record { places = c.new-places.ensures; room = omega (arith, ap length c.new-places.ensures) }

pub returns-then-is_full : goal.returns-then-is_full
returns-then-is_full c =
    let full : length c.loop-place.places.items
    ≡ 256 = eqb-true _ _ (sym c.is_full.ensures.value ∙ c.if-is_full.true) in
    let changed : is_changed_at c.args.stations.now c.args.others.now c.loop-place.place ≡ true =
    sym c.is_changed_at.ensures ∙ c.if-is_changed_at.true in
    sym (one_too_many c.args.stations.now c.args.others.now c.loop-place.place c.loop-place.places.items
    c.loop-place.invariant.places full c.loop-place-test.true changed)

pub loop-place-preserved : goal.loop-place-preserved
loop-place-preserved c =
    let test = is_changed_at c.args.stations.now c.args.others.now in
    let place = c.loop-place.place in
    let so_far = c.loop-place.invariant in
    elim c.if-is_changed_at.branch [
      | then-is_changed_at+else-is_full w ↦
          let yes : test place ≡ true = sym c.is_changed_at.ensures ∙ w.if-is_changed_at.true in
          let more : c.if-is_changed_at.places.items ≡ c.loop-place.places.items ++ place ∷ [] = search rules in
          let apart = eqb-false _ _ (sym w.is_full.ensures.value ∙ w.if-is_full.false) in
          record {
            places = more ∙ ap (λ (xs : List ℕ). xs ++ place ∷ []) so_far.places ∙ sym (below_yes test place yes);
            room = omega (
              arith,
              ap length more,
              length-append c.loop-place.places.items (place ∷ []),
              so_far.room,
              w.is_full.ensures.fits,
              apart,
            );
          }
      | else-is_changed_at w ↦
          let no : test place ≡ false = sym c.is_changed_at.ensures ∙ w.if-is_changed_at.false in
          rw w.places-is (record { places = so_far.places ∙ sym (below_no test place no); room = so_far.room })
    ]

pub returns : goal.returns
returns c =
    let same : c.loop-place.place ≡ length c.args.stations.now =
    omega (arith, c.loop-place.auto.place-end, c.loop-place-test.false) in
    let all : c.loop-place.places.items ≡ changed_places c.args.stations.now c.args.others.now =
    c.loop-place.invariant.places ∙ ap (places_below (is_changed_at c.args.stations.now c.args.others.now)) same in
    ap (λ (xs : List ℕ). Some xs) all
    ∙ sym (few_enough _ (omega (arith, sym (ap length all), c.loop-place.invariant.room)))
