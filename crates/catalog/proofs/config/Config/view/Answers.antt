use Rattle.std.proofs.Common.{rules, ◌≡◌, ◌∙◌, ◌<◌, ◌+◌, ◌++◌, ◌∷◌, [], Bool, true, false, All, get_or, length, map}
use Rattle.std.proofs.Common.{sym}
use Rattle.std.proofs.Common.{ap, subst}
use Rattle.std.proofs.lemmas.List.Elements.{All-push}
use Rattle.std.specs.Net.Addr.{ipv4_bits}
use Rattle.protocol.specs.Catalog.{Entry, sees}
use Rattle.catalog.specs.Places.{station_at, AreRising}
use Rattle.catalog.proofs.ViewLemmas.{all_before, all_before_more, rising_more, visible-no, visible-yes}
use Rattle.catalog.proofs.config.Config.view.Goals.{then-is_open_to+in_ok-see, else-is_open_to}
use Rattle.catalog.proofs.config.Config.view.Goals as goal

pub loop-place-preserved : goal.loop-place-preserved
loop-place-preserved c =
    let es = c.self.inside.stations.items in
    let p : Entry → Bool = λ e. sees e.access c.self.inside.access (ipv4_bits c.args.address) in
    let ps = c.loop-place.places.items in
    let i = c.loop-place.place in
    let e = c.station-item.result in
    let within : i < length es = search rules in
    let is : e ≡ get_or es i e = search rules in
    elim c.if-is_open_to.branch [
      | then-is_open_to+in_ok-see w ↦
          let yes : p e ≡ true = sym c.is_open_to.ensures ∙ w.if-is_open_to.true in
          let made : c.if-is_open_to.places.items ≡ ps ++ i ∷ [] = search rules in
          record {
            visible = ap (map (station_at es)) made
                ∙ visible-yes es p ps i e c.loop-place.invariant.visible within is yes;
            places = subst (All (λ k. k < length es)) (sym made)
                (All-push (λ k. k < length es) ps i c.loop-place.invariant.places within);
            before = subst (All (λ k. k < i + 1)) (sym made) (all_before_more ps i c.loop-place.invariant.before);
            rising = subst AreRising (sym made)
                (rising_more ps i c.loop-place.invariant.rising c.loop-place.invariant.before);
          }
      | else-is_open_to w ↦
          let no : p e ≡ false = sym c.is_open_to.ensures ∙ w.if-is_open_to.false in
          let made : c.if-is_open_to.places.items ≡ ps = search rules in
          record {
            visible = ap (map (station_at es)) made
                ∙ visible-no es p ps i e c.loop-place.invariant.visible within is no;
            places = subst (All (λ k. k < length es)) (sym made) c.loop-place.invariant.places;
            before = subst (All (λ k. k < i + 1)) (sym made) (all_before ps i c.loop-place.invariant.before);
            rising = subst AreRising (sym made) c.loop-place.invariant.rising;
          }
    ]
