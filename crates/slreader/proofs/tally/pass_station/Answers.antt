use Rattle.std.proofs.Common.{◌≡◌, ◌∙◌, ◌+◌, ◌-◌, ◌<◌, ap, ap₂, arith, drop, get_or, length, Option, Some, option_map}
use Rattle.std.proofs.Common.{refl, subst, sym, true, unwrap_or, ℕ}
use Rattle.std.specs.HashMap.{get}
use Rattle.std.specs.List.{position_from}
use Rattle.std.proofs.lemmas.List.{get_or-map, length-map}
use Rattle.slreader.specs.Placing.{codes_eq, is_same_name, key, name_by, name_of, names, IsShort}
use Rattle.slreader.specs.Tallies.{passed, reached_at, ReachedValue, Resume}
use Rattle.slreader.proofs.PlacingLemmas.{at_next, here_stays, name_in, next_behind, one_name, others_stay, own_passed}
use Rattle.slreader.proofs.PlacingLemmas.{IsAt}
use Rattle.slreader.proofs.TallyLemmas.{set_next}
use Rattle.slreader.proofs.tally.pass_station.Goals as goal

pub places-init : goal.places-init
places-init c =
    let rs = c.args.resumes.now.items in
    let facts = c.args.facts.now in
    let same : name_by c.network.result.now c.station.result.now ≡ name_in facts =
    ap₂ name_by c.network.ensures.code c.station.ensures.code in
    at_next (passed c.args.number.now (Some facts)) (λ m. is_same_name m (name_in facts))
    (others_stay c.args.number.now facts) 0 rs rs c.first-next.result (omega arith) c.requires.named refl
    (c.first-next.ensures.first ∙ ap (λ n. get codes_eq c.args.places.now.firsts (key n)) same
    ∙ c.requires.finds (name_in facts) (subst IsShort same c.first-next.ensures.short))

-- the want that is passed, and where the next one stands
record Step (c : goal.After-after-next) : Type 0 where
  within : c.in-Some.place < length c.args.resumes.now.items
  next : c.after-next.result ≡ position_from (λ m. is_same_name m (name_in c.args.facts.now)) (c.in-Some.place + 1)
      (drop (c.in-Some.place + 1) (names c.args.resumes.now.items))

at_place : (c : goal.After-after-next) → IsAt (passed c.args.number.now (Some c.args.facts.now))
    (λ m. is_same_name m (name_in c.args.facts.now)) c.args.resumes.now.items c.places.resumes.items
    (Some c.in-Some.place)
at_place c = subst (IsAt (passed c.args.number.now (Some c.args.facts.now))
    (λ m. is_same_name m (name_in c.args.facts.now)) c.args.resumes.now.items c.places.resumes.items) c.in-Some.is
    c.places.invariant

step : (c : goal.After-after-next) → Step c
step c =
    let rs = c.args.resumes.now.items in
    let facts = c.args.facts.now in
    let p = c.in-Some.place in
    let x = c.index_mut-resume.result.now in
    let at = at_place c in
    let same : name_by c.network.result.now c.station.result.now ≡ name_in facts =
    ap₂ name_by c.network.ensures.code c.station.ensures.code in
    let short : IsShort (name_in facts) = subst IsShort same c.first-next.ensures.short in
    let here : get_or (names rs) p (name_in facts) ≡ name_in facts =
    get_or-map name_of rs p x (name_in facts) at.0 ∙ one_name (name_of (get_or rs p x)) (name_in facts) (at.1 x) in
    record {
      within = at.0;
      next = c.after-next.ensures
          ∙ c.requires.follows p (name_in facts) (omega arith) (subst (λ n. p < n) (sym (length-map rs name_of)) at.0)
          short here;
    }

pub places-smaller : goal.places-smaller
places-smaller c =
    let rs = c.args.resumes.now.items in
    let facts = c.args.facts.now in
    subst
    (λ (q : Option ℕ). length rs - unwrap_or c.after-next.result (length rs) < length rs - unwrap_or q (length rs))
    (sym c.in-Some.is)
    (next_behind (passed c.args.number.now (Some facts)) (λ m. is_same_name m (name_in facts))
    (others_stay c.args.number.now facts) c.in-Some.place rs c.after-next.result (step c).within c.requires.named
    (step c).next)

pub places-preserved : goal.places-preserved
places-preserved c =
    let rs = c.args.resumes.now.items in
    let zs = c.places.resumes.items in
    let number = c.args.number.now in
    let facts = c.args.facts.now in
    let f = passed number (Some facts) in
    let p = c.in-Some.place in
    let x = c.index_mut-resume.result.now in
    let at = at_place c in
    let was : x ≡ get_or rs p x =
    c.index_mut-resume.ensures.value ∙ ap (λ l. get_or l p x) at.2 ∙ here_stays f p rs x in
    let own : is_same_name (name_of x) (name_in facts) ≡ true =
    ap (λ (r : Resume). is_same_name (name_of r) (name_in facts)) was ∙ at.1 x in
    let last : c.reached_at-last.result ≡ option_map (reached_at (Some facts)) number =
    c.reached_at-last.ensures
    ∙ ap (λ e. option_map (λ n. let r : ReachedValue = record { number = n; end = Some e } in r) number)
    c.end.ensures in
    let put : c.put.new.self ≡ f x = c.put.ensures ∙ own_passed number facts x c.reached_at-last.result own last in
    at_next f (λ m. is_same_name m (name_in facts)) (others_stay number facts) (p + 1) rs _ c.after-next.result
    (let within = at.0 in omega (arith, within)) c.requires.named
    (set_next f rs zs p x c.put.new.self at.2 at.0 c.index_mut-resume.ensures.value put) (step c).next
