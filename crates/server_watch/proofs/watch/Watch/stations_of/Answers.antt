use Rattle.std.proofs.Common.{rules, ◌≡◌, ◌++◌, ◌∷◌, [], List, Vec, Global, arith, ap, subst, sym, ◌∙◌, false}
use Rattle.std.specs.Result.{is_err}
use Rattle.status_page.specs.declared.value.StationStatus.{StationStatus}
use Rattle.server_watch.proofs.StationLemmas.{TellsUpTo, tells-more, tells-none}
use Rattle.server_watch.proofs.watch.Watch.stations_of.Goals as goal
use Rattle.server_watch.proofs.watch.Watch.stations_of.Goals.{in-Some+else-is_err, in_default}

pub loop-place-init : goal.loop-place-init
loop-place-init c = λ knows.
    subst (λ (l : List StationStatus). TellsUpTo 0 c.args.now c.args.all.now c.args.rings.now
    c.args.self.now.arrivals.items c.args.listed.users.now c.args.listed.limits.now l) (sym c.in_ok-stations.ensures.items)
    (tells-none c.args.now c.args.all.now c.args.rings.now c.args.self.now.arrivals.items c.args.listed.users.now c.args.listed.limits.now)

pub loop-place-preserved : goal.loop-place-preserved
loop-place-preserved c = λ knows.
    elim c.match-station_at.branch [
      | in-Some+else-is_err w ↦
          let before = c.loop-place.stations.items in
          let all_right : is_err w.push.result ≡ false = sym w.is_err.ensures.value ∙ w.if-is_err.false in
          let pushed : w.push.new.self.items ≡ before ++ w.in-Some.status ∷ [] = search (rules, all_right) in
          tells-more c.args.now c.args.all.now c.args.rings.now c.args.self.now.arrivals.items c.args.listed.users.now c.args.listed.limits.now
          c.loop-place.place c.index-all-place.result w.in-Some.status before c.match-station_at.stations.items
          c.loop-place-test.true c.index-all-place.is w.in-Some.ensures.told
          (ap (λ (v : Vec StationStatus Global). v.items) w.stations-is ∙ pushed) (c.loop-place.invariant knows)
      | in_default w ↦
          let there = w.in_default.ensures.there (omega arith) (omega arith) (omega arith) in
          absurd cc
    ]

pub returns : goal.returns
returns c = λ knows.
    let told = c.loop-place.invariant knows in
    record { count = omega (arith, told.count, c.loop-place-test.false, c.loop-place.auto.place-end); each = told.each }
