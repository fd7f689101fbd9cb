use Rattle.std.proofs.Common.{◌<◌, ◌∷◌, [], ◌∙◌, ap, arith, length, map, refl, take}
use Rattle.std.proofs.lemmas.List.{map-append, take_more}
use Rattle.ports_logged.specs.declared.visit.Visit.TheVariants.{Away}
use Rattle.ports_logged.proofs.NoteLemmas.{notes-more, notes-none}
use Rattle.ports_logged.proofs.logging.note_all.Goals as goal

pub loop-one-init : goal.loop-one-init
loop-one-init g c = record { notes = notes-none _; passed = refl }

pub loop-one-preserved : goal.loop-one-preserved
loop-one-preserved g c =
    let xs = c.args.away.now in
    let i = c.loop-one.one-index in
    let inside : i < length xs = omega arith in
    record {
      notes = notes-more _ _ _ (map Away (take i xs)) _ _ c.loop-one.invariant.notes c.note.ensures.notes
          (ap (map Away) (take_more xs i _ inside) ∙ map-append Away (take i xs) (_ ∷ []));
      passed = c.note.ensures.passed ∙ c.loop-one.invariant.passed;
    }
