use Rattle.std.proofs.Common.{◌≡◌, ◌∙◌, ◌+◌, ◌<◌, ◌++◌, ◌∷◌, [], ap, false, get_or, length, take, All, subst, sym}
use Rattle.std.proofs.lemmas.List.{take_all, take_more}
use Rattle.std.proofs.lemmas.List.Elements.{All-more}
use Rattle.catalog.specs.Indexing.{Finds, HasShortCodes}
use Rattle.catalog.specs.Reading.{is_repeated}
use Rattle.catalog.proofs.IndexLemmas.{not_repeated_at}
use Rattle.catalog.proofs.index.Index.of.Goals as goal

pub loop-place-preserved : goal.loop-place-preserved
loop-place-preserved c =
    let es = c.args.stations.now in
    let i = c.loop-place.place in
    let e = c.index-stations-place.result in
    let within : i < length es = c.loop-place-test.true in
    let at : e ≡ get_or es i e = c.index-stations-place.is in
    let apart : is_repeated (take i es) e.station ≡ false = not_repeated_at es i e e c.requires within at in
    let more : take i es ++ e ∷ [] ≡ take (i + 1) es =
    ap (λ x. take i es ++ x ∷ []) at ∙ sym (take_more es i e within) in
    record {
      finds = subst (Finds c.add.new.self.places) more
          (c.in_ok-add.ensures.finds (c.in_ok-add.ensures.repeated ∙ apart));
      short = All-more HasShortCodes es i e within c.loop-place.invariant.short
          (subst HasShortCodes at c.in_ok-add.ensures.short);
    }

pub returns-clause-finds : goal.returns-clause-finds
returns-clause-finds c = subst (Finds c.loop-place.index.places)
    (take_all c.loop-place.place c.args.stations.now c.loop-place-test.false) c.loop-place.invariant.finds

pub returns-clause-short : goal.returns-clause-short
returns-clause-short c =
    subst (All HasShortCodes) (take_all c.loop-place.place c.args.stations.now c.loop-place-test.false)
    c.loop-place.invariant.short
