use Rattle.std.proofs.Common.{◌≤◌, sym, subst, All, length, List}
use Rattle.std.proofs.lemmas.List.{length-map}
use Rattle.protocol.specs.Catalog.{Entry}
use Rattle.catalog.specs.Indexing.{Finds, HasShortCodes}
use Rattle.catalog.specs.Numbers.{entry_by}
use Rattle.catalog.specs.Places.{HasDistinctCodes}
use Rattle.catalog.proofs.NumberLemmas.{distinct-by, finds-by, short-by}
use Rattle.catalog.proofs.config.Config.begin_at.Goals as goal

pub invariant_of-self : goal.invariant_of-self
invariant_of-self c =
    let old = c.self.inside in
    let kept = c.args.kept.now in
    let same = sym c.begin_at.ensures in
    let holds = c.self.invariant in (
      holds.0,
      holds.1,
      holds.2,
      subst HasDistinctCodes same (distinct-by kept old.stations.items holds.3),
      subst (λ (es : List Entry). All HasShortCodes es) same (short-by kept old.stations.items holds.4),
      subst (Finds old.index.places) same (finds-by kept old.index.places old.stations.items holds.5),
      subst (λ (es : List Entry). length es ≤ 1024) same
          (subst (λ n. n ≤ 1024) (sym (length-map old.stations.items (entry_by kept))) holds.6),
    )
