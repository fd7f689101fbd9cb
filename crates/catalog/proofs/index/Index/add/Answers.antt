use Rattle.std.proofs.Common.{◌≡◌, ◌∙◌, ap, length, Some, subst, sym}
use Rattle.std.specs.HashMap.{Updates, get}
use Rattle.std.specs.Option.{is_some}
use Rattle.catalog.specs.Indexing.{codes_eq, place_in}
use Rattle.catalog.specs.declared.codes.Codes.{Codes}
use Rattle.catalog.proofs.IndexLemmas.{index_next, repeated_found}
use Rattle.catalog.proofs.index.Index.add.Goals as goal

-- whether the map has the station's codes
had : (c : goal.After-is_some) → c.is_some.result
    ≡ is_some (place_in c.args.self.now.places c.args.station.now.station.network c.args.station.now.station.code)
had c =
    c.is_some.ensures
    ∙ ap is_some (subst (λ (k : Codes). c.in_ok-replaced.replaced ≡ get codes_eq c.args.self.now.places k)
    c.codes.ensures.value c.in_ok-replaced.ensures.old)

pub returns-clause-repeated : goal.returns-clause-repeated
returns-clause-repeated c =
    had c ∙ repeated_found c.args.self.now.places c.args.earlier.now c.args.station.now c.codes.ensures.short c.requires

pub returns-clause-finds : goal.returns-clause-finds
returns-clause-finds c = λ none.
    index_next c.args.self.now.places c.insert.new.self c.args.earlier.now c.args.station.now c.codes.ensures.short
    c.requires
    (subst (λ (k : Codes). Updates codes_eq c.args.self.now.places c.insert.new.self k
    (Some (length c.args.earlier.now))) c.codes.ensures.value c.in_ok-replaced.ensures.updates)
    (sym (had c) ∙ none)
