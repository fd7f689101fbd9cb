use Rattle.std.proofs.Common.{◌∙◌, ap₂, sym}
use Rattle.catalog.specs.Changes.{is_same_list}
use Rattle.catalog.proofs.ChangesLemmas.{tokens_decided}
use Rattle.catalog.proofs.station.is_same_list.Goals as goal

pub returns-in-Some-Some : goal.returns-in-Some-Some
returns-in-Some-Some c =
    tokens_decided c.is_same.result c.in-Some-Some.list c.in-Some-Some.other c.is_same.ensures
    ∙ sym (ap₂ is_same_list c.in-Some-Some.is-0 c.in-Some-Some.is-1)
