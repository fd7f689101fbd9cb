use Rattle.std.proofs.Common.{◌==◌, ◌∙◌, ap, ap₂, arith}
use Rattle.catalog.specs.declared.codes.Codes.{Codes}
use Rattle.text_parts.proofs.SpellingLemmas.{equal_spelled}
use Rattle.catalog.proofs.view.has_code.Goals as goal

pub returns : goal.returns
returns c = λ code is.
    let its = c.codes.ensures.short in
    let s = c.args.station.now.station in
    ap₂ (λ a b. a == b) (ap (λ (k : Codes). k.code) c.codes.ensures.value) is.is
    ∙ equal_spelled s.code code (omega (arith, its.short.1)) (omega (arith, is.short)) its.code_bytes is.bytes
