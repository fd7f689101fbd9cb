-- What passes, by the parts of a record.
use Rattle.std.proofs.Common.{◌≡◌, ℕ, List, sym, ap, ◌∙◌}
use Rattle.protocol.specs.declared.record.Kind.{Kind}
use Rattle.protocol.specs.Pattern.{Pattern, passes}
use Rattle.protocol.specs.Record.{Facts}
use Rattle.selector.specs.Matching.{passes_parts}

pub passes_by_parts : (ps : List Pattern) (x : Facts) (location channel : List ℕ) (kind : Kind) → x.location ≡ location
    → x.channel ≡ channel → x.kind ≡ kind → passes_parts location channel kind ps ≡ passes ps x
passes_by_parts ps x location channel kind l c k =
    sym (ap (λ z. passes_parts z x.channel x.kind ps) l ∙ ap (λ z. passes_parts location z x.kind ps) c
    ∙ ap (λ z. passes_parts location channel z ps) k)
