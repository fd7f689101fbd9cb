-- What matches a pattern, by the three parts of a record that patterns speak of.
use Rattle.std.specs.Prelude.{ℕ, Bool, not, ◌&&◌, ◌||◌, List}
use Rattle.std.specs.List.{list_any}
use Rattle.protocol.specs.declared.record.Kind.{Kind}
use Rattle.protocol.specs.Pattern.{Pattern, part_matches, kind_matches}

abbrev pub matches_parts : (location channel : List ℕ) → Kind → Pattern → Bool
matches_parts location channel kind p =
    part_matches p.location location && part_matches p.channel channel && kind_matches p.kind kind

abbrev pub passes_parts : (location channel : List ℕ) → Kind → List Pattern → Bool
passes_parts location channel kind ps =
    (not (list_any (λ p. not p.negated) ps)
    || list_any (λ p. not p.negated && matches_parts location channel kind p) ps)
    && not (list_any (λ p. p.negated && matches_parts location channel kind p) ps)
