use Rattle.std.proofs.Common.{◌≡◌, ◌&&◌, ◌||◌, not, drop}
use Rattle.std.specs.List.{list_any}
use Rattle.selector.specs.Matching.{matches_parts}
use Rattle.selector.proofs.list.passes_among.Given as goal

abbrev pub invariant-loop-pattern : goal.invariant-loop-pattern
invariant-loop-pattern l =
    let is_match = matches_parts l.location l.channel l.kind in
    let rest = drop l.pattern-index l.patterns in record {
      positive : list_any (λ p. not p.negated) l.patterns ≡ (l.chooses || list_any (λ p. not p.negated) rest);
      chosen : list_any (λ p. not p.negated && is_match p) l.patterns
          ≡ (l.is_chosen || list_any (λ p. not p.negated && is_match p) rest);
      refused : list_any (λ p. p.negated && is_match p) l.patterns ≡ list_any (λ p. p.negated && is_match p) rest;
    }
