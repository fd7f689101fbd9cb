-- What `follow` keeps.
use Rattle.std.proofs.Common.{◌≡◌, ℕ, List, subst}
use Rattle.std.specs.Prelude.{Option}
use Rattle.slreader.specs.Tallies.{TallyValue}
use Rattle.slreader.specs.Wants.{WantValue}
use Rattle.reader_run.specs.Following.{Follows}
use Rattle.reader_run.specs.Keeping.{Deed, KeepsBehind}

-- the same of wants that are equal
pub behind-of : (wants wants' : List WantValue) (t : TallyValue) (records : Option (List ℕ)) (x y : Option (List Deed))
    → wants ≡ wants' → KeepsBehind (λ u w. Follows wants t records u w) x y
    → KeepsBehind (λ u w. Follows wants' t records u w) x y
behind-of wants wants' t records x y same h =
    subst (λ ws. KeepsBehind (λ u w. Follows ws t records u w) x y) same h
