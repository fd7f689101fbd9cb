use Rattle.std.proofs.Common.{Bool, ℕ, List, sym, subst, true, false}
use Rattle.std.specs.Prelude.{All, if◌then◌else◌, insert, is_ok}
use Rattle.std.proofs.lemmas.List.Elements.{All-set}
use Rattle.record_archive.specs.Places.{IsKnown, StreamValue}
use Rattle.record_archive.proofs.PlaceLemmas.{all-insert}
use Rattle.record_archive.proofs.streams.KnownStreams.set.Goals as goal

-- one is put between the others, or none
all-insert-if : (b : Bool) (P : StreamValue → Type 0) (xs : List StreamValue) (i : ℕ) (y : StreamValue) → P y → All P xs
    → All P (if b then insert xs i y else xs)
all-insert-if true P xs i y is all = all-insert P xs i y is all
all-insert-if false P xs i y is all = all

pub invariant_of-self : goal.invariant_of-self
invariant_of-self c =
    record {
      known = All-set (IsKnown c.args.self.now.stations.items) c.args.self.now.all.items c.in-Ok.at c.args.stream
          c.requires.known c.args.self.now.known;
    }

pub invariant_of-self-in-Err : goal.invariant_of-self-in-Err
invariant_of-self-in-Err c =
    let stations = c.args.self.now.stations.items in
    record {
      known = subst (λ (ss : List StreamValue). All (IsKnown stations) ss) (sym c.insert.ensures.items)
          (all-insert-if (is_ok c.insert.result) (IsKnown stations) c.args.self.now.all.items c.in-Err.at c.args.stream
          c.requires.known c.args.self.now.known);
    }
