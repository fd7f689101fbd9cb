use Rattle.std.proofs.Common.{◌≡◌, ◌∙◌, ◌++◌, ◌∷◌, [], ℕ, List, Some, ap, length, length-append, sym}
use Rattle.continued_files.specs.Puts.Puts.{Added, Stood}
use Rattle.continued_files.specs.Tails.Offers.{Adds}
use Rattle.continued_files.proofs.TailLemmas.{index-keeps, index-more, passed}
use Rattle.continued_files.proofs.tail.Tail.offer.Goals as goal

pub returns-in-Some-clause-offers : goal.returns-in-Some-clause-offers
returns-in-Some-clause-offers g c = λ rs told index.
    let clauses = c.in_ok-place.ensures in
    let found = rw c.in-Some.is at clauses.found rs told in
    let out = c.take_out.ensures in (
      rs,
      c.find.ensures.same c.args.name.now ∙ told,
      index-keeps c.args.self.now c.take_out.new.self rs out.order out.from out.len index,
      passed c.args.self.now.tail c.take_out.new.self.tail rs c.args.bytes.now c.in-Some.place found.0 found.2
          (out.left found.0),
    )

pub returns-in_ok-add-in-None-clause-offers : goal.returns-in_ok-add-in-None-clause-offers
returns-in_ok-add-in-None-clause-offers g c = λ rs told index.
    let clauses = c.in_ok-place.ensures in
    let others = rw c.in-None.is at clauses.found rs told in (
      rs ++ c.args.bytes.now ∷ [],
      c.in_ok-add-in-None.ensures.added.here rs (c.find.ensures.same c.args.name.now ∙ told),
      index-more c.args.self.now rs c.args.bytes.now index,
      Adds (others index),
    )

pub returns-in-Some-clause-stands : goal.returns-in-Some-clause-stands
returns-in-Some-clause-stands g c = λ rs told.
    let clauses = c.in_ok-place.ensures in
    let found = rw c.in-Some.is at clauses.found rs told in
    (rs, c.find.ensures.same c.args.name.now ∙ told, Stood c.in-Some.place found.1 found.2)

pub returns-in_ok-add-in-None-clause-stands : goal.returns-in_ok-add-in-None-clause-stands
returns-in_ok-add-in-None-clause-stands g c = λ rs told. (
  rs ++ c.args.bytes.now ∷ [],
  c.in_ok-add-in-None.ensures.added.here rs (c.find.ensures.same c.args.name.now ∙ told),
  Added,
)

some-same : (xs ys : List (List ℕ)) → Some xs ≡ Some ys → xs ≡ ys
some-same xs ys e = cc

pub returns-in_ok-add-in-None-clause-added : goal.returns-in_ok-add-in-None-clause-added
returns-in_ok-add-in-None-clause-added g c = λ rs told rs' after.
    let more = c.in_ok-add-in-None.ensures.added.here rs (c.find.ensures.same c.args.name.now ∙ told) in
    let same : rs' ≡ rs ++ c.args.bytes.now ∷ [] = some-same _ _ (sym after ∙ more) in
    ap length same ∙ length-append rs (c.args.bytes.now ∷ [])
