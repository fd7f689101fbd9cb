use Rattle.std.proofs.Common.{List, arith, subst}
use Rattle.continued_files.specs.declared.tail.Entry.{Entry}
use Rattle.continued_files.specs.Indexes.{IsFirst}
use Rattle.continued_files.proofs.TailLemmas.{ended, ended-at}
use Rattle.continued_files.proofs.tail.Tail.find.Goals as goal

pub returns-then-entry-hash-clause-found : goal.returns-then-entry-hash-clause-found
returns-then-entry-hash-clause-found g c = λ rs told index.
    ended-at _ c.args.self.now rs c.args.bytes.now c.hash_of-hash.result c.first_from-first.result c.loop-at.at
    c.index-entry.result.now c.self.view_is c.hash_of-hash.ensures
    (subst (λ (o : List Entry). IsFirst o c.hash_of-hash.result c.first_from-first.result) c.deref.ensures.value
    c.first_from-first.ensures)
    c.self.invariant.0 c.loop-at.auto.at c.index-entry.ensures c.if-entry-hash.true
    (c.loop-at.invariant.others rs told) index

pub returns-clause-found : goal.returns-clause-found
returns-clause-found g c = λ rs told index.
    ended _ c.args.self.now rs c.args.bytes.now c.hash_of-hash.result c.first_from-first.result c.loop-at.at
    c.self.view_is c.hash_of-hash.ensures
    (subst (λ (o : List Entry). IsFirst o c.hash_of-hash.result c.first_from-first.result) c.deref.ensures.value
    c.first_from-first.ensures)
    (omega (arith, c.len-at-end.ensures, c.loop-at-test.false)) (c.loop-at.invariant.others rs told) index
