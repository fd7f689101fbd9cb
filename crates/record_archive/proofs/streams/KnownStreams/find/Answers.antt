use Rattle.std.proofs.Common.{◌≡◌, ◌∙◌, sym, subst}
use Rattle.std.proofs.lemmas.List.{get_or_default}
use Rattle.record_archive.specs.Places.{IsKnown, IsOfStream, StreamValue}
use Rattle.record_archive.proofs.streams.KnownStreams.find.Goals as goal

pub returns-in-Ok-clause-place : goal.returns-in-Ok-clause-place
returns-in-Ok-clause-place c = λ s e.
    let all = c.args.self.now.all.items in
    let at = c.in-Ok.at in
    let found = c.index.result.now in
    let is : s ≡ found =
    e ∙ get_or_default all at s found c.in-Ok.ensures.found ∙ sym c.index.ensures in
    let of : IsOfStream c.args.bytes.now c.args.header.now s =
    subst (λ (t : StreamValue). IsOfStream c.args.bytes.now c.args.header.now t) (sym is)
    (c.has.ensures c.if-has.true) in
    let known : IsKnown c.args.self.now.stations.items s =
    subst (λ (t : StreamValue). IsKnown c.args.self.now.stations.items t) (sym e)
    (c.args.self.now.known at s c.in-Ok.ensures.found) in
    known c.args.bytes.now c.args.header.now c.requires.read of

pub returns-in-Some-clause-place : goal.returns-in-Some-clause-place
returns-in-Some-clause-place c = λ s e.
    let known : IsKnown c.args.self.now.stations.items s =
    subst (λ (t : StreamValue). IsKnown c.args.self.now.stations.items t) (sym e)
    (c.args.self.now.known c.in-Some.at s c.in-Some.ensures.within) in
    known c.args.bytes.now c.args.header.now c.requires.read (c.in-Some.ensures.stream s e)
