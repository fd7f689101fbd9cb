use Rattle.std.proofs.Common.{◌∙◌, List, Ok, ap, sym, subst}
use Rattle.record_archive.specs.Archives.{IsUnplaced}
use Rattle.record_archive.specs.Places.{HasPlace, IsKnown, StreamValue}
use Rattle.record_archive.specs.Stations.{CodesValue}
use Rattle.record_archive.proofs.streams.KnownStreams.begin.Goals as goal

pub set-requires-clause-known : goal.set-requires-clause-known
set-requires-clause-known c =
    let known = rw c.in-Some.is at c.in_ok-stream.ensures.known in
    subst (λ (ss : List CodesValue). IsKnown ss c.in-Some.stream) c.as_slice.ensures.value known

pub returns-clause-place : goal.returns-clause-place
returns-clause-place c = λ s e.
    let place = rw c.in-Some.is at c.in_ok-stream.ensures.place in
    let here = subst (λ (ss : List CodesValue).
    HasPlace c.in-Some.stream.year c.in-Some.stream.day ss c.args.header.now c.in-Some.stream.place)
    c.as_slice.ensures.value place in
    subst (λ (t : StreamValue). HasPlace t.year t.day c.args.self.now.stations.items c.args.header.now t.place)
    (sym (e ∙ c.in_ok-at.ensures.there s)) here

pub returns-in_default-clause-none : goal.returns-in_default-clause-none
returns-in_default-clause-none c = λ e.
    subst (λ (ss : List CodesValue). IsUnplaced ss c.args.bytes.now) c.as_slice.ensures.value
    (c.in_ok-stream.ensures.none (ap Ok c.in_default.is))
