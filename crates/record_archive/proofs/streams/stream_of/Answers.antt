use Rattle.std.proofs.Common.{◌∙◌, sym, subst, ℤ}
use Rattle.std.specs.Prelude.{◌⊎◌, ◌<ℤ◌, ◌≤ℤ◌}
use Rattle.sl_time.specs.Days.{IsWithinDay, day_start}
use Rattle.record_archive.specs.Archives.IsUnplaced.{Undated, Unnamed, Unwanted}
use Rattle.record_archive.specs.Places.{StreamValue}
use Rattle.record_archive.proofs.PlaceLemmas.{IsBegun, begun-known}
use Rattle.record_archive.proofs.streams.stream_of.Goals as goal

pub returns-then-not-has_place-clause-none : goal.returns-then-not-has_place-clause-none
returns-then-not-has_place-clause-none c = λ e.
    Unnamed c.args.header.now (c.requires) (sym c.has_place.ensures ∙ c.if-not-has_place.true)

pub returns-then-not-is_wanted-clause-none : goal.returns-then-not-is_wanted-clause-none
returns-then-not-is_wanted-clause-none c = λ e.
    Unwanted c.args.header.now (c.requires) (sym c.is_wanted.ensures ∙ c.if-not-is_wanted.true)

pub returns-in_default-clause-none : goal.returns-in_default-clause-none
returns-in_default-clause-none c = λ e.
    Undated c.args.header.now (c.requires)
    (subst (λ (z : ℤ). (z <ℤ day_start 1 1) ⊎ (day_start 10000 1 ≤ℤ z)) c.start.ensures
    (c.day_of.ensures.outside c.in_default.is))

-- the stream that is begun
abbrev stream : (c : goal.In_ok-place_in) → StreamValue
stream c =
    record {
      codes = c.codes_of-codes.result.now;
      kind = c.kind-2.result;
      from = c.span_of.result.from;
      before = c.span_of.result.before;
      year = c.in-Some.day.year;
      day = c.in-Some.day.day;
      place = c.in_ok-place_in.field-0;
    }

is-begun : (c : goal.In_ok-place_in) → IsBegun c.args.stations.now c.args.bytes.now c.args.header.now (stream c)
is-begun c =
    record {
      read = c.requires;
      codes = c.codes_of-codes.ensures;
      kind = c.kind-2.ensures;
      place = record {
        placed = sym c.has_place.ensures ∙ c.if-not-has_place.false;
        wanted = sym c.is_wanted.ensures ∙ c.if-not-is_wanted.false;
        inside = subst (IsWithinDay c.in-Some.day.year c.in-Some.day.day) c.start.ensures c.in-Some.ensures.day;
        folder = c.in_ok-place_in.ensures.folder;
        file = c.in_ok-place_in.ensures.file;
      };
      from = c.span_of.ensures.from;
      before = c.span_of.ensures.before;
    }

pub returns-clause-known : goal.returns-clause-known
returns-clause-known c = begun-known c.args.stations.now c.args.bytes.now c.args.header.now (stream c) (is-begun c)
