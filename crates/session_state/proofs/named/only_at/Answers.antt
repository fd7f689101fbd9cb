use Rattle.std.proofs.Common.{◌<◌, ◌∙◌, ap, arith, length, sym}
use Rattle.std.proofs.lemmas.Option.{slice_get_within}
use Rattle.session_state.specs.declared.choices.Entry.{Entry}
use Rattle.session_state.proofs.EntryLemmas.{none-there, only-there, read-at, read-same}
use Rattle.session_state.proofs.named.only_at.Goals as goal

pub returns-then-i-entries : goal.returns-then-i-entries
returns-then-i-entries c = record {
  value = none-there c.args.entries.now c.args.place c.args.i c.requires
      (λ x at same. let within : c.args.i < length c.args.entries.now =
      slice_get_within c.args.entries.now c.args.i x at in absurd (omega (arith, within, c.if-i-entries.true)));
  only = tt;
}

pub returns-then-entry-place : goal.returns-then-entry-place
returns-then-entry-place c =
    let at = read-at c.args.entries.now c.args.i c.index-entries-i.result c.if-i-entries.false c.index-entries-i.is in
    record {
      value = only-there c.args.entries.now c.args.place c.args.i c.index-entries-i.result at c.if-entry-place.true
          c.requires;
      only = record {
        entry = c.index-entries-i.result;
        at = at;
        there = c.if-entry-place.true;
        only = c.requires;
      };
    }

pub returns-else-entry-place : goal.returns-else-entry-place
returns-else-entry-place c = record {
  value = none-there c.args.entries.now c.args.place c.args.i c.requires
      (λ x at same. c.if-entry-place.false
      (sym
      (ap (λ (y : Entry). y.station)
      (read-same c.args.entries.now c.args.i c.index-entries-i.result x c.if-i-entries.false c.index-entries-i.is at))
      ∙ same));
  only = tt;
}
