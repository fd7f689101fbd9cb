use Rattle.std.proofs.Common.{◌∙◌, ap, sym, refl, List, Some, length, option_map, string_bytes}
use Rattle.std.proofs.lemmas.Option.{slice_get_read}
use Rattle.std.proofs.lemmas.Slice.Eq.{bytes_eq-Decides}
use Rattle.disk_files.specs.declared.open_files.NamedFile.{NamedFile}
use Rattle.disk_files.specs.Opened.{name_at}
use Rattle.disk_files.proofs.open_files.OpenFiles.is_at.Goals as goal

pub returns-in-Some-clause-named : goal.returns-in-Some-clause-named
returns-in-Some-clause-named c is =
    let files = c.deref.result.now in
    let at = c.in-Some.ensures.lookup in
    let found = slice_get_read files (length files) c.args.place c.in-Some.open.now refl at.3.0 at.1 in
    let same = (bytes_eq-Decides c.as_str.result.now c.args.name.now).0 (sym c.eq.ensures ∙ is) in
    ap (λ (l : List NamedFile). name_at l c.args.place) (sym c.deref.ensures.value)
    ∙ ap (option_map (λ (f : NamedFile). string_bytes f.name)) found
    ∙ ap Some (sym c.as_str.ensures.value ∙ same)
