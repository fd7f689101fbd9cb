use Rattle.std.proofs.Common.{◌≡◌, drop}
use Rattle.status_page.specs.Hosts.{foreign_in}
use Rattle.status_page.proofs.host.is_any_foreign.Given as goal

abbrev pub invariant-loop-field : goal.invariant-loop-field
invariant-loop-field l =
    foreign_in l.name l.bytes l.fields ≡ foreign_in l.name l.bytes (drop l.field-index l.fields)
