use Rattle.std.proofs.Common.{◌≡◌, ◌++◌, take, flat_map}
use Rattle.status_page.specs.Templates.{section_text}
use Rattle.status_page.proofs.template.put_template.Given as goal

abbrev pub invariant-loop-section : goal.invariant-loop-section
invariant-loop-section l = l.text.items ≡ l.fn.text.items
    ++ flat_map (section_text l.language l.status) (take l.section-index l.template)
