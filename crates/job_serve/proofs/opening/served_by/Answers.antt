use Rattle.std.proofs.Common.{◌≡◌, ◌∙◌, map, subst, sym}
use Rattle.toml.specs.Parse.{parse_document}
use Rattle.protocol.specs.Catalog.{Config}
use Rattle.catalog.specs.Numbers.{numbered}
use Rattle.number_file.specs.Keeping.{AreKeepable}
use Rattle.number_file.proofs.KeepableLemmas.{read_keepable}
use Rattle.job_serve.proofs.opening.served_by.Goals as goal

pub numbers_at-requires : goal.numbers_at-requires
numbers_at-requires c =
    let read = c.in_ok-read.read in
    subst (λ (config : Config). AreKeepable (map numbered config.entries))
    (sym (c.in_ok-config.ensures ∙ c.config-2.ensures))
    (read_keepable (parse_document read.text) read.config c.in_ok-read.ensures)
