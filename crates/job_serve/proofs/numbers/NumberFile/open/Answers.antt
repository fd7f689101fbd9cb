use Rattle.std.proofs.Common.{◌∙◌, ap}
use Rattle.catalog.specs.Numbers.{config_by}
use Rattle.number_file.proofs.TableKeeping.{kept-begun}
use Rattle.job_serve.proofs.numbers.NumberFile.open.Goals as goal

pub of-requires-clause-stations : goal.of-requires-clause-stations
of-requires-clause-stations c =
    kept-begun c.in_ok-first.first.items c.args.config.now c.begin_at.new.self c.in_ok-first.ensures c.requires
    (c.begin_at.ensures ∙ ap (λ kept. config_by kept c.args.config.now) c.as_slice.ensures.value)
