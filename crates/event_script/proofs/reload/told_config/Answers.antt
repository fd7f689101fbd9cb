use Rattle.std.proofs.Common.{sym, ◌∙◌}
use Rattle.event_script.proofs.ReloadRows.{config-made, config-refused, refused-script}
use Rattle.event_script.proofs.reload.told_config.Goals as goal

pub returns-in-Ok-clause-ok : goal.returns-in-Ok-clause-ok
returns-in-Ok-clause-ok c =
    config-made c.args.text.now c.in-Ok.config c.in-Ok.ensures.text c.in-Ok.ensures.ok

pub returns-in-Err-clause-script : goal.returns-in-Err-clause-script
returns-in-Err-clause-script c =
    λ script. config-refused c.args.text.now c.in-Err.fault
    (c.in-Err.ensures.fault (refused-script c.in-Err.fault (sym c.fault_of_text.ensures ∙ script)))
