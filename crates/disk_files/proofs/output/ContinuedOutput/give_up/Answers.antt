use Rattle.disk_files.proofs.output.ContinuedOutput.give_up.Goals as goal

pub returns-clause-step : goal.returns-clause-step
returns-clause-step g c = λ s m name distinct at gone. c.give_up.ensures.step s m name distinct at (λ is. gone)
