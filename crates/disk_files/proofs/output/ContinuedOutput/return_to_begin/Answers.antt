use Rattle.disk_files.proofs.output.ContinuedOutput.return_to_begin.Goals as goal

pub returns-clause-step : goal.returns-clause-step
returns-clause-step g c = λ m name comes at. c.return_to_begin.ensures.step.here m name comes (c.each.ensures name) at
