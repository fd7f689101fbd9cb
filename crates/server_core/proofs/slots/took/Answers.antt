use Rattle.server_core.proofs.slots.took.Goals as goal

pub returns-clause-client : goal.returns-clause-client
returns-clause-client c = λ h holds. c.proceed.ensures.client h holds _ (c.took-settled.ensures.client h)
