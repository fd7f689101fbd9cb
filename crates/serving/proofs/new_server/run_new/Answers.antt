use Rattle.protocol.specs.World.{empty_world}
use Rattle.serving.proofs.new_server.run_new.Goals as goal

pub returns-in-Ok-clause-ran : goal.returns-in-Ok-clause-ran
returns-in-Ok-clause-ran g c = λ config stands. record {
  asked_first = g.B.Between.asked c.keep_first.new.between;
  keeps = c.in_ok-keep_first.ensures.kept config stands;
  ran = c.in-Ok.ensures.ran config empty_world stands;
}

pub returns-in-Err-clause-ended : goal.returns-in-Err-clause-ended
returns-in-Err-clause-ended g c = λ is config stands. record {
  asked_first = g.B.Between.asked c.keep_first.new.between;
  keeps = c.in_ok-keep_first.ensures.kept config stands;
  gave_up = c.in-Err.ensures.gave_up config empty_world stands;
}
