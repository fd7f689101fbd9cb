use Rattle.slreader.proofs.PartLaws.{given_law, so_far_law, no_dialogue_law, bad_reply_law, not_a_packet_law}
use Rattle.slreader.proofs.PartLaws.{all_refused_law, asked_law}
use Rattle.slreader.proofs.laws.dialogue_decided.Goals as goal

pub returns : goal.returns
returns c = record {
  given = given_law;
  given_so_far = so_far_law;
  no_dialogue = no_dialogue_law;
  bad_reply = bad_reply_law;
  not_a_packet = not_a_packet_law;
  asked = asked_law;
  all_refused = all_refused_law;
}
