use Rattle.std.proofs.Common.{◌≡◌, ◌∙◌, ap, length, slice_get}
use Rattle.session_state.specs.Choices.{chosen_of}
use Rattle.session_state.specs.Sessions.{SessionValue, but_for_cursors, sent_at}
use Rattle.session_state.proofs.CursorLemmas.{pass-here, pass-length, pass-looked, pass-others, pass-same}
use Rattle.session_state.proofs.session.Session.move_cursor.Goals as goal

pub returns-clause-same : goal.returns-clause-same
returns-clause-same c = ap but_for_cursors c.count_packets.ensures
    ∙ pass-same c.args.self.now c.put_cursor.new.self c.args.i c.args.cursor c.put_cursor.ensures

pub returns-clause-here : goal.returns-clause-here
returns-clause-here c = λ x at.
    ap (λ (s : SessionValue). slice_get (chosen_of s.mode) c.args.i) c.count_packets.ensures
    ∙ pass-here c.args.self.now c.put_cursor.new.self c.args.i c.args.cursor c.put_cursor.ensures x at

pub returns-clause-others : goal.returns-clause-others
returns-clause-others c = λ j apart.
    ap (λ (s : SessionValue). slice_get (chosen_of s.mode) j) c.count_packets.ensures
    ∙ pass-others c.args.self.now c.put_cursor.new.self c.args.i c.args.cursor c.put_cursor.ensures j apart

pub returns-clause-count : goal.returns-clause-count
returns-clause-count c = ap (λ (s : SessionValue). length (chosen_of s.mode)) c.count_packets.ensures
    ∙ pass-length c.args.self.now c.put_cursor.new.self c.args.i c.args.cursor c.put_cursor.ensures

pub returns-clause-looked : goal.returns-clause-looked
returns-clause-looked c = ap (λ (s : SessionValue). s.looked) c.count_packets.ensures
    ∙ pass-looked c.args.self.now c.put_cursor.new.self c.args.i c.args.cursor c.put_cursor.ensures

pub returns-clause-packets : goal.returns-clause-packets
returns-clause-packets c = ap (λ (s : SessionValue). s.packets) c.count_packets.ensures
    ∙ ap (λ (s : SessionValue). sent_at c.args.i c.args.sent s.packets) c.put_cursor.ensures
