use Rattle.protocol.proofs.Connections.{slice_get-at_same, slice_get-at_apart, length-at, at_past_the_end}
use Rattle.protocol.proofs.Connections.{none_past_the_end, slice_get-push_last, slice_get-push_apart, slice_get-each}
use Rattle.protocol.proofs.Connections.{length-each}
use Rattle.protocol.proofs.connections_numbered.Goals as goal

pub returns : goal.returns
returns c = record {
  here = slice_get-at_same;
  others = slice_get-at_apart;
  count = length-at;
  past_the_end = at_past_the_end;
  nobody = none_past_the_end;
  pushed = slice_get-push_last;
  before_pushed = slice_get-push_apart;
  each = slice_get-each;
  each_count = length-each;
}
