use Rattle.sl_time.proofs.MomentLemmas.{spelled}
use Rattle.sl_time.proofs.ReadLemmas.{all_read_back, day_read_back, minute_read_back, read_back}
use Rattle.sl_time.proofs.iso.laws.moments_spelled.Goals as goal

pub returns : goal.returns
returns c =
    record {
      written = spelled;
      all_read_back = all_read_back;
      read_back = read_back;
      minute_read_back = minute_read_back;
      day_read_back = day_read_back;
    }
