use Rattle.record_archive.proofs.ApartLemmas.{put-apart}
use Rattle.record_archive.proofs.law.are_put_apart.Goals as goal

pub returns : goal.returns
returns c = put-apart
