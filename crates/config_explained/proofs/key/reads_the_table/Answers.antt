use Rattle.config_explained.proofs.KeyLemmas.{reads}
use Rattle.config_explained.proofs.key.reads_the_table.Goals as goal

pub returns : goal.returns
returns c = reads
