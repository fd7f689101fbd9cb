use Rattle.number_file.proofs.KeepableLemmas.{read_keepable, text_keepable}
use Rattle.std.proofs.Common.{refl}
use Rattle.catalog.specs.Numbers.{config_by}
use Rattle.number_file.proofs.TableKeeping.{kept-begun}
use Rattle.number_file.proofs.laws.what_is_read_can_be_kept.Goals as goal

pub returns : goal.returns
returns c = record {
  stations = read_keepable;
  numbers = text_keepable;
  begun = λ kept config all h. kept-begun kept config (config_by kept config) all h refl;
}
