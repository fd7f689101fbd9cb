-- What is told, one thing after another.
use Rattle.std.proofs.Common.{◌≡◌, List, [], Some, None, sym, append-nil}
use Rattle.std.specs.Prelude.{Option}
use Rattle.job_read.specs.Notices.{NoticeValue, Tells}

-- Nothing is told.
pub tells_nothing : (a : Option (List NoticeValue)) → Tells a a []
tells_nothing None = tt
tells_nothing (Some ds) = sym (append-nil ds)
