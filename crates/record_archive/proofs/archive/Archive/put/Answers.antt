use Rattle.std.proofs.Common.{Ok, ap, inl, inr, refl}
use Rattle.record_archive.proofs.archive.Archive.put.Goals as goal

pub returns-in-InFile-clause-counted : goal.returns-in-InFile-clause-counted
returns-in-InFile-clause-counted g c = inl (c.in_ok-put_record.ensures.placed (ap Ok c.in-InFile.is), refl)

pub returns-in-Unplaced-clause-counted : goal.returns-in-Unplaced-clause-counted
returns-in-Unplaced-clause-counted g c =
    inr (
      c.in_ok-put_record.ensures.unplaced (ap Ok c.in-Unplaced.is),
      c.saturating_add-self.ensures,
    )
