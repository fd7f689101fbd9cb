-- Laws over the tally: it counts what was written.
use Rattle.std.proofs.Common.{ℕ, List, ap}
use Rattle.std.specs.Prelude.{Option}
use Rattle.slreader.specs.Dialogue.{ReaderValue}
use Rattle.slreader.specs.Tallies.{TallyValue}
use Rattle.reader_run.specs.declared.fault.ListingFault.{ListingFault}
use Rattle.reader_run.specs.Lines.{LineStyle, OutputValue}
use Rattle.reader_run.specs.Rounds.{ListedTo}
use Rattle.reader_run.specs.Whole.{CountsWritten, EndsCounted, StopsCounted}

-- ---- all that came is told

pub counts-listed : (r r1 : ReaderValue) (o o1 : OutputValue)
    (left left1 sent sent1 lines lines1 records records1 : Option (List ℕ)) →
    ListedTo r r1 o o1 left left1 sent sent1 lines lines1 records records1 → CountsWritten r r1.tally records records1
counts-listed r r1 o o1 left left1 sent sent1 lines lines1 records records1 t =
    record { came = t.came; counted = ap (λ (x : ReaderValue). x.tally) t.reader; kept = t.kept }

-- ---- the end

pub counts-ended : (r : ReaderValue) (tally : TallyValue) (style : LineStyle)
    (left left' sent sent' lines lines' records records' : Option (List ℕ)) →
    EndsCounted r tally style left left' sent sent' lines lines' records records'
    → CountsWritten r tally records records'
counts-ended r tally style left left' sent sent' lines lines' records records' h =
    record { came = h.ends.came; counted = h.counted; kept = h.ends.kept }

-- ---- a fault at which all is told

pub counts-stopped : (fault : ListingFault) (r : ReaderValue) (tally : TallyValue) (style : LineStyle)
    (left left' sent sent' lines lines' records records' : Option (List ℕ)) →
    StopsCounted fault r tally style left left' sent sent' lines lines' records records'
    → CountsWritten r tally records records'
counts-stopped fault r tally style left left' sent sent' lines lines' records records' h =
    record { came = h.stops.came; counted = h.counted; kept = h.stops.kept }
