-- What the check of a file of records writes: a line a record, one for what is left over, and one for each stream.
-- SEED Reference Manual 2.4, chapter 8, for what a record says; the lines are this project's own.
use Rattle.std.specs.Prelude.{ℕ, ℤ, ◌+◌, ◌-◌, ◌^◌, ◌==◌, Bool, ◌||◌, if◌then◌else◌, List, [], ◌∷◌, ◌++◌, length}
use Rattle.std.specs.Prelude.{codes, decimal, map, min, Option, Some, None, Result, Ok, Err}
use Rattle.protocol.specs.declared.record.RecordFault.{RecordFault}
use Rattle.protocol.specs.declared.reason.Reason.{Reason}
use Rattle.protocol.specs.declared.reason.Reason.TheVariants as reason
use Rattle.protocol.specs.Reason.{name_of, number_of}
use Rattle.protocol.specs.Record.{Facts, header_of, record_reason}
use Rattle.protocol.specs.Streams.{feed_of}
use Rattle.std.specs.Io.KnownBytes.{Appends}
use Rattle.sl_io.specs.Known.{AppendsBeginning}
use Rattle.record_check.specs.declared.fault.FileFault.{FileFault}
use Rattle.record_check.specs.declared.fault.FileFault.TheVariants.{Record, Station, Partial}
use Rattle.record_check.specs.declared.listing.Refused.{Refused}
use Rattle.record_check.specs.declared.listing.Refused.TheVariants.{Unread, Stranger}
use Rattle.record_check.specs.declared.options.ListingOptions.{ListingOptions}
use Rattle.record_check.specs.declared.options.Times.{Times}
pub use Rattle.record_check.specs.Words.{kind_letter}
use Rattle.record_check.specs.Words.{duration_text, shown_byte, stream_text, time_text, word_text}
use Rattle.record_check.specs.Streams.{SeamCountValue, StreamValue, seam_count, seams_of, streams_with}
use Rattle.record_check.specs.Streams.{AreInOrder, ticks_after}
use Rattle.record_check.specs.declared.runs.Seam.{Seam}
use Rattle.record_check.specs.declared.runs.Seam.TheVariants.{Even, Gap, Overlap, Twice}

-- ---- what is asked

-- what a check lists, and of which stations a file may have records
pub record Rules : Type 0 where
  pub options : ListingOptions
  pub has_station : List ℕ → List ℕ → Bool

abbrev pub rules : ListingOptions → (List ℕ → List ℕ → Bool) → Rules
rules options has_station = record { options = options; has_station = has_station }

-- ---- the line of a record

-- type, start, end and count of samples
abbrev pub extent_text : Times → Facts → List ℕ
extent_text times x =
    word_text (kind_letter x.kind ∷ []) ++ word_text (time_text times x.start) ++ word_text (time_text times x.stop)
    ++ decimal x.samples

-- network, station, location, channel, and all of that
abbrev pub header_text : Times → Facts → List ℕ
header_text times x = stream_text x.network x.station x.location x.channel ++ extent_text times x

-- what the program tells of what is wrong with a file
abbrev pub file_reason : FileFault → Reason
file_reason (Record fault) = record_reason fault
file_reason Station = reason.UnknownStation
file_reason Partial = reason.Partial

-- why a record is refused
abbrev pub refusal_text : FileFault → List ℕ
refusal_text fault =
    codes "refused " ++ word_text (decimal (number_of (file_reason fault))) ++ name_of (file_reason fault)

-- what is wrong with a record that is refused
abbrev pub fault_of : Refused → FileFault
fault_of (Unread fault) = Record fault
fault_of (Stranger x) = Station

-- a space, and the codes of the station of which a record is refused
abbrev pub stranger_text : Facts → List ℕ
stranger_text x = 32 ∷ word_text (map shown_byte x.network) ++ map shown_byte x.station

-- why a record is refused, and of which station it is if that is why
abbrev pub refused_text : Refused → List ℕ
refused_text (Unread fault) = refusal_text (Record fault)
refused_text (Stranger x) = refusal_text Station ++ stranger_text x

-- what a record says, or why it is refused
abbrev pub record_text : Times → Result Facts Refused → List ℕ
record_text times (Ok x) = header_text times x
record_text times (Err refused) = refused_text refused

-- what 512 bytes are read as
unfoldable pub reading_of : List ℕ → Result Facts RecordFault
reading_of record_bytes = header_of record_bytes

-- a record that is read is refused if its station is not one of those that a file may have records of
abbrev pub judged : (List ℕ → List ℕ → Bool) → Result Facts RecordFault → Result Facts Refused
judged has_station (Ok x) = if has_station x.network x.station then Ok x else Err (Stranger x)
judged has_station (Err fault) = Err (Unread fault)

-- what 512 bytes are to a check
abbrev pub said_of : Rules → List ℕ → Result Facts Refused
said_of r record_bytes = judged r.has_station (reading_of record_bytes)

-- the line of the record with that number, and its end
abbrev pub record_line : ListingOptions → ℕ → Result Facts Refused → List ℕ
record_line options number said =
    if options.has_lines then word_text (decimal number) ++ record_text options.times said ++ 10 ∷ [] else []

-- the number after that of a record; none is above 2^128 - 1
abbrev pub number_after : ℕ → ℕ
number_after number = min (number + 1) (2 ^ 128 - 1)

-- how many records are listed, after so many, with these
abbrev pub count_after : ℕ → List (List ℕ) → ℕ
count_after count [] = count
count_after count (bytes ∷ records) = count_after (number_after count) records

-- ---- the lines of gaps and overlaps

-- a stream, from when to when, how long that is, and the line's end
abbrev pub span_text : Times → StreamValue → (from to : ℤ) → List ℕ
span_text times s from to =
    stream_text s.network s.station s.location s.channel ++ (word_text (kind_letter s.kind ∷ [])
    ++ (word_text (time_text times from) ++ (word_text (time_text times to)
    ++ (duration_text times (ticks_after from to) ++ 10 ∷ []))))

-- the line of what lies between runs of a stream
abbrev pub seam_text : Times → StreamValue → Seam → List ℕ
seam_text times s Even = []
seam_text times s (Gap from to) = codes "gap " ++ span_text times s from to
seam_text times s (Overlap from to) = codes "overlap " ++ span_text times s from to
seam_text times s (Twice from to) = codes "twice " ++ span_text times s from to

abbrev pub seam_lines : Times → StreamValue → List Seam → List ℕ
seam_lines times s [] = []
seam_lines times s (seam ∷ seams) = seam_text times s seam ++ seam_lines times s seams

-- those of a stream, whose runs are in order
abbrev pub gap_lines : Times → StreamValue → List ℕ
gap_lines times s = seam_lines times s (seams_of s.runs)

-- those of streams
abbrev pub all_gap_lines : Times → List StreamValue → List ℕ
all_gap_lines times [] = []
all_gap_lines times (s ∷ streams) = gap_lines times s ++ all_gap_lines times streams

-- the same, if they are asked for
abbrev pub gaps_text : ListingOptions → List StreamValue → List ℕ
gaps_text options streams = if options.has_gaps then all_gap_lines options.times streams else []

-- ---- the lines of streams

-- Streams are noted: they or their gaps are asked for.
abbrev pub has_streams : ListingOptions → Bool
has_streams options = options.has_summary || options.has_gaps

-- the streams with a record, if it is read and they are noted
abbrev pub streams_said : List StreamValue → Result Facts Refused → List StreamValue
streams_said streams (Ok x) = streams_with streams x
streams_said streams (Err fault) = streams

abbrev pub streams_after : ListingOptions → List StreamValue → Result Facts Refused → List StreamValue
streams_after options streams said = if has_streams options then streams_said streams said else streams

-- the streams of records, after others
abbrev pub streams_from : Rules → List StreamValue → List (List ℕ) → List StreamValue
streams_from r streams [] = streams
streams_from r streams (bytes ∷ records) =
    streams_from r (streams_after r.options streams (said_of r bytes)) records

-- how many gaps and overlaps
abbrev pub count_text : SeamCountValue → List ℕ
count_text c = word_text (decimal c.gaps) ++ decimal c.overlaps

-- a stream's type, how many records it has, its earliest start and latest end, and how many gaps and overlaps its runs
-- have, which are in order
abbrev pub summary_text : Times → StreamValue → List ℕ
summary_text times s =
    word_text (kind_letter s.kind ∷ []) ++ word_text (decimal s.records) ++ word_text (time_text times s.first)
    ++ word_text (time_text times s.last) ++ count_text (seam_count s.runs)

-- the line of a stream, and its end
abbrev pub stream_line : Times → StreamValue → List ℕ
stream_line times s =
    stream_text s.network s.station s.location s.channel ++ (summary_text times s ++ 10 ∷ [])

abbrev pub stream_lines : Times → List StreamValue → List ℕ
stream_lines times [] = []
stream_lines times (s ∷ streams) = stream_line times s ++ stream_lines times streams

-- the same, if they are asked for
abbrev pub summaries_text : ListingOptions → List StreamValue → List ℕ
summaries_text options streams = if options.has_summary then stream_lines options.times streams else []

-- those of the streams of a list of files, in order: of gaps and overlaps, and of streams
abbrev pub streams_text : ListingOptions → List StreamValue → List ℕ
streams_text options streams = gaps_text options streams ++ summaries_text options streams

-- ---- the lines of records

-- the lines of records, which come after so many others
abbrev pub lines_from : Rules → (count : ℕ) → List (List ℕ) → List ℕ
lines_from r count [] = []
lines_from r count (bytes ∷ records) =
    record_line r.options (number_after count) (said_of r bytes) ++ lines_from r (number_after count) records

-- ---- the whole

-- the line of the bytes that are left over, where there are some
abbrev pub partial_text : ℕ → List ℕ
partial_text count = if count == 0 then [] else codes "partial " ++ word_text (decimal count) ++ codes "bytes" ++ 10
    ∷ []

abbrev pub partial_line : ListingOptions → ℕ → List ℕ
partial_line options count = if options.has_lines then partial_text count else []

-- what is known between two files: how many records are listed, and the streams so far
pub record Listed : Type 0 where
  pub count : ℕ
  pub streams : List StreamValue

-- nothing is listed
abbrev pub nothing_listed : Listed
nothing_listed = record { count = 0; streams = [] }

-- with the records of one file more
abbrev pub listed_after : Rules → Listed → List ℕ → Listed
listed_after r l bytes =
    record {
      count = count_after l.count (feed_of bytes).records;
      streams = streams_from r l.streams (feed_of bytes).records;
    }

-- the lines of a file: those of its records, and of what is left over
abbrev pub file_text : Rules → Listed → List ℕ → List ℕ
file_text r l bytes =
    lines_from r l.count (feed_of bytes).records ++ partial_line r.options (length (feed_of bytes).rest)

-- The listing of the bytes of one file was written: its lines, and those of its streams, in order.
pub record WritesListing (r : Rules) (bytes : List ℕ) (written written' : Option (List ℕ)) : Type 0 where
  pub streams : List StreamValue
  pub in_order : AreInOrder (listed_after r nothing_listed bytes).streams streams
  pub text : Appends written written' (file_text r nothing_listed bytes ++ streams_text r.options streams)

-- A beginning of it was written.
pub data BeginsListing (r : Rules) (bytes : List ℕ) (written written' : Option (List ℕ)) : Type 0 where
  InFile : AppendsBeginning written written' (file_text r nothing_listed bytes) → BeginsListing r bytes written written'
  InStreams : (streams : List StreamValue) → AreInOrder (listed_after r nothing_listed bytes).streams streams
      → AppendsBeginning written written' (file_text r nothing_listed bytes ++ streams_text r.options streams)
      → BeginsListing r bytes written written'

-- ---- the verdict

-- why a record is refused
abbrev pub refusal : Result Facts Refused → Option FileFault
refusal (Ok x) = None
refusal (Err refused) = Some (fault_of refused)

-- the first of two that is there
abbrev pub first_of : Option FileFault → Option FileFault → Option FileFault
first_of None second = second
first_of (Some first) second = Some first

-- why the first record that is refused is refused
abbrev pub first_fault : Rules → List (List ℕ) → Option FileFault
first_fault r [] = None
first_fault r (bytes ∷ records) = first_of (refusal (said_of r bytes)) (first_fault r records)

-- what is wrong with a file, by why its first refused record is refused and how many bytes are left over
abbrev pub verdict_by : Option FileFault → ℕ → Option FileFault
verdict_by (Some fault) rest = Some fault
verdict_by None rest = if rest == 0 then None else Some Partial

-- what is wrong with a file of those bytes
abbrev pub verdict_of : Rules → List ℕ → Option FileFault
verdict_of r bytes = verdict_by (first_fault r (feed_of bytes).records) (length (feed_of bytes).rest)
