-- What a reader tells on the standard error of what it meets, and to whom.
use Rattle.std.specs.Prelude.{◌≡◌, ℕ, List, ◌++◌, Option, Some, None}
use Rattle.job_read.specs.declared.notices.Notice.{Notice}
use Rattle.job_read.specs.declared.notices.Notice.TheVariants as notice

-- What is told: a want that a server refuses; two numbers of a station, one right after the other, between which some
-- are missing, and with them time, in ticks if that is known, or none, and how many such lines were left out before;
-- how many records in all have no place in an archive; the number that a station is asked for from, and the one of its
-- first packet, if that is another; and a station of which a packet came that no want names.
pub data NoticeValue : Type 0 where
  Refused : (network station : List ℕ) → NoticeValue
  Gap : (network station : List ℕ) → (last next : ℕ) → (missing : Option ℕ) → (more : ℕ) → NoticeValue
  Renumbered : (network station : List ℕ) → (last next : ℕ) → (more : ℕ) → NoticeValue
  Unplaced : (count : ℕ) → NoticeValue
  OtherBegin : (network station : List ℕ) → (asked first : ℕ) → NoticeValue
  Unasked : (network station : List ℕ) → NoticeValue

abbrev pub notice_value : Notice → NoticeValue
notice_value (notice.Refused network station) = Refused network.now station.now
notice_value (notice.Gap network station last next missing more) =
    Gap network.now station.now last next missing more
notice_value (notice.Renumbered network station last next more) =
    Renumbered network.now station.now last next more
notice_value (notice.Unplaced count) = Unplaced count
notice_value (notice.OtherBegin network station asked first) = OtherBegin network.now station.now asked first
notice_value (notice.Unasked network station) = Unasked network.now station.now

-- What was told is these more, as far as it is known.
abbrev pub Tells : Option (List NoticeValue) → Option (List NoticeValue) → List NoticeValue → Type 0
Tells old None more = Unit {0}
Tells (Some before) (Some after) more = after ≡ before ++ more
Tells None (Some after) more = ⊥
