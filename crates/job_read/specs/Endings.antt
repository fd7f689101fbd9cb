-- Why a reading over connections ends, and whether another one is made.
use Rattle.std.specs.Prelude.{ℕ, ◌&&◌, ◌||◌, not, nat_lt, Bool, true, false}
use Rattle.protocol.specs.declared.reason.Reason.{Reason}
use Rattle.protocol.specs.declared.reason.Reason.TheVariants.{AllRefused, BadReply, Connect, NotAPacket, Read}
use Rattle.reader_run.specs.Faults.{listing_reason}
use Rattle.reader_run.specs.declared.fault.ListingFault.{ListingFault}
use Rattle.reader_run.specs.declared.fault.ListingFault.TheVariants as listing
use Rattle.job_read.specs.Places.{is_last_place}
use Rattle.job_read.specs.declared.endings.TransferFault.{TransferFault}
use Rattle.job_read.specs.declared.endings.TransferFault.TheVariants.{Listing, Silent, Unanswered}

-- what the program tells of it
abbrev pub transfer_reason : TransferFault → Reason
transfer_reason Unanswered = Read
transfer_reason Silent = Read
transfer_reason (Listing fault) = listing_reason fault

-- The connection ended before the end of the transfer, by whether its server was silent for too long, and whether HELLO
-- was answered.
abbrev pub lost : (is_silent is_answered : Bool) → TransferFault
lost true is_answered = Silent
lost false true = Listing listing.Read
lost false false = Unanswered

-- why packets were not listed to the end
abbrev pub unlisted : ListingFault → (is_answered is_silent : Bool) → TransferFault
unlisted listing.Read is_answered is_silent = lost is_silent is_answered
unlisted fault is_answered is_silent = Listing fault

-- Another connection may mend it: none could be made, or it ended before the end of the transfer.
abbrev pub is_mendable : Reason → Bool
is_mendable Connect = true
is_mendable Read = true
is_mendable reason = false

-- Another server may mend it: this one answers what a SeedLink server never does, or refuses all that is asked.
abbrev pub is_wrong : Reason → Bool
is_wrong NotAPacket = true
is_wrong BadReply = true
is_wrong AllRefused = true
is_wrong reason = false

-- Of so many servers the next one is asked after it, or the first one again.
abbrev pub goes_on : Reason → (place count : ℕ) → (is_retried : Bool) → Bool
goes_on reason place count is_retried =
    (is_mendable reason || (is_wrong reason && nat_lt 1 count))
    && (is_retried || not (is_last_place place count))
