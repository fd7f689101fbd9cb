-- Where a failure happened, by its reason: it is not the place's if memory was refused, or an output took no more.
use Rattle.std.specs.Prelude.{ℕ, ◌||◌, if◌then◌else◌, List, Option, Some, None}
use Rattle.std.specs.Borrow.{Bor}
use Rattle.std.specs.declared.io.Error.{Error}
use Rattle.protocol.specs.Reason.{is_memory, is_output}
use Rattle.protocol.specs.declared.reason.Reason.{Reason}
use Rattle.incidents.specs.declared.site.Detail.TheVariants.{System}
use Rattle.incidents.specs.declared.site.Place.{Place}
use Rattle.incidents.specs.declared.site.Place.TheVariants.{Nowhere, File, Word, Address}
use Rattle.incidents.specs.declared.site.Site.{Site}

-- of a job that reads a file
abbrev pub file_place : Reason → Bor (List ℕ) → Place
file_place reason path = if is_memory reason || is_output reason then Nowhere else File path

-- of a word that is read
abbrev pub word_place : Reason → Bor (List ℕ) → Place
word_place reason word = if is_memory reason then Nowhere else Word word

-- of a job that reads from a server
abbrev pub server_place : Reason → Bor (List ℕ) → Place
server_place reason address = if is_memory reason || is_output reason then Nowhere else Address address

-- of a job that reads a file and writes to a server
abbrev pub feed_place : Reason → (path address : Bor (List ℕ)) → Place
feed_place reason path address =
    if is_memory reason then Nowhere else if is_output reason then Address address else File path

-- of a job that reads or writes a file: that file, if the system gave a reason, or else another site
abbrev pub site_by : Bor (List ℕ) → Option Error → Site → Site
site_by path None other = other
site_by path (Some reason) other = record { place = File path; detail = System reason }

-- a site that is known, or else another one
abbrev pub site_or : Option Site → Site → Site
site_or None other = other
site_or (Some site) other = site
