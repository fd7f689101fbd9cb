-- What an archive of some stations holds of records: each record that has a place is put into its file, in order.
use Rattle.std.specs.Prelude.{◌≡◌, ◌⊎◌, ℕ, ◌+◌, ◌-◌, ◌^◌, ◌<ℤ◌, ◌≤ℤ◌, min, List, [], ◌∷◌, ◌++◌}
use Rattle.std.specs.Prelude.{Ok, Err, Result, true, false, Option, Some}
use Rattle.protocol.specs.Record.{Facts, header_of}
use Rattle.protocol.specs.declared.record.RecordFault.{RecordFault}
use Rattle.sl_time.specs.Days.{IsWithinDay, day_start}
use Rattle.sl_io.specs.Counts.{IsMore}
use Rattle.record_archive.specs.Paths.{has_place, folder_text, file_text}
use Rattle.record_archive.specs.Stations.{CodesValue, is_wanted}
use Rattle.record_archive.specs.declared.placing.ArchiveFault.{ArchiveFault}
use Rattle.record_archive.specs.declared.placing.ArchiveFault.TheVariants.{Folder, OutOfMemory}

-- a record that was put at the end of a file, which is in a folder
pub record Put : Type 0 where
  pub folder : List ℕ
  pub file : List ℕ
  pub bytes : List ℕ

-- the path of the file: its folder, `/`, and its name
abbrev pub path_of : Put → List ℕ
path_of p = p.folder ++ 47 ∷ p.file

-- The record is put into the file of its stream and of the day in which it starts.
pub record IsPut (stations : List CodesValue) (r : List ℕ) (p : Put) : Type 0 where
  pub facts : Facts
  pub year : ℕ
  pub day : ℕ
  pub read : header_of r ≡ Ok facts
  pub placed : has_place facts ≡ true
  pub wanted : is_wanted stations facts ≡ true
  pub inside : IsWithinDay year day facts.start
  pub folder : p.folder ≡ folder_text year facts
  pub file : p.file ≡ file_text year day facts
  pub bytes : p.bytes ≡ r

-- The record is not valid, or its codes name no place, or it is of another station, or it starts before the year 1 or
-- after the year 9999 (no valid record does).
pub data IsUnplaced (stations : List CodesValue) (r : List ℕ) : Type 0 where
  Invalid : (fault : RecordFault) → header_of r ≡ Err fault → IsUnplaced stations r
  Unnamed : (facts : Facts) → header_of r ≡ Ok facts → has_place facts ≡ false → IsUnplaced stations r
  Unwanted : (facts : Facts) → header_of r ≡ Ok facts → is_wanted stations facts ≡ false → IsUnplaced stations r
  Undated : (facts : Facts) → header_of r ≡ Ok facts
      → (facts.start <ℤ day_start 1 1) ⊎ (day_start 10000 1 ≤ℤ facts.start) → IsUnplaced stations r

-- A record is put into some file.
abbrev pub IsPlaced : List CodesValue → List ℕ → Type 0
IsPlaced stations r = (p : Put) × IsPut stations r p

-- These are put of those records, in order.
pub data ArePut (stations : List CodesValue) : List (List ℕ) → List Put → Type 0 where
  None_put : ArePut stations [] []
  One_put : {rs : List (List ℕ)} {ps : List Put} {r : List ℕ} {p : Put}
      → ArePut stations rs ps → IsPut stations r p → ArePut stations (rs ++ r ∷ []) (ps ++ p ∷ [])
  One_unplaced : {rs : List (List ℕ)} {ps : List Put} {r : List ℕ}
      → ArePut stations rs ps → IsUnplaced stations r → ArePut stations (rs ++ r ∷ []) ps

-- The record is put into its file, of which more is known, or it has none.
abbrev pub Places : List CodesValue → (Put → Type 0) → List ℕ → Type 0
Places stations Stands r = ((p : Put) × IsPut stations r p × Stands p) ⊎ IsUnplaced stations r

-- Folders that tell what is put into them tell one more.
abbrev pub PutsOne : Option (List Put) → Option (List Put) → Put → Type 0
PutsOne old new p = (ps : List Put) → old ≡ Some ps → new ≡ Some (ps ++ p ∷ [])

-- An archive that holds what is put of some records holds it of these more.
abbrev pub HoldsMore : List CodesValue → Option (List Put) → Option (List Put) → List (List ℕ) → Type 0
HoldsMore stations old new more = (rs : List (List ℕ)) (ps : List Put) → old ≡ Some ps → ArePut stations rs ps →
    (qs : List Put) × (new ≡ Some qs) × ArePut stations (rs ++ more) qs

-- The folders failed once more exactly if that is the fault.
abbrev pub Fails : {A : Type 0} → (before after : ℕ) → Result A ArchiveFault → Type 0
Fails before after (Ok a) = after ≡ before
Fails before after (Err Folder) = IsMore before after 1
Fails before after (Err OutOfMemory) = after ≡ before

-- A record counts exactly if it stands in no file, up to 2^64 - 1.
abbrev pub CountsUnplaced : List CodesValue → (before after : ℕ) → List ℕ → Type 0
CountsUnplaced stations before after r = (IsPlaced stations r × (after ≡ before))
    ⊎ (IsUnplaced stations r × (after ≡ min (before + 1) (2 ^ 64 - 1)))

-- Nothing was put.
abbrev pub PutsNothing : Option (List Put) → Option (List Put) → Type 0
PutsNothing old new = new ≡ old
