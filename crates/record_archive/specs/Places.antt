-- Into which file a record of some stations is put, and streams of which that is known.
use Rattle.std.specs.Prelude.{◌≡◌, ℕ, ℤ, ◌≤ℤ◌, ◌<ℤ◌, ◌∷◌, ◌++◌, true, List, Ok, slice_range}
use Rattle.protocol.specs.Record.{Facts, header_of}
use Rattle.protocol.specs.declared.record.Kind.{Kind}
use Rattle.sl_time.specs.Days.{IsWithinDay}
use Rattle.record_archive.specs.Paths.{has_place, folder_text, file_text}
use Rattle.record_archive.specs.Stations.{CodesValue, is_wanted}

-- a file in a folder
pub record PlaceValue : Type 0 where
  pub folder : List ℕ
  pub file : List ℕ

-- its path: the folder, `/`, and the file
abbrev pub path_text : PlaceValue → List ℕ
path_text p = p.folder ++ 47 ∷ p.file

-- A record that says this, which starts in that day, is put into the file.
pub record HasPlace (year day : ℕ) (stations : List CodesValue) (x : Facts) (p : PlaceValue) : Type 0 where
  pub placed : has_place x ≡ true
  pub wanted : is_wanted stations x ≡ true
  pub inside : IsWithinDay year day x.start
  pub folder : p.folder ≡ folder_text year x
  pub file : p.file ≡ file_text year day x

-- the codes of a record, as they stand in it
abbrev pub codes_in : List ℕ → List ℕ
codes_in r = slice_range r 8 20

-- records with these codes and that type that start within some time of a day, and the file into which they are put
pub record StreamValue : Type 0 where
  pub codes : List ℕ
  pub kind : Kind
  pub from : ℤ
  pub before : ℤ
  pub year : ℕ
  pub day : ℕ
  pub place : PlaceValue

-- A record, which says this, is one of them.
pub record IsOfStream (r : List ℕ) (x : Facts) (s : StreamValue) : Type 0 where
  pub codes : codes_in r ≡ s.codes
  pub kind : x.kind ≡ s.kind
  pub from : s.from ≤ℤ x.start
  pub before : x.start <ℤ s.before

-- All of them are put there.
abbrev pub IsKnown : List CodesValue → StreamValue → Type 0
IsKnown stations s =
    (r : List ℕ) (x : Facts) → header_of r ≡ Ok x → IsOfStream r x s → HasPlace s.year s.day stations x s.place
