-- Records of one stream that start in one day are put into one file.
use Rattle.std.proofs.Common.{◌≡◌, ◌∙◌, ℕ, ℤ, ◌+◌, List, [], ◌∷◌, Bool, true, false, ap, refl, sym, subst, arith}
use Rattle.std.proofs.Common.{drop, take}
use Rattle.std.specs.Prelude.{All, Err, None, Ok, Option, Result, Some, if◌then◌else◌, insert, slice_index}
use Rattle.std.specs.Prelude.{slice_range, ◌==◌, ◌≤ℤ◌}
use Rattle.std.specs.List.{list_all}
use Rattle.std.proofs.lemmas.List.{drop-drop, drop-take, take-take}
use Rattle.std.proofs.lemmas.List.Elements.{All-append, All-cons, All-drop, All-take}
use Rattle.std.proofs.lemmas.Int.{by_lt_z}
use Rattle.std.specs.Int.Signed.{<ℤ-≤ℤ_trans, clash_ℤ}
use Rattle.protocol.specs.declared.record.ByteOrder.{ByteOrder}
use Rattle.protocol.specs.declared.record.RecordFault.{RecordFault}
use Rattle.protocol.specs.declared.record.RecordFault.TheVariants.{Sequence, Quality, Time, Length}
use Rattle.protocol.specs.Record.{Facts, chain_of, facts_in, first_of_type, has_time, header_of, is_quality}
use Rattle.protocol.specs.Record.{is_sequence_byte, order_of, read_chain, read_in, read_length, trimmed}
use Rattle.sl_time.specs.Days.{day_start}
use Rattle.record_archive.specs.Paths.{file_text, folder_text, has_place}
use Rattle.record_archive.specs.Places.{HasPlace, IsKnown, StreamValue, codes_in}
use Rattle.record_archive.specs.Stations.{CodesValue, is_of, is_wanted}

-- ---- the codes of a record

-- what a valid record says of its codes
record IsCoded (r : List ℕ) (x : Facts) : Type 0 where
  network : x.network ≡ trimmed (slice_range r 18 20)
  station : x.station ≡ trimmed (slice_range r 8 13)
  location : x.location ≡ slice_range r 13 15
  channel : x.channel ≡ slice_range r 15 18

coded-facts : (o : ByteOrder) (r offsets : List ℕ) (x : Facts)
    → ◌≡◌ {A = Result Facts RecordFault} (Ok (facts_in o r offsets)) (Ok x) → IsCoded r x
coded-facts o r offsets x e =
    let is : facts_in o r offsets ≡ x = cc in
    subst (λ y. IsCoded r y) is (record { network = refl; station = refl; location = refl; channel = refl })

-- an answer that is chosen by a test, and else a fault
coded-if : (r : List ℕ) (x : Facts) (test : Bool) (read : Result Facts RecordFault) (fault : RecordFault)
    → (read ≡ Ok x → IsCoded r x) → (if test then read else Err fault) ≡ Ok x → IsCoded r x
coded-if r x true read fault from e = from e
coded-if r x false read fault from e = absurd cc

coded-length : (o : ByteOrder) (r offsets : List ℕ) (x : Facts) (at : Option ℕ) → read_length o r offsets at ≡ Ok x
    → IsCoded r x
coded-length o r offsets x None e = absurd cc
coded-length o r offsets x (Some at) e =
    coded-if r x (slice_index r (at + 6) == 9) (Ok (facts_in o r offsets)) Length (coded-facts o r offsets x) e

coded-chain : (o : ByteOrder) (r : List ℕ) (x : Facts) (chain : Option (List ℕ)) → read_chain o r chain ≡ Ok x
    → IsCoded r x
coded-chain o r x None e = absurd cc
coded-chain o r x (Some offsets) e = coded-length o r offsets x (first_of_type o r 1000 offsets) e

coded-in : (r : List ℕ) (x : Facts) (order : Option ByteOrder) → read_in r order ≡ Ok x → IsCoded r x
coded-in r x None e = absurd cc
coded-in r x (Some o) e =
    coded-if r x (has_time o r) (read_chain o r (chain_of o r)) Time (coded-chain o r x (chain_of o r)) e

coded : (r : List ℕ) (x : Facts) → header_of r ≡ Ok x → IsCoded r x
coded r x e =
    coded-if r x (list_all is_sequence_byte (take 6 r))
    (if is_quality (slice_index r 6) then read_in r (order_of r) else Err Quality) Sequence
    (λ e2. coded-if r x (is_quality (slice_index r 6)) (read_in r (order_of r)) Quality (coded-in r x (order_of r)) e2)
    e

-- a part of the codes of a record is a part of the record
part : (at count rest : ℕ) (r : List ℕ) → take count (drop at (take (at + (count + rest)) (drop 8 r)))
    ≡ take count (drop (8 + at) r)
part at count rest r =
    ap (take count) (drop-take at (count + rest) (drop 8 r))
    ∙ take-take count (count + rest) (drop at (drop 8 r)) (omega arith)
    ∙ ap (take count) (drop-drop at 8 r)

-- Two records with the same codes say the same of them.
record AreAlike (x y : Facts) : Type 0 where
  network : x.network ≡ y.network
  station : x.station ≡ y.station
  location : x.location ≡ y.location
  channel : x.channel ≡ y.channel

same-part : (at count rest : ℕ) (r s : List ℕ)
    → take (at + (count + rest)) (drop 8 r) ≡ take (at + (count + rest)) (drop 8 s)
    → take count (drop (8 + at) r) ≡ take count (drop (8 + at) s)
same-part at count rest r s e =
    sym (part at count rest r) ∙ ap (λ codes. take count (drop at codes)) e ∙ part at count rest s

alike : (r s : List ℕ) (x y : Facts) → header_of r ≡ Ok x → header_of s ≡ Ok y → codes_in r ≡ codes_in s → AreAlike x y
alike r s x y of_r of_s e =
    let a = coded r x of_r in
    let b = coded s y of_s in
    record {
      network = a.network ∙ ap trimmed (same-part 10 2 0 r s e) ∙ sym b.network;
      station = a.station ∙ ap trimmed (same-part 0 5 7 r s e) ∙ sym b.station;
      location = a.location ∙ same-part 5 2 5 r s e ∙ sym b.location;
      channel = a.channel ∙ same-part 7 3 2 r s e ∙ sym b.channel;
    }

-- ---- what follows from the codes

same-place : (x y : Facts) → AreAlike x y → has_place x ≡ has_place y
same-place x y a = rw (a.network, a.station, a.location, a.channel) refl

same-of : (x y : Facts) (c : CodesValue) → AreAlike x y → is_of x c ≡ is_of y c
same-of x y c a = rw (a.network, a.station) refl

same-wanted : (stations : List CodesValue) (x y : Facts) → AreAlike x y → is_wanted stations x ≡ is_wanted stations y
same-wanted [] x y a = refl
same-wanted (c ∷ cs) x y a = rw (same-of x y c a, same-wanted cs x y a) refl

same-folder : (year : ℕ) (x y : Facts) → AreAlike x y → x.kind ≡ y.kind → folder_text year x ≡ folder_text year y
same-folder year x y a kind = rw (a.network, a.station, a.channel, kind) refl

same-file : (year day : ℕ) (x y : Facts) → AreAlike x y → x.kind ≡ y.kind → file_text year day x ≡ file_text year day y
same-file year day x y a kind = rw (a.network, a.station, a.location, a.channel, kind) refl

-- ---- a stream

-- that of a record which says y, and the time of a day
pub record IsBegun (stations : List CodesValue) (s : List ℕ) (y : Facts) (t : StreamValue) : Type 0 where
  pub read : header_of s ≡ Ok y
  pub codes : t.codes ≡ codes_in s
  pub kind : t.kind ≡ y.kind
  pub place : HasPlace t.year t.day stations y t.place
  pub from : day_start t.year t.day ≤ℤ t.from
  pub before : t.before ≤ℤ day_start t.year (t.day + 1)

from-before : (a b c : ℤ) → a ≤ℤ b → b ≤ℤ c → a ≤ℤ c
from-before a b c e f = by_lt_z {P = a ≤ℤ c} c a (λ low. absurd (clash_ℤ (<ℤ-≤ℤ_trans low e) f)) (λ high. high)

pub begun-known : (stations : List CodesValue) (s : List ℕ) (y : Facts) (t : StreamValue) → IsBegun stations s y t
    → IsKnown stations t
begun-known stations s y t b r x read of =
    let a : AreAlike x y = alike r s x y read b.read (of.codes ∙ b.codes) in
    let kind : x.kind ≡ y.kind = of.kind ∙ b.kind in
    let p = b.place in
    record {
      placed = same-place x y a ∙ p.placed;
      wanted = same-wanted stations x y a ∙ p.wanted;
      inside = record {
        years = p.inside.years;
        first = p.inside.first;
        inside = p.inside.inside;
        from = from-before _ _ _ b.from of.from;
        before = <ℤ-≤ℤ_trans of.before b.before;
      };
      folder = p.folder ∙ sym (same-folder t.year x y a kind);
      file = p.file ∙ sym (same-file t.year t.day x y a kind);
    }

-- ---- streams

pub all-insert : (P : StreamValue → Type 0) (xs : List StreamValue) (i : ℕ) (y : StreamValue) → P y → All P xs
    → All P (insert xs i y)
all-insert P xs i y is all =
    All-append P (take i xs) (y ∷ drop i xs) (All-take P i xs all) (All-cons P y (drop i xs) is (All-drop P i xs all))
