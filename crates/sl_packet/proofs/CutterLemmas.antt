-- What a piece gives, by what its bytes are.
use Rattle.std.proofs.Common.{◌≡◌, ℕ, ◌+◌, ◌-◌, ◌<◌, ◌≤◌, ◌==◌, true, false, List, [], ◌∷◌, ◌++◌, length, take, drop}
use Rattle.std.proofs.Common.{refl, sym, ap, ◌∙◌, subst, arith, append-nil, length-drop, take-append-drop, Bor}
use Rattle.std.specs.Prelude.{codes, ◌&&◌, ◌≢◌, OnErr, Result, Ok, Err}
use Rattle.std.proofs.lemmas.Bool.{and_parts}
use Rattle.std.proofs.lemmas.List.{length-take-le}
use Rattle.std.proofs.Math.Seq.{take-length}
use Rattle.protocol.specs.Streams.{may_continue, stream_from}
use Rattle.protocol.specs.Streams.StreamRead.{Going, Ended, NoStream}
use Rattle.protocol.proofs.PacketBytes.{may_continue-append}
use Rattle.sl_packet.specs.declared.cutter.EndPiece.{EndPiece}
use Rattle.sl_packet.specs.declared.cutter.EndPiece.TheVariants.{Unfinished, Whole, Other}
use Rattle.sl_packet.specs.declared.cutter.Fed.{Fed}
use Rattle.sl_packet.specs.declared.cutter.NotAPacket.{NotAPacket}
use Rattle.sl_packet.specs.declared.cutter.Cut.TheVariants.{Nothing, Packet, End}
use Rattle.sl_packet.specs.Progress.{Progress, read_so_far, rest_in, gone_on, HasBadByte}
use Rattle.sl_packet.specs.Progress.Progress.{Amid, Finished, Faulty}
use Rattle.sl_packet.specs.States.{is_begun, first_is_e, end_piece}
use Rattle.sl_packet.specs.Cuts.{IsFed}
use Rattle.sl_packet.proofs.PieceLemmas.{continued, goes_on_in_packet, ends_packet, bad_in_packet, is_in_packet}
use Rattle.sl_packet.proofs.PieceLemmas.{no_stream_of_bad, no_stream_stays}
use Rattle.sl_packet.proofs.EndLemmas.{few_of_end, is_next, IsEndPiece, IsWholeEnd, IsPartOfEnd}

-- ---- the end
next_is : (held piece : List ℕ) (p : EndPiece) → is_begun held ≡ true → first_is_e (held ++ piece) ≡ true
    → end_piece (drop (length held) (codes "END")) piece ≡ p
    → IsEndPiece held (drop (length held) (codes "END")) piece p
next_is held piece p begun first is =
    subst (λ q. IsEndPiece held (drop (length held) (codes "END")) piece q) is (is_next held piece begun first)

pub feeds_end : (before : Progress) (piece : List ℕ) (n : ℕ) → before ≡ Amid (rest_in before)
    → is_begun (rest_in before) ≡ true → first_is_e (rest_in before ++ piece) ≡ true
    → end_piece (drop (length (rest_in before)) (codes "END")) piece ≡ Whole
    → n ≡ length (drop (length (rest_in before)) (codes "END")) → IsFed before piece record { used = n; cut = End }
feeds_end (Amid held) piece n amid begun first is size =
    let next : IsWholeEnd held (drop (length held) (codes "END")) piece = next_is held piece Whole begun first is in
    let within = next.within in
    let few = few_of_end held piece begun first in
    let missing : length (drop (length held) (codes "END"))
    ≡ 3 - length held = length-drop (length held) (codes "END") in
    record {
      used = size ∙ missing;
      within = omega arith;
      some = λ more. omega arith;
      read = λ packets. ap (λ k. stream_from (Going packets held) (take k piece)) size ∙ next.read packets
          ∙ ap Ended (sym (append-nil packets));
    }
feeds_end Finished piece n amid begun first is size = absurd cc
feeds_end Faulty piece n amid begun first is size = absurd cc

part_of_end : (held piece : List ℕ) → is_begun held ≡ true → first_is_e (held ++ piece) ≡ true
    → end_piece (drop (length held) (codes "END")) piece ≡ Unfinished
    → IsPartOfEnd held (drop (length held) (codes "END")) piece
part_of_end held piece begun first is = next_is held piece Unfinished begun first is

pub begun_in_end : (held piece : List ℕ) → is_begun held ≡ true → first_is_e (held ++ piece) ≡ true
    → end_piece (drop (length held) (codes "END")) piece ≡ Unfinished → is_begun (held ++ piece) ≡ true
begun_in_end held piece begun first is = let part = part_of_end held piece begun first is in part.begun

pub short_in_end : (held piece : List ℕ) → is_begun held ≡ true → first_is_e (held ++ piece) ≡ true
    → end_piece (drop (length held) (codes "END")) piece ≡ Unfinished → length held + length piece < 520
short_in_end held piece begun first is =
    let part = part_of_end held piece begun first is in
    let short = part.short in
    let missing : length (drop (length held) (codes "END"))
    ≡ 3 - length held = length-drop (length held) (codes "END") in
    omega arith

pub feeds_part_of_end : (before : Progress) (piece : List ℕ) → before ≡ Amid (rest_in before)
    → is_begun (rest_in before) ≡ true → first_is_e (rest_in before ++ piece) ≡ true
    → end_piece (drop (length (rest_in before)) (codes "END")) piece ≡ Unfinished
    → IsFed before piece record { used = length piece; cut = Nothing }
feeds_part_of_end (Amid held) piece amid begun first is =
    let part = part_of_end held piece begun first is in
    record {
      used = refl;
      within = omega arith;
      some = λ more. more;
      read = λ packets. ap (stream_from (Going packets held)) (take-length piece) ∙ part.read packets
          ∙ ap (λ ps. Going ps (held ++ piece)) (sym (append-nil packets));
    }
feeds_part_of_end Finished piece amid begun first is = absurd cc
feeds_part_of_end Faulty piece amid begun first is = absurd cc

pub bad_end : (before : Progress) (piece : List ℕ) → before ≡ Amid (rest_in before) → is_begun (rest_in before) ≡ true
    → first_is_e (rest_in before ++ piece) ≡ true
    → end_piece (drop (length (rest_in before)) (codes "END")) piece ≡ Other → HasBadByte before piece
bad_end (Amid held) piece amid begun first is = next_is held piece Other begun first is
bad_end Finished piece amid begun first is = absurd cc
bad_end Faulty piece amid begun first is = absurd cc

-- ---- a packet
pub begun_in_packet : (held piece : List ℕ) → is_begun held ≡ true → first_is_e (held ++ piece) ≡ false
    → may_continue (length held) piece ≡ true → is_begun (held ++ piece) ≡ true
begun_in_packet held piece begun first more = rw (continued held piece (is_in_packet held piece begun first) more)

pub feeds_part : (before : Progress) (piece : List ℕ) → before ≡ Amid (rest_in before)
    → is_begun (rest_in before) ≡ true → first_is_e (rest_in before ++ piece) ≡ false
    → may_continue (length (rest_in before)) piece ≡ true → length (rest_in before) + length piece < 520
    → IsFed before piece record { used = length piece; cut = Nothing }
feeds_part (Amid held) piece amid begun first more short = record {
  used = refl;
  within = omega arith;
  some = λ more. more;
  read = λ packets.
      ap (stream_from (Going packets held)) (take-length piece)
      ∙ goes_on_in_packet packets held piece (is_in_packet held piece begun first) more short
      ∙ ap (λ ps. Going ps (held ++ piece)) (sym (append-nil packets));
}
feeds_part Finished piece amid begun first more short = absurd cc
feeds_part Faulty piece amid begun first more short = absurd cc

first_part : (place n : ℕ) (piece : List ℕ) → may_continue place piece ≡ true → may_continue place (take n piece) ≡ true
first_part place n piece more =
    let whole : (may_continue place (take n piece) && may_continue (place + length (take n piece)) (drop n piece))
    ≡ true = sym (may_continue-append place (take n piece) (drop n piece))
    ∙ ap (may_continue place) (take-append-drop n piece) ∙ more in
    let parts = and_parts (may_continue place (take n piece))
    (may_continue (place + length (take n piece)) (drop n piece)) whole in
    parts.0

pub feeds_packet : (before : Progress) (piece : List ℕ) (packet : Bor (List ℕ)) (n : ℕ) → before ≡ Amid (rest_in before)
    → is_begun (rest_in before) ≡ true → first_is_e (rest_in before ++ piece) ≡ false
    → may_continue (length (rest_in before)) piece ≡ true → length (rest_in before) < 520
    → length (rest_in before) + n ≡ 520 → n ≤ length piece → packet.now ≡ rest_in before ++ take n piece
    → IsFed before piece record { used = n; cut = Packet packet }
feeds_packet (Amid held) piece packet n amid begun first more bound size within is =
    let taken : length (take n piece) ≡ n = length-take-le n piece within in
    record {
      used = omega arith;
      within = within;
      some = λ more. omega arith;
      read = λ packets.
          ends_packet packets held (take n piece) (omega arith) (is_in_packet held piece begun first)
          (first_part (length held) n piece more) (omega arith)
          ∙ ap (λ l. Going (packets ++ l ∷ []) []) (sym is);
    }
feeds_packet Finished piece packet n amid begun first more bound size within is = absurd cc
feeds_packet Faulty piece packet n amid begun first more bound size within is = absurd cc

pub bad_packet : (before : Progress) (piece : List ℕ) → before ≡ Amid (rest_in before)
    → is_begun (rest_in before) ≡ true → first_is_e (rest_in before ++ piece) ≡ false
    → may_continue (length (rest_in before)) piece ≡ false → HasBadByte before piece
bad_packet (Amid held) piece amid begun first more =
    bad_in_packet held piece (is_in_packet held piece begun first) first more
bad_packet Finished piece amid begun first more = absurd cc
bad_packet Faulty piece amid begun first more = absurd cc

-- where more bytes lead that are held
pub goes_on : (before : Progress) (piece : List ℕ) → before ≡ Amid (rest_in before)
    → Amid (rest_in before ++ piece) ≡ gone_on before piece
goes_on (Amid held) piece amid = refl
goes_on Finished piece amid = absurd cc
goes_on Faulty piece amid = absurd cc

-- ---- behind the end
pub bad_behind_end : (before : Progress) (piece : List ℕ) → before ≡ Finished → (length piece == 0) ≡ false
    → HasBadByte before piece
bad_behind_end Finished (b ∷ piece) ended some =
    record { good = []; bad = b; behind = piece; whole = refl; so_far = λ packets. refl; fault = λ packets. refl }
bad_behind_end Finished [] ended some = absurd cc
bad_behind_end (Amid rest) piece ended some = absurd cc
bad_behind_end Faulty piece ended some = absurd cc

-- ---- a bad byte
pub no_stream_on_err : (before : Progress) (piece : List ℕ) (r : Result Fed NotAPacket)
    → OnErr r (HasBadByte before piece)
    → OnErr r ((packets : List (List ℕ)) → stream_from (read_so_far packets before) piece ≡ NoStream)
no_stream_on_err before piece (Ok fed) bad = tt
no_stream_on_err before piece (Err fault) bad = λ packets. no_stream_of_bad before piece packets bad

pub bad_on_err : (before : Progress) (piece : List ℕ) (r : Result Fed NotAPacket) → OnErr r (HasBadByte before piece)
    → OnErr r (before ≢ Faulty → HasBadByte before piece)
bad_on_err before piece (Ok fed) bad = tt
bad_on_err before piece (Err fault) bad = λ sound. bad

pub no_stream_when_faulty : (before : Progress) (piece : List ℕ) (packets : List (List ℕ)) → before ≡ Faulty
    → stream_from (read_so_far packets before) piece ≡ NoStream
no_stream_when_faulty Faulty piece packets faulty = no_stream_stays piece
no_stream_when_faulty (Amid rest) piece packets faulty = absurd cc
no_stream_when_faulty Finished piece packets faulty = absurd cc
