-- Bytes that are judged one by one, in a packet and in the end.
use Rattle.std.proofs.Common.{◌≡◌, ℕ, ◌+◌, ◌-◌, ◌<◌, ◌≤◌, true, List, [], ◌∷◌, ◌++◌, length, drop, min, slice_get}
use Rattle.std.proofs.Common.{None, refl, arith, drop-cons}
use Rattle.std.specs.Prelude.{nat_lt}
use Rattle.std.proofs.lemmas.Bool.{ltb-true, ltb-false}
use Rattle.std.proofs.lemmas.List.{drop_all}
use Rattle.protocol.specs.Streams.{may_continue}
use Rattle.protocol.proofs.FoundLemmas.{both}
use Rattle.protocol.proofs.PacketBytes.{contents_continue}
use Rattle.sl_packet.specs.declared.cutter.EndPiece.TheVariants.{Unfinished}
use Rattle.sl_packet.specs.States.{end_piece, first_is_e}

-- The header was judged, or there are no more bytes.
pub rest_continues : (place index : ℕ) (bytes : List ℕ) → min (8 - place) (length bytes) ≤ index
    → may_continue (place + index) (drop index bytes) ≡ true
rest_continues place index bytes judged =
    both (nat_lt index (length bytes))
    (λ y. let more = ltb-true index (length bytes) y in contents_continue (place + index) (drop index bytes)
    (omega arith))
    (λ n. rw (drop_all index bytes (ltb-false index (length bytes) n)))

-- The piece has no more bytes, and the end has.
pub piece_runs_out : (missing piece : List ℕ) (i : ℕ) → i < length missing → length piece ≤ i
    → end_piece (drop i missing) (drop i piece) ≡ Unfinished
piece_runs_out missing piece i more none = rw (drop_all i piece none, drop-cons missing i 0)

-- No byte came before the piece.
pub nothing_before : (held piece : List ℕ) → slice_get held 0 ≡ None → first_is_e (held ++ piece) ≡ first_is_e piece
nothing_before [] piece none = refl
nothing_before (b ∷ held) piece none = absurd cc
