-- A stream that is read on by a piece of the end, which stands behind none, one or two of its bytes.
use Rattle.std.proofs.Common.{◌≡◌, ℕ, ◌<◌, ◌≤◌, ◌==◌, true, List, [], ◌∷◌, ◌++◌, length, take, drop, refl, sym, ap, ◌∙◌}
use Rattle.std.proofs.Common.{subst, arith, append_assoc, eqb-true, inl, inr}
use Rattle.std.specs.Prelude.{codes, ◌⊎◌}
use Rattle.protocol.specs.Streams.{piece_of, stream_from}
use Rattle.protocol.specs.Streams.Piece.{Beginning}
use Rattle.protocol.specs.Streams.StreamRead.{Going, Ended}
use Rattle.protocol.proofs.FoundLemmas.{both}
use Rattle.sl_packet.specs.declared.cutter.EndPiece.{EndPiece}
use Rattle.sl_packet.specs.declared.cutter.EndPiece.TheVariants.{Unfinished, Whole, Other}
use Rattle.sl_packet.specs.Progress.{HasBadByte}
use Rattle.sl_packet.specs.Progress.Progress.{Amid}
use Rattle.sl_packet.specs.States.{is_begun, first_is_e, end_piece}
use Rattle.sl_packet.proofs.PieceLemmas.{later_bad, first_bad, is_in_end}

-- all that is missing
pub record IsWholeEnd (held missing piece : List ℕ) : Type 0 where
  pub within : length missing ≤ length piece
  pub read : (packets : List (List ℕ)) → stream_from (Going packets held) (take (length missing) piece) ≡ Ended packets

-- some of it
pub record IsPartOfEnd (held missing piece : List ℕ) : Type 0 where
  pub short : length piece < length missing
  pub begun : is_begun (held ++ piece) ≡ true
  pub read : (packets : List (List ℕ)) → stream_from (Going packets held) piece ≡ Going packets (held ++ piece)

-- what a piece is behind the held bytes
abbrev pub IsEndPiece : (held missing piece : List ℕ) → EndPiece → Type 0
IsEndPiece held missing piece Whole = IsWholeEnd held missing piece
IsEndPiece held missing piece Unfinished = IsPartOfEnd held missing piece
IsEndPiece held missing piece Other = HasBadByte (Amid held) piece

-- one byte more
read_one : (held : List ℕ) (m : ℕ) (piece : List ℕ) (packets : List (List ℕ)) → piece_of (held ++ m ∷ []) ≡ Beginning
    → stream_from (Going packets held) (m ∷ piece) ≡ stream_from (Going packets (held ++ m ∷ [])) piece
read_one held m piece packets begins = rw begins

one_more : (held missing : List ℕ) (m : ℕ) (piece : List ℕ) → piece_of (held ++ m ∷ []) ≡ Beginning → (p : EndPiece)
    → IsEndPiece (held ++ m ∷ []) missing piece p → IsEndPiece held (m ∷ missing) (m ∷ piece) p
one_more held missing m piece begins Whole is = let within = is.within in record {
  within = omega arith;
  read = λ packets. read_one held m (take (length missing) piece) packets begins ∙ is.read packets;
}
one_more held missing m piece begins Unfinished is = let short = is.short in record {
  short = omega arith;
  begun = ap is_begun (sym (append_assoc held (m ∷ []) piece)) ∙ is.begun;
  read = λ packets. read_one held m piece packets begins ∙ is.read packets
      ∙ ap (Going packets) (append_assoc held (m ∷ []) piece);
}
one_more held missing m piece begins Other is = later_bad held m piece begins is

behind_two : (piece : List ℕ) → IsEndPiece (codes "EN") (codes "D") piece (end_piece (codes "D") piece)
behind_two [] = record { short = omega arith; begun = refl; read = λ packets. refl }
behind_two (b ∷ piece) =
    both (b == 68)
    (λ y. rw y
    (subst (λ d. IsWholeEnd (codes "EN") (codes "D") (d ∷ piece))
    (sym (eqb-true b 68 y)) record { within = omega arith; read = λ packets. refl }))
    (λ n. rw n (first_bad (codes "EN") b piece (rw n)))

behind_one : (piece : List ℕ) → IsEndPiece (codes "E") (codes "ND") piece (end_piece (codes "ND") piece)
behind_one [] = record { short = omega arith; begun = refl; read = λ packets. refl }
behind_one (b ∷ piece) =
    both (b == 78)
    (λ y. rw y (subst (λ d. IsEndPiece (codes "E") (codes "ND") (d ∷ piece) (end_piece (codes "D") piece))
    (sym (eqb-true b 78 y))
    (one_more (codes "E") (codes "D") 78 piece refl (end_piece (codes "D") piece) (behind_two piece))))
    (λ n. rw n (first_bad (codes "E") b piece (rw n)))

behind_none : (piece : List ℕ) → first_is_e piece ≡ true
    → IsEndPiece [] (codes "END") piece (end_piece (codes "END") piece)
behind_none [] first = absurd cc
behind_none (b ∷ piece) first =
    rw first
    (subst (λ d. IsEndPiece [] (codes "END") (d ∷ piece) (end_piece (codes "ND") piece)) (sym (eqb-true b 69 first))
    (one_more [] (codes "ND") 69 piece refl (end_piece (codes "ND") piece) (behind_one piece)))

-- Whichever are held, they are as many of the end as they are.
held_of_end : (held : List ℕ) → (held ≡ []) ⊎ ((held ≡ codes "E") ⊎ (held ≡ codes "EN")) → length held < 3
held_of_end held (inl e) = let size : length held ≡ 0 = ap length e in omega arith
held_of_end held (inr (inl e)) = let size : length held ≡ 1 = ap length e in omega arith
held_of_end held (inr (inr e)) = let size : length held ≡ 2 = ap length e in omega arith

pub few_of_end : (held piece : List ℕ) → is_begun held ≡ true → first_is_e (held ++ piece) ≡ true → length held < 3
few_of_end held piece begun first = held_of_end held (is_in_end held piece begun first)

abbrev IsNext : (held piece : List ℕ) → Type 0
IsNext held piece = IsEndPiece held (drop (length held) (codes "END")) piece
    (end_piece (drop (length held) (codes "END")) piece)

which_end_piece : (held piece : List ℕ) → (held ≡ []) ⊎ ((held ≡ codes "E") ⊎ (held ≡ codes "EN"))
    → first_is_e (held ++ piece) ≡ true → IsNext held piece
which_end_piece held piece (inl e) first = subst (λ l. IsNext l piece) (sym e) (behind_none piece (rw e at first))
which_end_piece held piece (inr (inl e)) first = subst (λ l. IsNext l piece) (sym e) (behind_one piece)
which_end_piece held piece (inr (inr e)) first = subst (λ l. IsNext l piece) (sym e) (behind_two piece)

pub is_next : (held piece : List ℕ) → is_begun held ≡ true → first_is_e (held ++ piece) ≡ true
    → IsEndPiece held (drop (length held) (codes "END")) piece (end_piece (drop (length held) (codes "END")) piece)
is_next held piece begun first = which_end_piece held piece (is_in_end held piece begun first) first
