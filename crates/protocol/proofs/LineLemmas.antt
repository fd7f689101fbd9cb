-- Taking bytes one by one cuts them into lines.
use Rattle.std.proofs.Common.{◌≡◌, ℕ, ◌+◌, nat_le, nat_lt, List, [], ◌∷◌, ◌++◌, length, map, refl, sym, ap, ◌∙◌}
use Rattle.std.proofs.Common.{append_assoc, append-nil, arith, length-append, le-leb}
use Rattle.std.proofs.lemmas.Bool.{ltb-true, ltb-false, leb-false, lt-leb}
use Rattle.protocol.specs.Lines.{Line, is_line_end, joined, lines_of, rest_of, capped, ended_line, cut_from, open_after}
use Rattle.protocol.specs.Pieces.{split, without_empty, all_but_last, last_of}
use Rattle.protocol.specs.Lines.Line.{Text}
use Rattle.protocol.proofs.FoundLemmas.{both}
use Rattle.protocol.proofs.SplitLemmas.{behind, behind-cons_first, HasPiece, behind_nothing, some_piece}

-- one more byte of an open line
joined-capped : (bs : List ℕ) (b : ℕ) → joined (capped bs) b ≡ capped (bs ++ b ∷ [])
joined-capped bs b =
    both (nat_le (length bs) 256)
    (λ y. both (nat_lt (length bs) 256)
    (λ z. rw (y, z, length-append bs (b ∷ []), le-leb (length bs + 1) 256 (omega (arith, ltb-true (length bs) 256 z))))
    (λ n. rw (
      y,
      n,
      length-append bs (b ∷ []),
      lt-leb (length bs + 1) 256 (omega (arith, ltb-false (length bs) 256 n)),
    )))
    (λ n. rw (n, length-append bs (b ∷ []), lt-leb (length bs + 1) 256 (omega (arith, leb-false (length bs) 256 n))))

all_but_last-cons : (p : List ℕ) (ps : List (List ℕ)) → HasPiece ps → all_but_last (p ∷ ps) ≡ p ∷ all_but_last ps
all_but_last-cons p [] some = absurd some
all_but_last-cons p (q ∷ ps) some = refl

last_of-cons : (p : List ℕ) (ps : List (List ℕ)) → HasPiece ps → last_of (p ∷ ps) ≡ last_of ps
last_of-cons p [] some = absurd some
last_of-cons p (q ∷ ps) some = refl

-- what the end of a line gives
ended_capped : (bs : List ℕ) (ps : List (List ℕ))
    → map capped (without_empty (bs ∷ ps)) ≡ ended_line (capped bs) ++ map capped (without_empty ps)
ended_capped [] ps = refl
ended_capped (b ∷ bs) ps = both (nat_le (length (b ∷ bs)) 256) (λ y. rw y) (λ n. rw n)

ended_piece : (bs : List ℕ) (ps : List (List ℕ)) → HasPiece ps
    → map capped (without_empty (all_but_last (behind bs ([] ∷ ps))))
    ≡ ended_line (capped bs) ++ map capped (without_empty (all_but_last ps))
ended_piece bs ps some =
    ap (λ l. map capped (without_empty l)) (all_but_last-cons (bs ++ []) ps some)
    ∙ ap (λ l. map capped (without_empty (l ∷ all_but_last ps))) (append-nil bs)
    ∙ ended_capped bs (all_but_last ps)

pub cut_lines : (bs bytes : List ℕ)
    → cut_from (capped bs) bytes ≡ map capped (without_empty (all_but_last (behind bs (split is_line_end bytes))))
cut_lines bs [] = refl
cut_lines bs (b ∷ bytes) =
    both (is_line_end b)
    (λ y. let more = rw (behind_nothing (split is_line_end bytes) (some_piece is_line_end bytes)) at
    (cut_lines [] bytes) in
    rw y (ap (λ l. ended_line (capped bs) ++ l) more
    ∙ sym (ended_piece bs (split is_line_end bytes) (some_piece is_line_end bytes))))
    (λ n. rw (n, joined-capped bs b, behind-cons_first bs b (split is_line_end bytes)) (cut_lines (bs ++ b ∷ []) bytes))

pub open_rest : (bs bytes : List ℕ)
    → open_after (capped bs) bytes ≡ capped (last_of (behind bs (split is_line_end bytes)))
open_rest bs [] = ap capped (sym (append-nil bs))
open_rest bs (b ∷ bytes) =
    both (is_line_end b)
    (λ y. let more = rw (behind_nothing (split is_line_end bytes) (some_piece is_line_end bytes)) at
    (open_rest [] bytes) in
    rw y (more ∙ ap capped (sym (last_of-cons (bs ++ []) (split is_line_end bytes) (some_piece is_line_end bytes)))))
    (λ n. rw (n, joined-capped bs b, behind-cons_first bs b (split is_line_end bytes)) (open_rest (bs ++ b ∷ []) bytes))

-- the two laws
pub lines_law : (bytes : List ℕ) → cut_from (Text []) bytes ≡ map capped (lines_of bytes)
lines_law bytes = rw (behind_nothing (split is_line_end bytes) (some_piece is_line_end bytes)) at (cut_lines [] bytes)

pub rest_law : (bytes : List ℕ) → open_after (Text []) bytes ≡ capped (rest_of bytes)
rest_law bytes = rw (behind_nothing (split is_line_end bytes) (some_piece is_line_end bytes)) at (open_rest [] bytes)

-- in whatever pieces the bytes come
pub cut_from-append : (line : Line) (bytes more : List ℕ)
    → cut_from line (bytes ++ more) ≡ cut_from line bytes ++ cut_from (open_after line bytes) more
cut_from-append line [] more = refl
cut_from-append line (b ∷ bytes) more =
    both (is_line_end b)
    (λ y. rw (y, cut_from-append (Text []) bytes more)
    (sym (append_assoc (ended_line line) (cut_from (Text []) bytes) _)))
    (λ n. rw n (cut_from-append (joined line b) bytes more))

pub open_after-append : (line : Line) (bytes more : List ℕ)
    → open_after line (bytes ++ more) ≡ open_after (open_after line bytes) more
open_after-append line [] more = refl
open_after-append line (b ∷ bytes) more =
    both (is_line_end b) (λ y. rw y (open_after-append (Text []) bytes more))
    (λ n. rw n (open_after-append (joined line b) bytes more))
