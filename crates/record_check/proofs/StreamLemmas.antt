-- Streams that go on, one by one.
use Rattle.std.proofs.Common.{◌≡◌, ℕ, ◌+◌, ◌<◌, zero, suc, List, [], ◌∷◌, ◌++◌, length, map, take, drop, get_or}
use Rattle.std.proofs.Common.{slice_set, ap, ◌∙◌, arith, add-one, append-nil, append_assoc, sym}
use Rattle.record_check.specs.declared.options.Times.{Times}
use Rattle.record_check.specs.Listing.{stream_line, stream_lines}
use Rattle.record_check.specs.Streams.{StreamValue}

-- One item more is changed.
set_one : {A : Type 0} (f : A → A) (ys : List A) (k : ℕ) (x : A) → k < length ys
    → x ≡ get_or (map f (take k ys) ++ drop k ys) k x
    → slice_set (map f (take k ys) ++ drop k ys) k (f x) ≡ map f (take (suc k) ys) ++ drop (suc k) ys
set_one f [] k x inside is = absurd (omega arith)
set_one f (y ∷ ys) zero x inside is = ap (λ z. f z ∷ ys) is
set_one f (y ∷ ys) (suc k) x inside is = ap (λ l. f y ∷ l) (set_one f ys k x (omega arith) is)

pub set_next : {A : Type 0} (f : A → A) (ys zs : List A) (k : ℕ) (x y : A) → zs ≡ map f (take k ys) ++ drop k ys
    → k < length ys → x ≡ get_or zs k x → y ≡ f x → slice_set zs k y ≡ map f (take (k + 1) ys) ++ drop (k + 1) ys
set_next f ys zs k x y e inside is to = rw (e, to, add-one k) (set_one f ys k x inside (is ∙ ap (λ l. get_or l k x) e))

-- the lines of one stream more
pub lines_next : (times : Times) (streams : List StreamValue) (k : ℕ) (s : StreamValue) → k < length streams
    → s ≡ get_or streams k s
    → stream_lines times (take (k + 1) streams) ≡ stream_lines times (take k streams) ++ stream_line times s
lines_next times [] k s inside is = absurd (omega arith)
lines_next times (x ∷ xs) zero s inside is =
    append-nil (stream_line times x) ∙ ap (stream_line times) (sym is)
lines_next times (x ∷ xs) (suc k) s inside is =
    let next : suc k + 1 ≡ suc (k + 1) = omega arith in
    ap (λ n. stream_lines times (take n (x ∷ xs))) next
    ∙ ap (λ l. stream_line times x ++ l) (lines_next times xs k s (omega arith) is)
    ∙ sym (append_assoc (stream_line times x) (stream_lines times (take k xs)) (stream_line times s))

pub put_next : (times : Times) (streams : List StreamValue) (k : ℕ) (s : StreamValue) (old text new : List ℕ)
    → k < length streams → s ≡ get_or streams k s → text ≡ old ++ stream_lines times (take k streams)
    → new ≡ text ++ stream_line times s → new ≡ old ++ stream_lines times (take (k + 1) streams)
put_next times streams k s old text new inside is so_far more =
    more ∙ ap (λ l. l ++ stream_line times s) so_far
    ∙ append_assoc old (stream_lines times (take k streams)) (stream_line times s)
    ∙ ap (λ l. old ++ l) (sym (lines_next times streams k s inside is))
