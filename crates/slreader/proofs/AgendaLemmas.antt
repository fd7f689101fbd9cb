-- Commands that are asked or passed over, one by one.
use Rattle.std.proofs.Common.{◌≡◌, ℕ, ◌+◌, ◌≤◌, List, [], ◌∷◌, drop, sym, arith}
use Rattle.std.proofs.lemmas.List.{drop-drop}
use Rattle.protocol.proofs.FoundLemmas.{both}
use Rattle.slreader.specs.Wants.{Command}
use Rattle.slreader.specs.Lines.{is_of_want, size_of, without}

pub drop_one : (lines : List Command) (n : ℕ) → drop (n + 1) lines ≡ drop 1 (drop n lines)
drop_one lines n = sym (drop-drop 1 n lines)

-- Without some commands, the others take no more bytes.
pub size_without : (want : ℕ) (lines : List Command) → size_of (without want lines) ≤ size_of lines
size_without want [] = omega arith
size_without want (c ∷ lines) =
    both (is_of_want want c.want)
    (λ y. rw y (let more = size_without want lines in omega arith))
    (λ n. rw n (omega arith))
