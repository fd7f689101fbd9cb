use Rattle.std.proofs.Common.{◌≡◌, ◌∙◌, ◌++◌, ◌∷◌, [], ℕ, List, ap, map, append_assoc, codes}
use Rattle.config_explained.specs.ShownKeys.{shown}
use Rattle.config_explained.specs.Unknown.{hint, key_line, owner_words, whose}
use Rattle.config_explained.proofs.key_lines.put_line.Goals as goal

chain : (t a b c d e : List ℕ) → ((((t ++ a) ++ b) ++ c) ++ d) ++ e ≡ t ++ ((((a ++ b) ++ c) ++ d) ++ e)
chain t a b c d e = simp append_assoc

pub returns : goal.returns
returns c =
    let o = whose c.args.owner in
    let words = owner_words o in
    let near = hint o c.args.key.now in
    let key : List ℕ = map shown c.args.key.now in
    let first = codes "seedlinkd: unknown key " in
    let old = c.args.text.now.items in
    let a : c.put.new.text.items ≡ old ++ first = c.in_ok-put.ensures in
    let b : c.put_key.new.text.items ≡ c.put.new.text.items ++ key =
    rw c.as_bytes.ensures.value at c.in_ok-put_key.ensures in
    let d : c.put_words.new.text.items ≡ c.put_key.new.text.items ++ words = c.in_ok-put_words.ensures in
    let n : c.put_hint.new.text.items ≡ c.put_words.new.text.items ++ near = c.in_ok-put_hint.ensures in
    let e : c.put-2.new.text.items ≡ c.put_hint.new.text.items ++ 10 ∷ [] = c.in_ok-put-2.ensures in
    let all : c.put-2.new.text.items ≡ old ++ key_line o c.args.key.now =
    e ∙ ap (λ l. l ++ 10 ∷ []) (n ∙ ap (λ l. l ++ near) (d ∙ ap (λ l. l ++ words) (b ∙ ap (λ l. l ++ key) a)))
    ∙ chain old first key words near (10 ∷ []) in
    all
