use Rattle.std.proofs.Common.{◌≡◌, ◌∙◌, ◌++◌, ℕ, List, Some, ap, append_assoc, codes, map, option_map}
use Rattle.std.proofs.Common.{sym}
use Rattle.config_explained.specs.KeyTable.{name_of}
use Rattle.config_explained.specs.Nearest.{nearest}
use Rattle.config_explained.specs.Unknown.{question}
use Rattle.config_explained.proofs.owner.put_nearest.Goals as goal

chain : (old first near last : List ℕ) → ((old ++ first) ++ near) ++ last ≡ old ++ ((first ++ near) ++ last)
chain old first near last = simp append_assoc

pub returns : goal.returns
returns c =
    let near : List ℕ = name_of c.in-Some.near in
    let old = c.args.text.now.items in
    let asked = nearest c.args.name.now (map name_of c.args.keys.now) in
    let found : Some near ≡ asked = ap (option_map name_of) (sym c.in-Some.is) ∙ c.in_ok-near.ensures in
    let a : c.put.new.text.items ≡ old ++ codes "; did you mean " = c.in_ok-put.ensures in
    let b : c.put-2.new.text.items ≡ c.put.new.text.items ++ near = rw (c.as_bytes.ensures.value, c.name.ensures) at c.in_ok-put-2.ensures in
    let d : c.put-3.new.text.items ≡ c.put-2.new.text.items ++ codes "?" = c.in_ok-put-3.ensures in
    let all : c.put-3.new.text.items ≡ old ++ question asked =
    d ∙ ap (λ l. l ++ codes "?") (b ∙ ap (λ l. l ++ near) a)
    ∙ chain old (codes "; did you mean ") near (codes "?")
    ∙ ap (λ q. old ++ question q) found in
    all
