use Rattle.std.proofs.Common.{◌≡◌, ◌∙◌, ◌++◌, ℕ, List, OnOk, ap, append_assoc, codes, map, subst}
use Rattle.config_explained.specs.Naming.{unused_words}
use Rattle.config_explained.specs.ShownKeys.{shown}
use Rattle.config_explained.proofs.naming.put_words.Goals as goal

chain : (t a b d : List ℕ) → ((t ++ a) ++ b) ++ d ≡ t ++ (a ++ (b ++ d))
chain t a b d = simp append_assoc

pub returns : goal.returns
returns c =
    let old : List ℕ = c.args.text.now.items in
    let first : List ℕ = codes "seedlinkd: group " in
    let key : List ℕ = map shown c.args.name.now in
    let last : List ℕ = codes " is in the list of no station\n" in
    let a : c.put.new.text.items ≡ old ++ first = c.in_ok-put.ensures in
    let b : c.put_key.new.text.items ≡ c.put.new.text.items ++ key =
    rw c.as_bytes.ensures.value at c.in_ok-put_key.ensures in
    let all : c.put_key.new.text.items ++ last ≡ old ++ (first ++ (key ++ last)) =
    ap (λ l. l ++ last) (b ∙ ap (λ l. l ++ key) a) ∙ chain old first key last in
    subst (λ l. OnOk c.put-2.result (c.put-2.new.text.items ≡ l)) all c.put-2.ensures
