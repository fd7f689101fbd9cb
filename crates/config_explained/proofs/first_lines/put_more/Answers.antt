-- The three parts of the line, one after the other.
use Rattle.std.proofs.Common.{◌≡◌, ◌∙◌, ◌++◌, ◌∷◌, [], ℕ, List, ap, append_assoc, codes}
use Rattle.std.specs.Prelude.{decimal}
use Rattle.config_explained.specs.Unknown.{more_line}
use Rattle.config_explained.proofs.first_lines.put_more.Goals as goal

chain : (t a b c : List ℕ) → ((t ++ a) ++ b) ++ c ≡ t ++ (a ++ (b ++ c))
chain t a b c =
    ap (λ l. l ++ c) (append_assoc t a b) ∙ append_assoc t (a ++ b) c ∙ ap (λ l. t ++ l) (append_assoc a b c)

pub returns : goal.returns
returns c =
    let first = codes "seedlinkd: more unknown keys: " in
    let number : List ℕ = decimal c.args.count in
    let old = c.args.text.now.items in
    let a : c.put.new.text.items ≡ old ++ first = c.in_ok-put.ensures in
    let b : c.put-2.new.text.items ≡ c.put.new.text.items ++ number =
    c.in_ok-put-2.ensures ∙ ap (λ l. c.put.new.text.items ++ l) (c.as_bytes.ensures.value ∙ c.format.ensures.text) in
    let d : c.put-3.new.text.items ≡ c.put-2.new.text.items ++ 10 ∷ [] = c.in_ok-put-3.ensures in
    let all : c.put-3.new.text.items ≡ old ++ more_line c.args.count =
    d ∙ ap (λ l. l ++ 10 ∷ []) (b ∙ ap (λ l. l ++ number) a) ∙ chain old first number (10 ∷ []) in
    all
