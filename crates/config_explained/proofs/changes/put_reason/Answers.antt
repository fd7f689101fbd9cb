-- The five parts of the line, one after the other.
use Rattle.std.proofs.Common.{◌≡◌, ◌∙◌, ◌++◌, ◌∷◌, [], ℕ, List, OnOk, ap, append_assoc, codes, subst}
use Rattle.std.specs.Prelude.{decimal}
use Rattle.protocol.specs.Reason.{name_of, number_of}
use Rattle.config_explained.specs.Changes.{reason_line}
use Rattle.config_explained.proofs.changes.put_reason.Goals as goal

chain : (t a b c d e : List ℕ) → ((((t ++ a) ++ b) ++ c) ++ d) ++ e ≡ t ++ ((((a ++ b) ++ c) ++ d) ++ e)
chain t a b c d e = simp append_assoc

pub returns : goal.returns
unfolding reason_line
returns c =
    let first : List ℕ = codes "a running server refuses this: " in
    let number : List ℕ = decimal (number_of c.args.reason) in
    let name : List ℕ = name_of c.args.reason in
    let old : List ℕ = c.args.text.now.items in
    let a : c.put.new.text.items ≡ old ++ first = c.in_ok-put.ensures in
    let n : c.as_bytes.result.now ≡ number =
    c.as_bytes.ensures.value ∙ c.format.ensures.text ∙ ap decimal c.number.ensures in
    let b : c.put-2.new.text.items ≡ c.put.new.text.items ++ number = rw n at c.in_ok-put-2.ensures in
    let s : c.put-3.new.text.items ≡ c.put-2.new.text.items ++ 32 ∷ [] = c.in_ok-put-3.ensures in
    let m : c.as_bytes-2.result.now ≡ name = c.as_bytes-2.ensures.value ∙ c.name.ensures in
    let d : c.put-4.new.text.items ≡ c.put-3.new.text.items ++ name = rw m at c.in_ok-put-4.ensures in
    let all : c.put-4.new.text.items ++ 10 ∷ [] ≡ old ++ reason_line c.args.reason =
    ap (λ l. l ++ 10 ∷ []) (d ∙ ap (λ l. l ++ name) (s ∙ ap (λ l. l ++ 32 ∷ []) (b ∙ ap (λ l. l ++ number) a)))
    ∙ chain old first number (32 ∷ []) name (10 ∷ [])
    ∙ ap (λ l. old ++ (l ++ 10 ∷ [])) (append_assoc (first ++ number) (32 ∷ []) name) in
    subst (λ l. OnOk c.put-5.result (c.put-5.new.text.items ≡ l)) all c.put-5.ensures
