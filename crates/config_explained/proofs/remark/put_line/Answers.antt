-- The six parts of the line, one after the other.
use Rattle.std.proofs.Common.{◌≡◌, ◌∙◌, ◌++◌, ◌∷◌, [], ℕ, List, ap, append_assoc, codes, sym}
use Rattle.config_explained.specs.Remarks.{remark_line, remark_words}
use Rattle.config_explained.specs.Unknown.{owner_words, whose}
use Rattle.config_explained.proofs.remark.put_line.Goals as goal

chain : (t a b c d e f : List ℕ)
    → (((((t ++ a) ++ b) ++ c) ++ d) ++ e) ++ f ≡ t ++ (((((a ++ b) ++ c) ++ d) ++ e) ++ f)
chain t a b c d e f = simp append_assoc

pub returns : goal.returns
returns c =
    let o = whose c.args.owner in
    let words = owner_words o in
    let told = remark_words c.in-Some.remark in
    let entry : List ℕ = c.args.entry.now in
    let first = codes "seedlinkd: access " in
    let colon = codes ": " in
    let old = c.args.text.now.items in
    let a : c.put.new.text.items ≡ old ++ first = c.in_ok-put.ensures in
    let b : c.put-2.new.text.items ≡ c.put.new.text.items ++ entry = c.in_ok-put-2.ensures in
    let d : c.put_words.new.text.items ≡ c.put-2.new.text.items ++ words = c.in_ok-put_words.ensures in
    let e : c.put-3.new.text.items ≡ c.put_words.new.text.items ++ colon = c.in_ok-put-3.ensures in
    let f : c.put-4.new.text.items ≡ c.put-3.new.text.items ++ told = rw c.words.ensures at c.in_ok-put-4.ensures in
    let g : c.put-5.new.text.items ≡ c.put-4.new.text.items ++ 10 ∷ [] = c.in_ok-put-5.ensures in
    g ∙ ap (λ l. l ++ 10 ∷ []) (f ∙ ap (λ l. l ++ told) (e ∙ ap (λ l. l ++ colon) (d ∙ ap (λ l. l ++ words)
    (b ∙ ap (λ l. l ++ entry) a))))
    ∙ chain old first entry words colon told (10 ∷ [])
    ∙ ap (λ r. old ++ remark_line o entry r) (sym c.in-Some.is)
