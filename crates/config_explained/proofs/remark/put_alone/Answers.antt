-- The three parts of the line, one after the other.
use Rattle.std.proofs.Common.{◌≡◌, ◌∙◌, ◌+◌, ◌++◌, ℕ, List, [], true, if◌then◌else◌, ap, append_assoc, codes, rules, sym}
use Rattle.toml.specs.View.{table_view}
use Rattle.config_explained.specs.Remarks.{is_last_alone}
use Rattle.config_explained.specs.Unknown.{owner_words}
use Rattle.config_explained.specs.Unknown.Whose.{TheStation}
use Rattle.config_explained.proofs.remark.put_alone.Goals as goal

chain : (t a b c : List ℕ) → ((t ++ a) ++ b) ++ c ≡ t ++ ((a ++ b) ++ c)
chain t a b c = simp append_assoc

pub returns : goal.returns
returns c =
    let words = owner_words (TheStation (c.args.place + 1) c.args.station.now.station) in
    let first = codes "seedlinkd: access" in
    let last = codes ": it is the one list; that of all stations stands above the first [[station]]\n" in
    let old = c.args.text.now.items in
    let a : c.put.new.text.items ≡ old ++ first = c.in_ok-put.ensures in
    let b : c.put_words.new.text.items ≡ c.put.new.text.items ++ words = c.in_ok-put_words.ensures in
    let d : c.put-2.new.text.items ≡ c.put_words.new.text.items ++ last = c.in_ok-put-2.ensures in
    let alone : is_last_alone (table_view c.args.table.now) c.args.place ≡ true = search rules in
    d ∙ ap (λ l. l ++ last) (b ∙ ap (λ l. l ++ words) a)
    ∙ chain old first words last
    ∙ ap (λ one. old ++ (if one then (first ++ words) ++ last else [])) (sym alone)
