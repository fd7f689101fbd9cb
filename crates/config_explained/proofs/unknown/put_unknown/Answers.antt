use Rattle.std.proofs.Common.{◌≡◌, ◌∙◌, ◌++◌, ℕ, List, false, sym, ap, append_assoc, string_bytes}
use Rattle.std.proofs.lemmas.Map.Iter.{rest_more}
use Rattle.std.specs.Map.Iter.{deref_pair}
use Rattle.toml.specs.View.{members_view, view}
use Rattle.config_explained.specs.Unknown.{is_known, key_line, owner_lines, whose}
use Rattle.config_explained.proofs.OwnerLemmas.{unknown}
use Rattle.config_explained.proofs.unknown.put_unknown.Goals as goal

pub loop-key-preserved-in-Continue-1 : goal.loop-key-preserved-in-Continue-1
loop-key-preserved-in-Continue-1 c =
    let o = whose c.args.owner in
    let key : List ℕ = string_bytes c.in-Some.key.now in
    let text : List ℕ = c.loop-key.text.items in
    let rest = members_view c.next.new.self in
    let left = rest_more deref_pair _ _ _ (c.in-Some.key, c.in-Some.value) c.in-Some.is c.next.ensures.steps in
    let no : is_known o key (view c.in-Some.value.now) ≡ false =
    rw c.as_str-name.ensures.value at (sym c.knows.ensures ∙ c.if-not-knows.true) in
    let put : c.put_line.new.text.items ≡ text ++ key_line o key =
    rw c.as_str-name.ensures.value at c.in_ok-put_line.ensures in
    c.loop-key.invariant
    ∙ ap (λ es. text ++ owner_lines o (members_view es)) left
    ∙ ap (λ l. text ++ l) (unknown o key (view c.in-Some.value.now) rest no)
    ∙ sym (append_assoc text (key_line o key) (owner_lines o rest))
    ∙ ap (λ t. t ++ owner_lines o rest) (sym put)
