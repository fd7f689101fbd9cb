use Rattle.std.proofs.Common.{rules, ◌≡◌, ◌∙◌, ◌++◌, ◌∷◌, [], ap, List, ℕ}
use Rattle.std.specs.Prelude.{codes}
use Rattle.protocol.specs.Packet.{digits}
use Rattle.number_file.specs.Text.{line_of}
use Rattle.number_file.proofs.TextLemmas.{four-more}
use Rattle.number_file.proofs.writing.push_number.Goals as goal

pub returns : goal.returns
returns c =
    let n = c.args.number.now in
    let text = c.args.text.now.items in
    let head : List ℕ = codes "[[station]]" ++ 10 ∷ [] in
    let network : List ℕ = line_of (codes "network") n.network in
    let code : List ℕ = line_of (codes "code") n.code in
    let next : List ℕ = line_of (codes "next") (digits n.next) in
    let one : c.extend_from_slice.new.self.items ≡ text ++ head = search rules in
    let two : c.push_line.new.text.items ≡ c.extend_from_slice.new.self.items ++ network =
    c.in_ok-push_line.ensures
    ∙ ap (λ v. c.extend_from_slice.new.self.items ++ line_of (codes "network") v) c.network.ensures in
    let three : c.push_line-2.new.text.items ≡ c.push_line.new.text.items ++ code = search rules in
    let four : c.push_line-3.new.text.items ≡ c.push_line-2.new.text.items ++ next =
    c.in_ok-push_line-3.ensures
    ∙ ap (λ v. c.push_line-2.new.text.items ++ line_of (codes "next") v)
    (c.digits.ensures ∙ ap digits c.next.ensures) in
    four
    ∙ ap (λ l. l ++ next) (three ∙ ap (λ l. l ++ code) (two ∙ ap (λ l. l ++ network) one))
    ∙ four-more text head network code next
