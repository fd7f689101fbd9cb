-- The index finds the streams with the new one.
use Rattle.std.proofs.Common.{◌≡◌, ◌∙◌, ◌++◌, ◌∷◌, [], ℕ, List, Some, length, sym, ap₂, subst, arith}
use Rattle.std.specs.HashMap.{Updates}
use Rattle.record_check.specs.Index.{name_of, names_eq, Finds}
use Rattle.record_check.specs.Streams.{StreamValue}
use Rattle.record_check.specs.declared.stream_name.StreamName.{StreamName}
use Rattle.record_check.proofs.IndexLemmas.{found_begun}
use Rattle.record_check.proofs.stream_list.begin.Goals as goal

pub returns-clause-finds : goal.returns-clause-finds
returns-clause-finds c =
    let ss = c.args.streams.now.items in
    let items : c.reserve.new.self.items ≡ ss = c.reserve.ensures.items in
    let place : c.len.result ≡ length ss =
    omega (arith, c.len.ensures, c.reserve.ensures.len, c.args.streams.now.ok.0) in
    let updates : Updates names_eq c.args.places.now c.insert.new.self (name_of c.args.header.now) (Some (length ss)) =
    subst (λ (k : ℕ). Updates names_eq c.args.places.now c.insert.new.self (name_of c.args.header.now) (Some k)) place
    (subst (λ (n : StreamName). Updates names_eq c.args.places.now c.insert.new.self n (Some c.len.result))
    c.requires.name c.in_ok-insert.ensures.updates) in
    subst (Finds c.insert.new.self)
    (sym (c.in_ok-push.ensures.items
    ∙ ap₂ {A = List StreamValue} (λ xs s. xs ++ s ∷ []) items c.in_ok-stream.ensures))
    (found_begun c.args.places.now c.insert.new.self ss c.args.header.now c.requires.finds c.requires.codes
    c.requires.none updates)
