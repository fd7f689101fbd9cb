use Rattle.std.proofs.Common.{◌≡◌, ◌∙◌, true, false, nat_le, arith, sym, subst}
use Rattle.std.proofs.lemmas.Bool.Decides.{nat_tests}
use Rattle.session_state.specs.declared.choices.Entry.{Entry}
use Rattle.transfer.specs.Wanting.{facts_of, is_in_window_of}
use Rattle.transfer.proofs.SentLemmas.{wanted-too}
use Rattle.transfer.proofs.wanting.wants_too.Goals.{then-next-held, else-next-held, then-entry-held, else-entry-held}
use Rattle.transfer.proofs.wanting.wants_too.Goals as goal

pub returns-then-is_same_stream : goal.returns-then-is_same_stream
returns-then-is_same_stream c = λ x same passing within.
    elim c.if-entry-held.branch [
      | then-entry-held w ↦ elim c.if-next-held.branch [
        | then-next-held v ↦
            let late : nat_le c.args.next c.args.held.now.stamp ≡ true =
            grind (arith, nat_tests, v.if-next-held.true) in
            let first : nat_le c.args.entry.now.first c.args.held.now.stamp ≡ true =
            grind (arith, nat_tests, v.value-is, w.if-entry-held.true) in
            wanted-too x c.args.next c.args.passed.now c.args.held.now passing late
            (subst (λ (e : Entry). nat_le e.first c.args.held.now.stamp ≡ true) (sym same) first)
            (w.is_same_stream.ensures (sym w.value-is ∙ c.if-is_same_stream.true))
            (subst (λ (e : Entry). is_in_window_of e.action (facts_of c.args.held.now.summary) ≡ true) (sym same)
            (sym c.is_in_window.ensures ∙ within))
        | else-next-held v ↦
            let t = sym v.value-is ∙ w.if-entry-held.true in
            let early : nat_le c.args.next c.args.held.now.stamp ≡ false =
            grind (arith, nat_tests, v.if-next-held.false) in
            absurd (let wrong : false ≡ true = sym early ∙ t in cc)
      ]
      | else-entry-held w ↦
          let t = sym w.value-is ∙ c.if-is_same_stream.true in
          absurd (let wrong : false ≡ true = sym w.if-entry-held.false ∙ t in cc)
    ]
