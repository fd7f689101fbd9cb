use Rattle.std.proofs.Common.{◌≡◌, None, Some}
use Rattle.reader_state.proofs.PartLemmas.{cut-parts, no-parts}
use Rattle.reader_state.proofs.TextLemmas.{text-lacks}
use Rattle.reader_state.proofs.reading.parts_of.Goals as goal

never : {X : Type 0} → (x : X) → Some x ≡ None → ⊥
never x e = cc

pub returns-in-Some : goal.returns-in-Some
returns-in-Some c = λ s h is.
    cut-parts s.files c.args.bytes.now _ c.in-Some.halves.front.now c.in-Some.halves.rest.now c.after_end.result.now
    (text-lacks s.lasts h.lasts) is (λ lacks. never _ (c.in-Some.ensures.none lacks)) c.in-Some.ensures.back
    c.after_end.ensures

pub returns-in-None : goal.returns-in-None
returns-in-None c = λ s h is.
    no-parts s.files c.args.bytes.now _ (text-lacks s.lasts h.lasts) is c.in-None.ensures.back
