use Rattle.std.proofs.Common.{◌≡◌, ◌∙◌, Err, Ok, OnOk, Result, arith}
use Rattle.std.proofs.lemmas.Map.Text.{text_keys}
use Rattle.std.specs.BTreeMap.{get_by_text}
use Rattle.continued_files.specs.Known.{KnowsOthers}
use Rattle.continued_files.proofs.continued.ContinuedFiles.offer.Goals as goal

always : {A E : Type 0} (r : Result A E) (P : Type 0) → P → OnOk r P
always (Ok x) P p = p
always (Err e) P p = tt

pub returns-in-Some-clause-other_tails : goal.returns-in-Some-clause-other_tails
returns-in-Some-clause-other_tails g c =
    always c.hand.result
    (KnowsOthers c.args.name.now c.args.self.now.all (c.get_mut.follows.lender c.hand.new.self))
    (λ other differs.
    let was = c.in_ok-know.ensures.others other differs in
    let stays : get_by_text (c.get_mut.follows.lender c.hand.new.self) other ≡ get_by_text c.know.new.self.all other =
    grind (arith, text_keys) in
    stays ∙ was)
