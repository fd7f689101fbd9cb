use Rattle.std.proofs.Common.{rules, ◌≡◌, ◌∙◌, sym, Err}
use Rattle.protocol.specs.declared.record.RecordFault.TheVariants.{Blockettes}
use Rattle.mseed_header.proofs.HeaderLemmas.{read_by, no_chain}
use Rattle.mseed_header.proofs.header.read_in.Goals as goal

pub returns-in_err-blockettes : goal.returns-in_err-blockettes
returns-in_err-blockettes c =
    let fault : c.from_residual-in_err-blockettes.result ≡ Err Blockettes = search rules in
    fault ∙ no_chain c.args.order c.args.record.now c.in_ok-start.start c.requires
    (sym c.start_of.ensures.value ∙ c.in_ok-start.ensures.ok_part) (sym c.blockettes_of.ensures.value
    ∙ c.in_err-blockettes.ensures.ok_part)

pub returns : goal.returns
returns c =
    c.header_by.ensures
    ∙ read_by c.args.order c.args.record.now c.in_ok-start.start c.in_ok-blockettes.blockettes (record {
      date = c.requires;
      time = sym c.start_of.ensures.value ∙ c.in_ok-start.ensures.ok_part;
      chain = sym c.blockettes_of.ensures.value ∙ c.in_ok-blockettes.ensures.ok_part;
    })
