use Rattle.std.proofs.Common.{◌∙◌, sym, rules}
use Rattle.access_list.proofs.OctetLemmas.{octets_cut}
use Rattle.access_list.proofs.addresses.octets.Goals as goal

pub returns-in_err-octet : goal.returns-in_err-octet
returns-in_err-octet c =
    let e = octets_cut c.args.text.now c.in_ok-first.first.now c.in_ok-first.rest.now c.in_ok-second.second.now
    c.in_ok-second.rest.now c.in_ok-third.third.now c.in_ok-third.fourth.now
    (rw c.in_ok-first.was at c.cut_at.ensures.pieces) (rw c.in_ok-second.was at c.cut_at-2.ensures.pieces)
    (rw c.in_ok-third.was at c.cut_at-3.ensures.pieces) in
    rw (e, sym c.octet.ensures ∙ c.in_err-octet.was) c.from_residual-in_err-octet.ensures

pub returns-in_err-octet-2 : goal.returns-in_err-octet-2
returns-in_err-octet-2 c =
    let e = octets_cut c.args.text.now c.in_ok-first.first.now c.in_ok-first.rest.now c.in_ok-second.second.now
    c.in_ok-second.rest.now c.in_ok-third.third.now c.in_ok-third.fourth.now
    (rw c.in_ok-first.was at c.cut_at.ensures.pieces) (rw c.in_ok-second.was at c.cut_at-2.ensures.pieces)
    (rw c.in_ok-third.was at c.cut_at-3.ensures.pieces) in
    rw (
      e,
      sym c.octet.ensures ∙ c.in_ok-octet.was,
      sym c.octet-2.ensures ∙ c.in_err-octet-2.was,
    ) c.from_residual-in_err-octet-2.ensures

pub returns-in_err-octet-3 : goal.returns-in_err-octet-3
returns-in_err-octet-3 c =
    let e = octets_cut c.args.text.now c.in_ok-first.first.now c.in_ok-first.rest.now c.in_ok-second.second.now
    c.in_ok-second.rest.now c.in_ok-third.third.now c.in_ok-third.fourth.now
    (rw c.in_ok-first.was at c.cut_at.ensures.pieces) (rw c.in_ok-second.was at c.cut_at-2.ensures.pieces)
    (rw c.in_ok-third.was at c.cut_at-3.ensures.pieces) in
    rw (
      e,
      sym c.octet.ensures ∙ c.in_ok-octet.was,
      sym c.octet-2.ensures ∙ c.in_ok-octet-2.was,
      sym c.octet-3.ensures ∙ c.in_err-octet-3.was,
    ) c.from_residual-in_err-octet-3.ensures

pub returns-in_err-octet-4 : goal.returns-in_err-octet-4
returns-in_err-octet-4 c =
    let e = octets_cut c.args.text.now c.in_ok-first.first.now c.in_ok-first.rest.now c.in_ok-second.second.now
    c.in_ok-second.rest.now c.in_ok-third.third.now c.in_ok-third.fourth.now
    (rw c.in_ok-first.was at c.cut_at.ensures.pieces) (rw c.in_ok-second.was at c.cut_at-2.ensures.pieces)
    (rw c.in_ok-third.was at c.cut_at-3.ensures.pieces) in
    rw (
      e,
      sym c.octet.ensures ∙ c.in_ok-octet.was,
      sym c.octet-2.ensures ∙ c.in_ok-octet-2.was,
      sym c.octet-3.ensures ∙ c.in_ok-octet-3.was,
      sym c.octet-4.ensures ∙ c.in_err-octet-4.was,
    ) c.from_residual-in_err-octet-4.ensures

pub returns : goal.returns
returns c =
    let e = octets_cut c.args.text.now c.in_ok-first.first.now c.in_ok-first.rest.now c.in_ok-second.second.now
    c.in_ok-second.rest.now c.in_ok-third.third.now c.in_ok-third.fourth.now
    (rw c.in_ok-first.was at c.cut_at.ensures.pieces) (rw c.in_ok-second.was at c.cut_at-2.ensures.pieces)
    (rw c.in_ok-third.was at c.cut_at-3.ensures.pieces) in
    rw (
      e,
      sym c.octet.ensures ∙ c.in_ok-octet.was,
      sym c.octet-2.ensures ∙ c.in_ok-octet-2.was,
      sym c.octet-3.ensures ∙ c.in_ok-octet-3.was,
      sym c.octet-4.ensures ∙ c.in_ok-octet-4.was,
    ) (search rules)
