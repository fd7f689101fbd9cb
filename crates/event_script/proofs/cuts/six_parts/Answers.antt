use Rattle.std.proofs.Common.{[], ◌∷◌, refl, sym, ap, ◌∙◌, option_map}
use Rattle.event_script.specs.ScriptValues.{cut_value, six_value}
use Rattle.event_script.proofs.Separators.{is_some-map, six-cut, six-ended, six-passed}
use Rattle.event_script.proofs.cuts.six_parts.Goals as goal

pub returns-in_err-first : goal.returns-in_err-first
returns-in_err-first c =
    ap (option_map six_value) c.from_residual.ensures
    ∙ sym (six-cut c.args.separator c.args.text.now [] _ refl c.in_err-first.ensures)

pub returns-in_err-second : goal.returns-in_err-second
returns-in_err-second c =
    ap (option_map six_value) c.from_residual-in_err-second.ensures
    ∙ sym (six-cut c.args.separator c.args.text.now (cut_value c.in_ok-first.first ∷ []) _ (
      c.in_ok-first.ensures,
      refl,
    ) c.in_err-second.ensures)

pub returns-in_err-third : goal.returns-in_err-third
returns-in_err-third c =
    ap (option_map six_value) c.from_residual-in_err-third.ensures
    ∙ sym
    (six-cut c.args.separator c.args.text.now
    (cut_value c.in_ok-first.first ∷ cut_value c.in_ok-second.second ∷ []) _ (
      c.in_ok-first.ensures,
      (c.in_ok-second.ensures, refl),
    ) c.in_err-third.ensures)

pub returns-in_err-fourth : goal.returns-in_err-fourth
returns-in_err-fourth c =
    ap (option_map six_value) c.from_residual-in_err-fourth.ensures
    ∙ sym
    (six-cut c.args.separator c.args.text.now
    (cut_value c.in_ok-first.first ∷ cut_value c.in_ok-second.second ∷ cut_value c.in_ok-third.third ∷ []) _
    (c.in_ok-first.ensures, (c.in_ok-second.ensures, (c.in_ok-third.ensures, refl))) c.in_err-fourth.ensures)

pub returns-in_err-fifth : goal.returns-in_err-fifth
returns-in_err-fifth c =
    ap (option_map six_value) c.from_residual-in_err-fifth.ensures
    ∙ sym
    (six-cut c.args.separator c.args.text.now
    (cut_value c.in_ok-first.first ∷ cut_value c.in_ok-second.second ∷ cut_value c.in_ok-third.third
    ∷ cut_value c.in_ok-fourth.fourth ∷ []) _ (
      c.in_ok-first.ensures,
      (c.in_ok-second.ensures, (c.in_ok-third.ensures, (c.in_ok-fourth.ensures, refl))),
    ) c.in_err-fifth.ensures)

pub returns-then-is_some : goal.returns-then-is_some
returns-then-is_some c =
    sym (six-passed c.args.separator c.args.text.now (cut_value c.in_ok-first.first) (cut_value c.in_ok-second.second)
    (cut_value c.in_ok-third.third) (cut_value c.in_ok-fourth.fourth)
    (cut_value c.in_ok-fifth.fifth) c.in_ok-fifth.fifth.rest.now
    (option_map cut_value c.cut_at-6.result) (
      c.in_ok-first.ensures,
      (c.in_ok-second.ensures, (c.in_ok-third.ensures, (c.in_ok-fourth.ensures, (c.in_ok-fifth.ensures, refl)))),
    )
    c.cut_at-6.ensures
    (is_some-map cut_value c.cut_at-6.result ∙ sym c.is_some.ensures ∙ c.if-is_some.true))

pub returns : goal.returns
returns c =
    sym
    (six-ended c.args.separator c.args.text.now
    (cut_value c.in_ok-first.first ∷ cut_value c.in_ok-second.second ∷ cut_value c.in_ok-third.third
    ∷ cut_value c.in_ok-fourth.fourth ∷ cut_value c.in_ok-fifth.fifth ∷ []) c.in_ok-fifth.fifth.rest.now
    (option_map cut_value c.cut_at-6.result) (
      c.in_ok-first.ensures,
      (c.in_ok-second.ensures, (c.in_ok-third.ensures, (c.in_ok-fourth.ensures, (c.in_ok-fifth.ensures, refl)))),
    )
    c.cut_at-6.ensures
    (is_some-map cut_value c.cut_at-6.result ∙ sym c.is_some.ensures ∙ c.if-is_some.false))
