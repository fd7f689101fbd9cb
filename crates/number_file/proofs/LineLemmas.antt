-- Lines of TOML one right after the other are read as their expressions.
use Rattle.std.proofs.Common.{◌≡◌, ◌∙◌, ◌-◌, ◌<◌, ◌==◌, ℕ, true, false, List, [], ◌∷◌, ◌++◌, length}
use Rattle.std.proofs.Common.{Option, Some, None, refl, sym, ap, arith}
use Rattle.std.specs.Prelude.{option_and_then}
use Rattle.std.proofs.lemmas.Bool.Decides.{nat_tests}
use Rattle.toml_parser.specs.Lexical.{skip_blank}
use Rattle.toml_parser.proofs.LexicalLemmas.{skip_from-nil}
use Rattle.toml.specs.Tables.{Document, Expression, define}
use Rattle.toml.specs.Parse.{line, lines}
use Rattle.toml.specs.Text.{IsLineText}
use Rattle.toml.proofs.Turns.{lines_end, lines_more, lines_refused}
use Rattle.toml.proofs.Blanks.{skip_newline, skip_within}
use Rattle.toml.proofs.ReadLines.{run, AllPrinted, line_turn}

-- the text writes the expressions, a line each
abbrev pub AreLines : List Expression → List ℕ → Type 0
AreLines [] text = text ≡ []
AreLines (e ∷ es) text =
    (this : List ℕ) × (rest : List ℕ) × (text ≡ this ++ rest) × IsLineText false false e.0 e.1 this × AreLines es rest

step : (m : ℕ) (doc : Document) (x : List ℕ) (e : Expression) (after : List ℕ) (es : List Expression)
    (defined : Option Document) → defined ≡ define doc e → 0 < m → (length (skip_blank x) == 0) ≡ false
    → line (skip_blank x) ≡ Some (e, after)
    → ((next : Document) → lines (m - 1) next after ≡ option_and_then (λ n. run n es) (Some next))
    → lines m doc x ≡ option_and_then (λ n. run n es) defined
step m doc x e after es None same some other read more = lines_refused m doc x e after some other read (sym same)
step m doc x e after es (Some next) same some other read more =
    lines_more m doc next x e after some other read (sym same) ∙ more next

pub lines_read : (es : List Expression) (text x : List ℕ) (doc : Document) (m : ℕ) → AreLines es text → AllPrinted es
    → skip_blank x ≡ skip_blank text → length x < m → lines m doc x ≡ run doc es
lines_read [] text x doc m h ok skip room =
    lines_end m doc x (omega arith) (rw (skip, h, skip_from-nil true false) refl)
lines_read (e ∷ es) text x doc m h ok skip room =
    let (this, rest, whole, line_text, more) = h in
    let (s, at_start, read, some, shorter, not_bom) = line_turn false false e.0 e.1 this rest line_text ok.0 in
    let same : skip_blank x ≡ s = skip ∙ rw whole at_start in
    let other : (length (skip_blank x) == 0) ≡ false = rw same (grind (arith, nat_tests)) in
    let within = skip_within x in
    step m doc x e (10 ∷ rest) es (define doc e) refl (omega arith) other (rw same read)
    (λ next. lines_read es rest (10 ∷ rest) next (m - 1) more ok.1 (skip_newline rest) (omega (arith, ap length same)))
