-- Texts that lack a separator, and a text's parts between five of them.
use Rattle.std.proofs.Common.{◌≡◌, ℕ, ◌+◌, ◌*◌, ◌<◌, ◌≤◌, true, false, true≢false, List, [], ◌∷◌, ◌++◌, length, take}
use Rattle.std.proofs.Common.{drop, nat_lt, nat_le, option_map, Option, Some, None, refl, sym, ap, ◌∙◌, arith, ◌==◌}
use Rattle.std.proofs.Common.{◌&&◌}
use Rattle.std.specs.Prelude.{All, is_some}
use Rattle.std.specs.List.{join_with_byte, position_or_len, slice_split}
use Rattle.std.proofs.lemmas.Bool.{eq-eqb, eqb-true, ltb-true, ltb-false}
use Rattle.std.proofs.lemmas.Bool.Decides.{nat_tests}
use Rattle.std.proofs.lemmas.List.Elements.{All-append, All-cons, All-nil, All-weaker}
use Rattle.std.proofs.lemmas.List.Splits.{join_with_byte-slice_split, length-slice_split, slice_split_at}
use Rattle.std.proofs.lemmas.List.Splits.{slice_split_first, slice_split_none}
use Rattle.std.proofs.lemmas.List.Sums.{fails_before_first}
use Rattle.protocol.specs.Made.{IsCodeByte}
use Rattle.protocol.specs.Time.{decimal_digit, decimal_number}
use Rattle.protocol.proofs.FoundLemmas.{both}
use Rattle.event_script.specs.Script.{ScriptCut, Six, cut_by, decimal_of, six_in, six_of}

-- ---- texts without a separator

-- The byte stands nowhere in the text.
abbrev pub Lacks : ℕ → List ℕ → Type 0
Lacks s text = All (λ b. (b == s) ≡ false) text

number_tail : (b n m : ℕ) (bs : List ℕ) (o : Option ℕ) → decimal_digit b ≡ o → decimal_number n (b ∷ bs) ≡ Some m
    → (v : ℕ) × (decimal_digit b ≡ Some v) × (decimal_number (10 * n + v) bs ≡ Some m)
number_tail b n m bs None none e = let no : None ≡ Some m = rw none at e in absurd cc
number_tail b n m bs (Some v) some e = (v, some, rw some at e)

digits-lack : (s : ℕ) → decimal_digit s ≡ None → (d : List ℕ) (n m : ℕ) → decimal_number n d ≡ Some m → Lacks s d
digits-lack s none [] n m e = All-nil (λ b. (b == s) ≡ false)
digits-lack s none (b ∷ bs) n m e =
    let tail = number_tail b n m bs (decimal_digit b) refl e in
    All-cons (λ x. (x == s) ≡ false) b bs
    (both (b == s)
    (λ y. let same : decimal_digit b ≡ None = ap decimal_digit (eqb-true b s y) ∙ none in let two : Some tail.0 ≡ None =
    sym tail.1 ∙ same in absurd cc)
    (λ n. n))
    (digits-lack s none bs (10 * n + tail.0) m tail.2)

-- a number has no byte that is no digit
pub number-lacks : (s : ℕ) → decimal_digit s ≡ None → (d : List ℕ) (n : ℕ) → decimal_of d ≡ Some n → Lacks s d
number-lacks s no_digit d n e =
    both (nat_le 1 (length d) && nat_le (length d) 10)
    (λ y. digits-lack s no_digit d 0 n (rw y at e))
    (λ bad. let no_number : None ≡ Some n = rw bad at e in absurd cc)

space_is_no_code_byte : (b : ℕ) → IsCodeByte b → (b == 32) ≡ false
space_is_no_code_byte b h = grind (arith, nat_tests)

-- nor has a code a space
pub code-lacks_space : (code : List ℕ) → All IsCodeByte code → Lacks 32 code
code-lacks_space code each = All-weaker IsCodeByte (λ b. (b == 32) ≡ false) space_is_no_code_byte code each

-- a byte between two texts
pub lacks-between : (s b : ℕ) (front rest : List ℕ) → (b == s) ≡ false → Lacks s front → Lacks s rest
    → Lacks s (front ++ b ∷ rest)
lacks-between s b front rest e x y =
    All-append (λ c. (c == s) ≡ false) front (b ∷ rest) x (All-cons (λ c. (c == s) ≡ false) b rest e y)

-- ---- six parts

part-at : (s : ℕ) (front rest : List ℕ) (parts : List (List ℕ)) → Lacks s front → slice_split (λ b. b == s) rest ≡ parts
    → slice_split (λ b. b == s) (front ++ s ∷ rest) ≡ front ∷ parts
part-at s front rest parts lacks e = slice_split_at (λ b. b == s) front s rest lacks (eq-eqb s s refl)
    ∙ ap (λ ps. front ∷ ps) e

-- six texts that a separator joins are cut at it
pub six-made : (s : ℕ) (x : Six) → Lacks s x.first → Lacks s x.second → Lacks s x.third → Lacks s x.fourth
    → Lacks s x.fifth → Lacks s x.sixth
    → six_of s (join_with_byte s (x.first ∷ x.second ∷ x.third ∷ x.fourth ∷ x.fifth ∷ x.sixth ∷ [])) ≡ Some x
six-made s x a b c d e f =
    ap six_in
    (part-at s x.first _ _ a
    (part-at s x.second _ _ b (part-at s x.third _ _ c (part-at s x.fourth _ _ d (part-at s x.fifth _ _ e
    (slice_split_none (λ b. b == s) x.sixth f))))))

six-list : (parts : List (List ℕ)) (x : Six) → six_in parts ≡ Some x
    → parts ≡ x.first ∷ x.second ∷ x.third ∷ x.fourth ∷ x.fifth ∷ x.sixth ∷ []
six-list [] x e = absurd cc
six-list (a ∷ []) x e = absurd cc
six-list (a ∷ b ∷ []) x e = absurd cc
six-list (a ∷ b ∷ c ∷ []) x e = absurd cc
six-list (a ∷ b ∷ c ∷ d ∷ []) x e = absurd cc
six-list (a ∷ b ∷ c ∷ d ∷ g ∷ []) x e = absurd cc
six-list (a ∷ b ∷ c ∷ d ∷ g ∷ h ∷ []) x e =
    let same : record { first = a; second = b; third = c; fourth = d; fifth = g; sixth = h } ≡ x = cc in
    ap (λ (y : Six). y.first ∷ y.second ∷ y.third ∷ y.fourth ∷ y.fifth ∷ y.sixth ∷ []) same
six-list (a ∷ b ∷ c ∷ d ∷ g ∷ h ∷ i ∷ more) x e = absurd cc

-- a text that is cut into six parts is their join
pub six-whole : (s : ℕ) (text : List ℕ) (x : Six) → six_of s text ≡ Some x
    → text ≡ join_with_byte s (x.first ∷ x.second ∷ x.third ∷ x.fourth ∷ x.fifth ∷ x.sixth ∷ [])
six-whole s text x e = sym (join_with_byte-slice_split s text)
    ∙ ap (join_with_byte s) (six-list (slice_split (λ b. b == s) text) x e)

-- ---- one cut after the other

-- where there is a separator
next-part : (s : ℕ) (text : List ℕ) (cut : ScriptCut) → Some cut ≡ cut_by s text
    → slice_split (λ b. b == s) text ≡ cut.front ∷ slice_split (λ b. b == s) cut.rest
next-part s text cut e =
    both (nat_lt (position_or_len (λ b. b == s) text) (length text))
    (λ y. let is : Some cut ≡ Some
    (record {
      front = take (position_or_len (λ b. b == s) text) text;
      rest = drop (position_or_len (λ b. b == s) text + 1) text;
    }) = rw y at e in
    let same : cut ≡ record {
      front = take (position_or_len (λ b. b == s) text) text;
      rest = drop (position_or_len (λ b. b == s) text + 1) text;
    } = cc in
    rw same (slice_split_first (λ b. b == s) text 0 (ltb-true _ _ y)))
    (λ n. let none : Some cut ≡ None = rw n at e in absurd cc)

-- where there is none
last-part : (s : ℕ) (text : List ℕ) → None ≡ cut_by s text → slice_split (λ b. b == s) text ≡ text ∷ []
last-part s text e =
    both (nat_lt (position_or_len (λ b. b == s) text) (length text))
    (λ y. let some : None
    ≡ Some
    (record {
      front = take (position_or_len (λ b. b == s) text) text;
      rest = drop (position_or_len (λ b. b == s) text + 1) text;
    }) = rw y at e in absurd cc)
    (λ n. let far : length text ≤ position_or_len (λ b. b == s) text = ltb-false _ _ n in
    slice_split_none (λ b. b == s) text (λ k d h. fails_before_first (λ b. b == s) text k d (omega arith)))

-- A text is cut so, one cut behind the other, and that is left.
abbrev pub IsCutInto : ℕ → List ℕ → List ScriptCut → List ℕ → Type 0
IsCutInto s text [] rest = text ≡ rest
IsCutInto s text (c ∷ cs) rest = (Some c ≡ cut_by s text) × IsCutInto s c.rest cs rest

-- what stands before the separators, and more parts
abbrev pub fronts : List ScriptCut → List (List ℕ) → List (List ℕ)
fronts [] parts = parts
fronts (c ∷ cs) parts = c.front ∷ fronts cs parts

parts-cut : (s : ℕ) (text : List ℕ) (cs : List ScriptCut) (rest : List ℕ) → IsCutInto s text cs rest
    → slice_split (λ b. b == s) text ≡ fronts cs (slice_split (λ b. b == s) rest)
parts-cut s text [] rest e = ap (slice_split (λ b. b == s)) e
parts-cut s text (c ∷ cs) rest e = next-part s text c e.0 ∙ ap (λ ps. c.front ∷ ps) (parts-cut s c.rest cs rest e.1)

-- the parts of a text whose rest has no separator
pub six-cut : (s : ℕ) (text : List ℕ) (cs : List ScriptCut) (rest : List ℕ) → IsCutInto s text cs rest
    → None ≡ cut_by s rest
    → six_of s text ≡ six_in (fronts cs (rest ∷ []))
six-cut s text cs rest e last = ap six_in (parts-cut s text cs rest e ∙ ap (fronts cs) (last-part s rest last))

seven : (a b c d e f : List ℕ) (more : List (List ℕ)) → 0 < length more → six_in (a ∷ b ∷ c ∷ d ∷ e ∷ f ∷ more) ≡ None
seven a b c d e f [] h = absurd (omega arith)
seven a b c d e f (g ∷ more) h = refl

-- behind five cuts there is one more
pub six-passed : (s : ℕ) (text : List ℕ) (a b c d e : ScriptCut) (rest : List ℕ) (o : Option ScriptCut)
    → IsCutInto s text (a ∷ b ∷ c ∷ d ∷ e ∷ []) rest → o ≡ cut_by s rest → is_some o ≡ true → six_of s text ≡ None
six-passed s text a b c d e rest None cuts is some = absurd (true≢false (sym some))
six-passed s text a b c d e rest (Some f) cuts is some =
    ap six_in (parts-cut s text (a ∷ b ∷ c ∷ d ∷ e ∷ []) rest cuts
    ∙ ap (fronts (a ∷ b ∷ c ∷ d ∷ e ∷ [])) (next-part s rest f is))
    ∙ seven a.front b.front c.front d.front e.front f.front (slice_split (λ x. x == s) f.rest)
    (omega (arith, length-slice_split (λ x. x == s) f.rest))

-- behind five cuts there is none
pub six-ended : (s : ℕ) (text : List ℕ) (cs : List ScriptCut) (rest : List ℕ) (o : Option ScriptCut)
    → IsCutInto s text cs rest
    → o ≡ cut_by s rest → is_some o ≡ false → six_of s text ≡ six_in (fronts cs (rest ∷ []))
six-ended s text cs rest None cuts is none = six-cut s text cs rest cuts is
six-ended s text cs rest (Some f) cuts is none = absurd (true≢false none)

-- whether there is a value does not change as it is changed
pub is_some-map : {A B : Type 0} (f : A → B) (o : Option A) → is_some (option_map f o) ≡ is_some o
is_some-map f None = refl
is_some-map f (Some a) = refl
