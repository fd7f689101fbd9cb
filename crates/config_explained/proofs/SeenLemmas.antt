-- The lines of the stations that an address sees, one after the other.
use Rattle.std.proofs.Common.{◌≡◌, ℕ, ◌+◌, ◌<◌, Bool, List, [], ◌∷◌, ◌++◌, length, take, map, filter, Some, slice_get}
use Rattle.std.proofs.Common.{get_or, append-nil, append_assoc, true, false, refl, sym, ap, ◌∙◌, arith, option_map}
use Rattle.std.proofs.lemmas.List.{take_more, map-append}
use Rattle.std.proofs.lemmas.List.Elements.{filter-append}
use Rattle.std.proofs.lemmas.Option.{gets}
use Rattle.std.specs.Prelude.{unwrap_or}
use Rattle.protocol.specs.Catalog.{Entry, Station}
use Rattle.config_explained.specs.Seen.{lines_of, seen_line}

lines_append : (ss ts : List Station) → lines_of (ss ++ ts) ≡ lines_of ss ++ lines_of ts
lines_append [] ts = refl
lines_append (s ∷ ss) ts =
    ap (λ xs. seen_line s ++ xs) (lines_append ss ts) ∙ sym (append_assoc (seen_line s) (lines_of ss) (lines_of ts))

-- the lines of the stations before a place that pass a test
abbrev pub seen_before : (Entry → Bool) → List Entry → ℕ → List ℕ
seen_before p es i = lines_of (map (λ e. e.station) (filter p (take i es)))

-- a place whose station passes
pub seen_yes : (es : List Entry) (p : Entry → Bool) (text : List ℕ) (i : ℕ) (e : Entry) → text ≡ seen_before p es i
    → i < length es → e ≡ get_or es i e → unwrap_or (option_map p (slice_get es i)) false ≡ true
    → text ++ seen_line e.station ≡ seen_before p es (i + 1)
seen_yes es p text i e so_far lt is passing =
    let at : get_or es i e ≡ e = sym is in
    let some : slice_get es i ≡ Some e = grind (arith, gets) in
    let passes : p e ≡ true = rw some at passing in
    rw (
      take_more es i e lt,
      at,
      filter-append p (take i es) (e ∷ []),
      map-append (λ (x : Entry). x.station) (filter p (take i es)) (filter p (e ∷ [])),
      passes,
      lines_append (map (λ (x : Entry). x.station) (filter p (take i es))) (e.station ∷ []),
      append-nil (seen_line e.station),
      so_far,
    )

-- a place whose station doesn't
pub seen_no : (es : List Entry) (p : Entry → Bool) (text : List ℕ) (i : ℕ) (e : Entry) → text ≡ seen_before p es i
    → i < length es → e ≡ get_or es i e → unwrap_or (option_map p (slice_get es i)) false ≡ false
    → text ≡ seen_before p es (i + 1)
seen_no es p text i e so_far lt is failing =
    let at : get_or es i e ≡ e = sym is in
    let some : slice_get es i ≡ Some e = grind (arith, gets) in
    let fails : p e ≡ false = rw some at failing in
    rw (take_more es i e lt, at, filter-append p (take i es) (e ∷ []), fails, append-nil) so_far

pub ruleset seen_lemmas = (seen_yes, seen_no)
