-- The stations that an address sees, one after the other.
use Rattle.std.proofs.Common.{◌≡◌, ℕ, ◌+◌, ◌<◌, Bool, List, [], ◌∷◌, ◌++◌, length, take, map, filter, Some, slice_get}
use Rattle.std.proofs.Common.{All}
use Rattle.std.proofs.Common.{get_or, append-nil, true, false, sym, arith}
use Rattle.std.proofs.lemmas.List.{take_more, map-append}
use Rattle.std.proofs.lemmas.Option.{gets}
use Rattle.std.proofs.lemmas.List.Elements.{All-push, filter-append}
use Rattle.std.proofs.lemmas.List.Quantifiers.{all_pairs_push}
use Rattle.protocol.specs.Catalog.{Entry}
use Rattle.catalog.specs.Places.{station_at, AreRising}

-- one station more that is seen
pub visible-yes : (es : List Entry) (p : Entry → Bool) (ps : List ℕ) (i : ℕ) (e : Entry)
    → map (station_at es) ps ≡ map (λ e. e.station) (filter p (take i es)) → i < length es → e ≡ get_or es i e
    → p e ≡ true → map (station_at es) (ps ++ i ∷ []) ≡ map (λ e. e.station) (filter p (take (i + 1) es))
visible-yes es p ps i e h lt is y =
    let at : get_or es i e ≡ e = sym is in
    let some : slice_get es i ≡ Some e = grind (arith, gets) in
    rw (
      take_more es i e lt,
      at,
      map-append (station_at es) ps (i ∷ []),
      filter-append p (take i es) (e ∷ []),
      map-append (λ (x : Entry). x.station) (filter p (take i es)) (filter p (e ∷ [])),
      y,
      some,
      h,
    )

-- one station more that is not
pub visible-no : (es : List Entry) (p : Entry → Bool) (ps : List ℕ) (i : ℕ) (e : Entry)
    → map (station_at es) ps ≡ map (λ e. e.station) (filter p (take i es)) → i < length es → e ≡ get_or es i e
    → p e ≡ false → map (station_at es) ps ≡ map (λ e. e.station) (filter p (take (i + 1) es))
visible-no es p ps i e h lt is n =
    let at : get_or es i e ≡ e = sym is in
    rw (take_more es i e lt, at, filter-append p (take i es) (e ∷ []), n, append-nil) h

-- ---- places that rise

-- places below one are below the next
pub all_before : (ps : List ℕ) (i : ℕ) → All (λ p. p < i) ps → All (λ p. p < i + 1) ps
all_before ps i h k d lt = omega (arith, h k d lt)

-- and so are they with that one
pub all_before_more : (ps : List ℕ) (i : ℕ) → All (λ p. p < i) ps → All (λ p. p < i + 1) (ps ++ i ∷ [])
all_before_more ps i h = All-push (λ p. p < i + 1) ps i (all_before ps i h) (omega arith)

-- one place more, above all others
pub rising_more : (ps : List ℕ) (i : ℕ) → AreRising ps → All (λ p. p < i) ps → AreRising (ps ++ i ∷ [])
rising_more ps i rising below = all_pairs_push (λ p q. p < q) ps i rising below

pub ruleset view_lemmas = (visible-yes, visible-no)
