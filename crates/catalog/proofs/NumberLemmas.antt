-- Stations that begin with numbers that are kept.
use Rattle.std.proofs.Common.{◌≡◌, ℕ, zero, suc, ◌+◌, ◌<◌, ◌≤◌, List, [], ◌∷◌, All, length, map, refl, sym, ap, subst}
use Rattle.std.proofs.Common.{◌∙◌, true, false, Some, cond, drop, get_or}
use Rattle.std.specs.List.{position_from}
use Rattle.std.proofs.lemmas.List.{at_drop_more, drop_all, length-map}
use Rattle.std.proofs.lemmas.List.Elements.{All-map}
use Rattle.std.proofs.lemmas.Iterator.Adapters.{position_from-zero}
use Rattle.protocol.specs.Catalog.{Entry, Station, has_codes}
use Rattle.catalog.specs.Indexing.{Finds, HasShortCodes, Places}
use Rattle.catalog.specs.Numbers.{Numbered, entry_by, first_by}
use Rattle.catalog.specs.Places.{HasDistinctCodes, SameCodes, station_at}

-- ---- the first number

module _ (s : Station) (kept : List Numbered) (i : ℕ) (n : Numbered) (inside : i < length kept)
    (there : n ≡ get_or kept i n) where
  next-one : first_by (drop i kept) s ≡ first_by (n ∷ drop (i + 1) kept) s
  next-one = at_drop_more (λ ns. first_by ns s) kept i n inside
      ∙ ap (λ x. first_by (x ∷ drop (i + 1) kept) s) (sym there)

  pub first-here : has_codes n.network n.code s ≡ true → first_by (drop i kept) s ≡ n.next
  first-here is = next-one ∙ rw is refl

  pub first-later : has_codes n.network n.code s ≡ false → first_by (drop i kept) s ≡ first_by (drop (i + 1) kept) s
  first-later other = next-one ∙ rw other refl

pub first-none : (s : Station) (kept : List Numbered) (i : ℕ) → length kept ≤ i → first_by (drop i kept) s ≡ s.first
first-none s kept i past = rw (drop_all i kept past) refl

-- ---- all stations

module _ (kept : List Numbered) where
  -- codes stay as they are
  codes-at : (es : List Entry) (i : ℕ) → SameCodes (station_at (map (entry_by kept) es) i) (station_at es i)
  codes-at [] i = (refl, refl)
  codes-at (e ∷ es) zero = (refl, refl)
  codes-at (e ∷ es) (suc i) = codes-at es i

  pub distinct-by : (es : List Entry) → HasDistinctCodes es → HasDistinctCodes (map (entry_by kept) es)
  distinct-by es distinct i j inside same =
      let a = codes-at es i in
      let b = codes-at es j in
      distinct i j (subst (λ n. i < n) (length-map es (entry_by kept)) inside)
      (sym a.0 ∙ same.0 ∙ b.0, sym a.1 ∙ same.1 ∙ b.1)

  pub short-by : (es : List Entry) → All HasShortCodes es → All HasShortCodes (map (entry_by kept) es)
  short-by es short = All-map HasShortCodes (entry_by kept) es short

  found-by : (network code : List ℕ) (n : ℕ) (es : List Entry)
      → position_from (λ e. has_codes network code e.station) n (map (entry_by kept) es)
      ≡ position_from (λ e. has_codes network code e.station) n es
  found-by network code n [] = refl
  found-by network code n (e ∷ es) =
      ap (λ o. cond (has_codes network code e.station) (Some n) o) (found-by network code (n + 1) es)

  pub finds-by : (places : Places) (es : List Entry) → Finds places es → Finds places (map (entry_by kept) es)
  finds-by places es finds network code are =
      finds network code are
      ∙ position_from-zero (λ e. has_codes network code e.station) es
      ∙ sym (found-by network code 0 es)
      ∙ sym (position_from-zero (λ e. has_codes network code e.station) (map (entry_by kept) es))
