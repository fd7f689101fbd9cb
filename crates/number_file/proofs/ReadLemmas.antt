-- One value more of those that describe numbers.
use Rattle.std.proofs.Common.{◌≡◌, ◌<◌, ◌+◌, ℕ, List, [], ◌∷◌, ◌++◌, map, drop, length, get_or, sym, ap, ◌∙◌, Result}
use Rattle.std.proofs.Common.{Ok, Err}
use Rattle.std.proofs.lemmas.List.{at_drop_more}
use Rattle.toml.specs.View.{view}
use Rattle.toml.specs.declared.value.Value.{Value}
use Rattle.catalog.specs.Numbers.{Numbered}
use Rattle.catalog.specs.Steps.{◌>>=◌}
use Rattle.catalog.specs.declared.fault.ConfigFault.{ConfigFault}
use Rattle.number_file.specs.Reading.{number_in, numbers_after}

module _ (earlier : List Numbered) (values : List Value) (i : ℕ) (value : Value) (inside : i < length values)
    (item : value ≡ get_or values i value) where
  abbrev later : List Value
  later = drop (i + 1) values

  -- what is read from here on, by what the next value describes
  next-read : numbers_after earlier (map view (drop i values))
      ≡ (number_in (view value) >>= (λ n. numbers_after (earlier ++ n ∷ []) (map view later)))
  next-read = at_drop_more (λ vs. numbers_after earlier (map view vs)) values i value inside
      ∙ ap (λ v. numbers_after earlier (view v ∷ map view later)) (sym item)

  pub read-on : (more : List Numbered) (n : Numbered) → more ≡ earlier ++ n ∷ [] → number_in (view value) ≡ Ok n
      → numbers_after more (map view later) ≡ numbers_after earlier (map view (drop i values))
  read-on more n pushed read =
      sym (next-read
      ∙ ap (λ (r : Result Numbered ConfigFault). r >>= (λ n. numbers_after (earlier ++ n ∷ []) (map view later))) read
      ∙ ap (λ ns. numbers_after ns (map view later)) (sym pushed))

  pub read-fails : (e : ConfigFault) → number_in (view value) ≡ Err e
      → numbers_after earlier (map view (drop i values)) ≡ Err e
  read-fails e failed = next-read
      ∙ ap (λ (r : Result Numbered ConfigFault). r >>= (λ n. numbers_after (earlier ++ n ∷ []) (map view later))) failed
