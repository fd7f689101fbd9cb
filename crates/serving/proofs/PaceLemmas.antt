-- When something is done that is done every so many seconds.
use Rattle.std.proofs.Common.{◌≡◌, ℕ, zero, suc, ◌+◌, ◌-◌, ◌*◌, ◌/◌, ◌<◌, ◌≤◌, ◌↔◌, nat_le, Bool, true, false}
use Rattle.std.proofs.Common.{List, [], ◌∷◌, length, slice_index_or, Option, Some, None, arith}
use Rattle.std.proofs.lemmas.Bool.Decides.{nat_tests}
use Rattle.text_parts.specs.declared.period.Period.TheVariants.{Seconds}
use Rattle.serving.specs.Paces.{ComesOnTime, DontFall, HavePassed, comes_at, comes_by, last_before, last_by}

-- whole seconds passed, by milliseconds
passed-from : (seconds last now : ℕ) → seconds ≤ (now - last) / 1000 → last ≤ now → last + 1000 * seconds ≤ now
passed-from seconds last now h le = omega (arith, h, le)

passed-to : (seconds last now : ℕ) → last + 1000 * seconds ≤ now → seconds ≤ (now - last) / 1000
passed-to seconds last now h = omega (arith, h)

le-from : (a b : ℕ) → nat_le a b ≡ true → a ≤ b
le-from a b h = grind (arith, nat_tests)

le-to : (a b : ℕ) → a ≤ b → nat_le a b ≡ true
le-to a b h = grind (arith, nat_tests)

-- at one look
comes-once : (seconds last : ℕ) (now : Option ℕ) (times : List (Option ℕ)) → DontFall last (now ∷ times)
    → (comes_by (Some (Seconds seconds)) last now ≡ true) ↔ HavePassed seconds last now
comes-once seconds last None times h = (λ (e : false ≡ true). absurd cc, λ no. absurd no)
comes-once seconds last (Some now) times h = (
  λ e. passed-from seconds last now (le-from seconds ((now - last) / 1000) e) h.0,
  λ p. le-to seconds ((now - last) / 1000) (passed-to seconds last now p),
)

falls-none : (last now : ℕ) (times : List (Option ℕ)) → last ≤ now → DontFall now times → DontFall last times
falls-none last now [] le h = tt
falls-none last now (None ∷ times) le h = falls-none last now times le h
falls-none last now (Some t ∷ times) le h = (omega (arith, le, h.0), h.1)

-- the times after it do not fall from when it came last then
falls-on : (c : Bool) (last : ℕ) (now : Option ℕ) (times : List (Option ℕ)) → DontFall last (now ∷ times)
    → DontFall (last_by c last now) times
falls-on true last (Some now) times h = h.1
falls-on true last None times h = h
falls-on false last (Some now) times h = falls-none last now times h.0 h.1
falls-on false last None times h = h

comes-on : (seconds last : ℕ) (times : List (Option ℕ)) → DontFall last times → (i : ℕ) → i < length times →
    (slice_index_or (comes_at (Some (Seconds seconds)) last times) i false ≡ true)
    ↔ HavePassed seconds (last_before last times (comes_at (Some (Seconds seconds)) last times) i)
    (slice_index_or times i None)
comes-on seconds last [] h i lt = absurd (omega (arith, lt))
comes-on seconds last (now ∷ times) h zero lt = comes-once seconds last now times h
comes-on seconds last (now ∷ times) h (suc i) lt =
    let c : Bool = comes_by (Some (Seconds seconds)) last now in
    comes-on seconds (last_by c last now) times (falls-on c last now times h) i (omega (arith, lt))

pub comes-on-time : ComesOnTime
comes-on-time seconds times h i lt = comes-on seconds 0 times h i lt
