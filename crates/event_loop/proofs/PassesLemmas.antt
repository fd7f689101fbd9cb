-- The passes over all seats, one after the other.
use Rattle.std.proofs.Common.{◌≡◌, ℕ, zero, suc, ◌+◌, ◌<◌, ◌≤◌, List, [], ◌∷◌, ◌++◌, take, drop, length, get_or, set}
use Rattle.std.proofs.Common.{refl, sym, ap, subst, ◌∙◌, append_assoc, append-nil, Option, Some, None, arith}
use Rattle.std.specs.List.{remove}
use Rattle.protocol.specs.Catalog.{Config}
use Rattle.protocol.specs.World.{World}
use Rattle.server_core.specs.ServerValues.{ServerValue, StandsAt}
use Rattle.event_loop.specs.declared.seat.Seat.{Seat}
use Rattle.ports.specs.Calls.{Call}
use Rattle.event_loop.specs.Deeds.{Tally, world_beyond}
use Rattle.event_loop.specs.Going.{Whole}
use Rattle.event_loop.specs.Turns.{SeatPass, Passes, stayed}
use Rattle.event_loop.specs.Turns.Passes.{done, next}
use Rattle.event_loop.specs.Tables.{PassesSoFar, PassesAll, no_seat}
use Rattle.event_loop.proofs.DeedLemmas.{does-nothing, does-then, world_beyond-append}

-- ---- lists

one-up : (i : ℕ) → i + 1 ≡ suc i
one-up i = omega arith

module _ {X : Type 0} where
  take-set : (xs : List X) (i : ℕ) (y : X) → i < length xs → take (suc i) (set xs i y) ≡ take i xs ++ y ∷ []
  take-set [] i y h = absurd (omega (arith, h))
  take-set (x ∷ xs) zero y h = refl
  take-set (x ∷ xs) (suc i) y h = ap (λ l. x ∷ l) (take-set xs i y (omega (arith, h)))

  drop-set : (xs : List X) (i : ℕ) (y : X) → drop (suc i) (set xs i y) ≡ drop (suc i) xs
  drop-set [] i y = refl
  drop-set (x ∷ xs) zero y = refl
  drop-set (x ∷ xs) (suc i) y = drop-set xs i y

  drop-here : (xs : List X) (i : ℕ) (d : X) → i < length xs → drop i xs ≡ get_or xs i d ∷ drop (suc i) xs
  drop-here [] i d h = absurd (omega (arith, h))
  drop-here (x ∷ xs) zero d h = refl
  drop-here (x ∷ xs) (suc i) d h = drop-here xs i d (omega (arith, h))

  take-removed : (xs : List X) (i : ℕ) (y : X) → i < length xs → take i (remove (set xs i y) i) ≡ take i xs
  take-removed [] i y h = absurd (omega (arith, h))
  take-removed (x ∷ xs) zero y h = refl
  take-removed (x ∷ xs) (suc i) y h = ap (λ l. x ∷ l) (take-removed xs i y (omega (arith, h)))

  drop-removed : (xs : List X) (i : ℕ) (y : X) → i < length xs → drop i (remove (set xs i y) i) ≡ drop (suc i) xs
  drop-removed [] i y h = absurd (omega (arith, h))
  drop-removed (x ∷ xs) zero y h = refl
  drop-removed (x ∷ xs) (suc i) y h = drop-removed xs i y (omega (arith, h))

  pub drop-past : (xs : List X) (i : ℕ) → length xs ≤ i → drop i xs ≡ []
  drop-past [] i h = nothing i
    where
      nothing : (i : ℕ) → drop {A = X} i [] ≡ []
      nothing zero = refl
      nothing (suc i) = refl
  drop-past (x ∷ xs) zero h = absurd (omega (arith, h))
  drop-past (x ∷ xs) (suc i) h = drop-past xs i (omega (arith, h))

  pub take-past : (xs : List X) (i : ℕ) → length xs ≤ i → take i xs ≡ xs
  take-past [] i h = nothing i
    where
      nothing : (i : ℕ) → take {A = X} i [] ≡ []
      nothing zero = refl
      nothing (suc i) = refl
  take-past (x ∷ xs) zero h = absurd (omega (arith, h))
  take-past (x ∷ xs) (suc i) h = ap (λ l. x ∷ l) (take-past xs i (omega (arith, h)))

-- ---- passes

stayed-more : (o : Option Seat) (ss : List Seat) → stayed o [] ++ ss ≡ stayed o ss
stayed-more None ss = refl
stayed-more (Some s) ss = refl

pub passes-begin : (limit : ℕ) (config : Config) (w : World) (calls : Option (List Call)) (server : ServerValue)
    (t : Tally) (ss : List Seat) →
    StandsAt server config w → PassesSoFar limit config w calls calls server t t ss [] ss
passes-begin limit config w calls server t ss stands =
    record { deeds = []; does = does-nothing config w calls server t stands; how = λ ds w' ss' p. p }

module _ (limit : ℕ) (config : Config) (w : World) (a b c : Option (List Call)) (mid last : ServerValue)
    (t t' t'' : Tally) (ss : List Seat) where
  pub passes-more : (before : List Seat) (s : Seat) (left : List Seat) (o : Option Seat) →
      PassesSoFar limit config w a b mid t t' ss before (s ∷ left) →
      ((v : World) → StandsAt mid config v → Whole (SeatPass config) limit config v b c last t' t'' s o) →
      PassesSoFar limit config w a c last t t'' ss (before ++ stayed o []) left
  passes-more before s left o so_far pass =
      let v : World = world_beyond config w so_far.deeds in
      let x : Whole (SeatPass config) limit config v b c last t' t'' s o = pass v so_far.does.stands in
      record {
        deeds = so_far.deeds ++ x.deeds;
        does = does-then config w a b c mid last t t' t'' so_far.deeds x.deeds so_far.does x.does;
        how = λ ds w' ss' p.
            subst (λ l. Passes config limit w ss l w' ((before ++ stayed o []) ++ ss'))
            (sym (append_assoc so_far.deeds x.deeds ds))
            (subst (λ l. Passes config limit w ss (so_far.deeds ++ (x.deeds ++ ds)) w' l)
            (ap (λ l. before ++ l) (sym (stayed-more o ss')) ∙ sym (append_assoc before (stayed o []) ss'))
            (so_far.how (x.deeds ++ ds) w' (stayed o ss')
            (next (world_beyond config v x.deeds) o x.deeds ds ss' x.how
            (subst (λ u. Passes config limit u left ds w' ss') (world_beyond-append config w so_far.deeds x.deeds) p)
            refl refl)));
      }

  -- the port at a place stays
  pub passes-stay : (seats : List Seat) (at : ℕ) (s s' : Seat) → at < length seats → s ≡ get_or seats at no_seat →
      PassesSoFar limit config w a b mid t t' ss (take at seats) (drop at seats) →
      ((v : World) → StandsAt mid config v → Whole (SeatPass config) limit config v b c last t' t'' s (Some s')) →
      PassesSoFar limit config w a c last t t'' ss (take (at + 1) (set seats at s')) (drop (at + 1) (set seats at s'))
  passes-stay seats at s s' inside here so_far pass =
      let left : drop at seats ≡ s ∷ drop (suc at) seats = drop-here seats at no_seat inside
      ∙ ap (λ x. x ∷ drop (suc at) seats) (sym here) in
      let more = passes-more (take at seats) s (drop (suc at) seats) (Some s')
      (subst (λ l. PassesSoFar limit config w a b mid t t' ss (take at seats) l) left so_far) pass in
      let front : take at seats ++ s' ∷ [] ≡ take (at + 1) (set seats at s') = sym (take-set seats at s' inside)
      ∙ ap (λ n. take n (set seats at s')) (sym (one-up at)) in
      let back : drop (suc at) seats ≡ drop (at + 1) (set seats at s') = sym (drop-set seats at s')
      ∙ ap (λ n. drop n (set seats at s')) (sym (one-up at)) in
      subst (λ l. PassesSoFar limit config w a c last t t'' ss l (drop (at + 1) (set seats at s'))) front
      (subst (λ l. PassesSoFar limit config w a c last t t'' ss (take at seats ++ s' ∷ []) l) back more)

  -- the port at a place is shut
  pub passes-go : (seats : List Seat) (at : ℕ) (s s' : Seat) → at < length seats → s ≡ get_or seats at no_seat →
      PassesSoFar limit config w a b mid t t' ss (take at seats) (drop at seats) →
      ((v : World) → StandsAt mid config v → Whole (SeatPass config) limit config v b c last t' t'' s None) →
      PassesSoFar limit config w a c last t t'' ss (take at (remove (set seats at s') at))
      (drop at (remove (set seats at s') at))
  passes-go seats at s s' inside here so_far pass =
      let left : drop at seats ≡ s ∷ drop (suc at) seats = drop-here seats at no_seat inside
      ∙ ap (λ x. x ∷ drop (suc at) seats) (sym here) in
      let more = passes-more (take at seats) s (drop (suc at) seats) None
      (subst (λ l. PassesSoFar limit config w a b mid t t' ss (take at seats) l) left so_far) pass in
      let front : take at seats ++ [] ≡ take at (remove (set seats at s') at) = append-nil (take at seats)
      ∙ sym (take-removed seats at s' inside) in
      subst (λ l. PassesSoFar limit config w a c last t t'' ss l (drop at (remove (set seats at s') at))) front
      (subst (λ l. PassesSoFar limit config w a c last t t'' ss (take at seats ++ []) l)
      (sym (drop-removed seats at s' inside)) more)

-- No port is left.
pub passes-end : (limit : ℕ) (config : Config) (w : World) (a b : Option (List Call)) (mid : ServerValue) (t t' : Tally)
    (ss before left : List Seat) →
    left ≡ [] → PassesSoFar limit config w a b mid t t' ss before left → PassesAll limit config w a b mid t t' ss before
passes-end limit config w a b mid t t' ss before left none so_far = record {
  deeds = so_far.deeds;
  does = so_far.does;
  how =
      subst (λ l. Passes config limit w ss l (world_beyond config w so_far.deeds) before) (append-nil so_far.deeds)
      (subst (λ l. Passes config limit w ss (so_far.deeds ++ []) (world_beyond config w so_far.deeds) l)
      (append-nil before)
      (so_far.how [] _ []
      (subst
      (λ l. Passes config limit (world_beyond config w so_far.deeds) l [] (world_beyond config w so_far.deeds) [])
      (sym none) done)));
}
