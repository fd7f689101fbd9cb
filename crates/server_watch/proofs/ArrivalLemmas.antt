-- What is known of all stations, one after the other.
use Rattle.std.proofs.Common.{◌≡◌, ℕ, ◌+◌, ◌<◌, zero, suc, List, [], ◌∷◌, length, get_or, refl, ap, sym, ◌∙◌, arith}
use Rattle.std.proofs.Common.{Option, add-one}
use Rattle.std.specs.Prelude.{slice_get, slice_set}
use Rattle.station_ring.specs.Rings.{RingValue}
use Rattle.server_watch.specs.declared.arrivals.Arrivals.{Arrivals}
use Rattle.server_watch.specs.Watching.{all_noted, noted, noted_of}

-- the first ones are noted, and the others are as they were
abbrev pub up_to : (now count : ℕ) → List Arrivals → List RingValue → List Arrivals
up_to now zero all rs = all
up_to now (suc n) [] rs = []
up_to now (suc n) (a ∷ all) [] = a ∷ all
up_to now (suc n) (a ∷ all) (r ∷ rs) = noted r.pushes now a ∷ up_to now n all rs

pub all_of : (now n : ℕ) (all : List Arrivals) (rs : List RingValue) → n ≡ length all
    → up_to now n all rs ≡ all_noted now all rs
all_of now zero [] rs is = refl
all_of now zero (a ∷ all) rs is = absurd (omega (arith, is))
all_of now (suc n) [] rs is = refl
all_of now (suc n) (a ∷ all) [] is = refl
all_of now (suc n) (a ∷ all) (r ∷ rs) is =
    let rest : n ≡ length all = omega (arith, is) in
    ap (λ t. noted r.pushes now a ∷ t) (all_of now n all rs rest)

-- an element in its own place
same_set : (all : List Arrivals) (n : ℕ) (d : Arrivals) → n < length all → slice_set all n (get_or all n d) ≡ all
same_set [] n d lt = absurd (omega (arith, lt))
same_set (a ∷ all) zero d lt = refl
same_set (a ∷ all) (suc n) d lt =
    let rest : n < length all = omega (arith, lt) in ap (λ t. a ∷ t) (same_set all n d rest)

next : (now n : ℕ) (all : List Arrivals) (rs : List RingValue) (d : Arrivals) → n < length all
    → slice_set (up_to now n all rs) n (noted_of (slice_get rs n) now (get_or (up_to now n all rs) n d))
    ≡ up_to now (suc n) all rs
next now zero [] rs d lt = absurd (omega (arith, lt))
next now zero (a ∷ all) [] d lt = refl
next now zero (a ∷ all) (r ∷ rs) d lt = refl
next now (suc n) [] rs d lt = absurd (omega (arith, lt))
next now (suc n) (a ∷ all) [] d lt = same_set (a ∷ all) (suc n) d lt
next now (suc n) (a ∷ all) (r ∷ rs) d lt =
    let rest : n < length all = omega (arith, lt) in
    ap (λ t. noted r.pushes now a ∷ t) (next now n all rs d rest)

pub one_more : (now n : ℕ) (all : List Arrivals) (rs : List RingValue) (d : Arrivals) → n < length all
    → slice_set (up_to now n all rs) n (noted_of (slice_get rs n) now (get_or (up_to now n all rs) n d))
    ≡ up_to now (n + 1) all rs
one_more now n all rs d lt = next now n all rs d lt ∙ ap (λ m. up_to now m all rs) (sym (add-one n))

-- the loop's step
pub noted_next : (now n : ℕ) (all : List Arrivals) (rs : List RingValue) (ys : List Arrivals) (a new : Arrivals)
    (ring : Option RingValue) → ys ≡ up_to now n all rs → n < length all → a ≡ get_or ys n a → ring ≡ slice_get rs n
    → new ≡ noted_of ring now a → slice_set ys n new ≡ up_to now (n + 1) all rs
noted_next now n all rs ys a new ring so_far lt is there made =
    ap (λ b. slice_set ys n b) made
    ∙ ap (λ r. slice_set ys n (noted_of r now a)) there
    ∙ ap (λ b. slice_set ys n (noted_of (slice_get rs n) now b)) is
    ∙ ap (λ zs. slice_set zs n (noted_of (slice_get rs n) now (get_or zs n a))) so_far
    ∙ one_more now n all rs a lt
