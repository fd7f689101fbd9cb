-- Laws over the connections that are made one after the other.
use Rattle.std.proofs.Common.{◌≡◌, ℕ, ◌+◌, ◌*◌, ◌-◌, ◌^◌, List, [], ◌∷◌, ◌++◌, true, Ok, Err, sym, subst}
use Rattle.std.proofs.Common.{append_assoc, append-nil, arith, inl, inr, length, length-append, refl}
use Rattle.std.specs.Prelude.{Option}
use Rattle.slreader.specs.Tallies.{TallyValue}
use Rattle.slreader.specs.Wants.{WantValue}
use Rattle.reader_run.specs.declared.fault.ListingFault.{ListingFault}
use Rattle.reader_run.specs.declared.fault.ListingFault.TheVariants.{Reader, Read, Write, State}
use Rattle.reader_run.specs.declared.following.Break.TheVariants.{Listing, Server}
use Rattle.reader_run.specs.Breaks.{StopsVisits}
use Rattle.reader_run.specs.Calls.{Call, ConnectionValue}
use Rattle.reader_run.specs.Calls.Call.{Connects, Fails, PassesOver, Closes}
use Rattle.reader_run.specs.Following.{Follows, reader_on}
use Rattle.reader_run.specs.Following.Follows.{Further}
use Rattle.reader_run.specs.Keeping.{AreBehind, CountsKeeping, Deed, KeepsBehind, KeepsCounted, Tells}
use Rattle.reader_run.specs.Keeping.AreBehind.{Nothing, Last, Keep}
use Rattle.reader_run.specs.Keeping.Deed.{Flushed, Kept}
use Rattle.reader_run.specs.Visits.{Asking, BreaksVisit, EndsVisit, EndsVisits, Progress, StopsVisit, Visits}
use Rattle.reader_run.specs.Visits.Visits.{NoVisit, OneMore}
use Rattle.reader_run.specs.Whole.{CountsWritten, is_told_before}
use Rattle.reader_run.proofs.KeepLaws.{Tells-nil, Tells-trans}

-- more that is kept, one behind the other
behind-append : (Fits Others : TallyValue → Option (List ℕ) → Type 0)
    → ((t : TallyValue) (w : Option (List ℕ)) → Others t w → Fits t w) → (ds es : List Deed) → AreBehind Fits ds
    → AreBehind Others es → AreBehind Fits (ds ++ es)
behind-append Fits Others fits ds _ b Nothing = subst (AreBehind Fits) (sym (append-nil ds)) b
behind-append Fits Others fits ds _ b (Last {ds = es} k written) =
    subst (AreBehind Fits) (append_assoc ds es (Flushed written ∷ []))
    (Last (behind-append Fits Others fits ds es b k) written)
behind-append Fits Others fits ds _ b (Keep {ds = es} k written tally is) =
    subst (AreBehind Fits) (append_assoc ds es (Flushed written ∷ Kept tally ∷ []))
    (Keep (behind-append Fits Others fits ds es b k) written tally (fits tally written is))

-- What is kept at one more connection fits what all of them wrote.
pub follows-keeps : (wants : List WantValue) (t t1 : TallyValue) (records records1 : Option (List ℕ))
    (x y z : Option (List Deed)) → Follows wants t records t1 records1
    → KeepsBehind (λ u w. Follows wants t records u w) x y → KeepsCounted (reader_on wants t1) records1 y z
    → KeepsBehind (λ u w. Follows wants t records u w) x z
follows-keeps wants t t1 records records1 x y z f h k = (
  h.0 ++ k.0,
  Tells-trans x y z h.0 k.0 h.1 k.1,
  behind-append (λ u w. Follows wants t records u w) (λ u w. CountsWritten (reader_on wants t1) u records1 w)
      (λ u w counted. Further f counted) h.0 k.0 h.2 k.2,
)

-- ---- what was done at servers

-- So many connections were made, which broke off and were passed over.
pub record Visited {F : Type 0} (a : Asking) (p p' : Progress) (told told' : Option (List (Call F))) (count : ℕ)
    : Type 0 where
  pub calls : List (Call F)
  pub visits : Visits a p calls p'
  pub called : Tells told told' calls
  pub twice : length calls ≡ 2 * count

pub visited-none : {F : Type 0} → (a : Asking) (p : Progress) (x : Option (List (Call F))) → Visited a p p x x 0
visited-none a p x = record { calls = []; visits = NoVisit; called = Tells-nil x; twice = refl }

both : {F : Type 0} → (x y z w : Option (List (Call F))) (calls : List (Call F)) (c d : Call F) → Tells x y calls
    → Tells y z (c ∷ []) → Tells z w (d ∷ []) → Tells x w (calls ++ c ∷ d ∷ [])
both x y z w calls c d h k l =
    Tells-trans x y w calls (c ∷ d ∷ []) h (Tells-trans y z w (c ∷ []) (d ∷ []) k l)

pub visited-more : {F : Type 0} → (a : Asking) (p p1 p2 : Progress) (x y z w : Option (List (Call F))) (count : ℕ)
    (fault : ListingFault) (c c' : ConnectionValue) → Visited a p p1 x y count → Tells y z (Connects c ∷ [])
    → Tells z w (PassesOver fault c' (Ok tt) ∷ []) → BreaksVisit a fault c c' p1 p2 → Visited a p p2 x w (count + 1)
visited-more a p p1 p2 x y z w count fault c c' v connects passes breaks = record {
  calls = v.calls ++ Connects c ∷ PassesOver fault c' (Ok tt) ∷ [];
  visits = OneMore v.visits fault c c' breaks;
  called = both x y z w v.calls (Connects c) (PassesOver fault c' (Ok tt)) v.called connects passes;
  twice = let twice = v.twice in
      omega (arith, length-append v.calls (Connects c ∷ PassesOver fault c' (Ok tt) ∷ []), twice);
}

-- ---- how it ends

pub visited-end : {F : Type 0} → (a : Asking) (p p1 p2 : Progress) (x y z w : Option (List (Call F))) (count : ℕ)
    (c c' : ConnectionValue) → Visited a p p1 x y count → Tells y z (Connects c ∷ []) → Tells z w (Closes c' ∷ [])
    → EndsVisit a c c' p1 p2 → EndsVisits a p p2 x w
visited-end a p p1 p2 x y z w count c c' v connects closes ends = record {
  calls = v.calls;
  before = p1;
  visits = v.visits;
  from = c;
  to = c';
  called = both x y z w v.calls (Connects c) (Closes c') v.called connects closes;
  ends = ends;
}

pub visited-stopped : {F : Type 0} → (a : Asking) (p p1 p2 : Progress) (x y z w : Option (List (Call F))) (count : ℕ)
    (fault : ListingFault) (c c' : ConnectionValue) → Visited a p p1 x y count → Tells y z (Connects c ∷ [])
    → Tells z w (Closes c' ∷ []) → StopsVisit a fault c c' p1 p2 → StopsVisits (Listing fault) a p p2 x w
visited-stopped a p p1 p2 x y z w count fault c c' v connects closes stops = inl (record {
  calls = v.calls;
  before = p1;
  visits = v.visits;
  from = c;
  to = c';
  called = both x y z w v.calls (Connects c) (Closes c') v.called connects closes;
  stops = stops;
})

pub visited-many : {F : Type 0} → (a : Asking) (p p' : Progress) (x y : Option (List (Call F))) (count : ℕ)
    → Visited a p p' x y count → count ≡ 2 ^ 64 - 1 → StopsVisits (Listing Read) a p p' x y
visited-many a p p' x y count v all = inr (record {
  read = refl;
  calls = v.calls;
  visits = v.visits;
  called = v.called;
  count = let twice = v.twice in subst (λ n. length v.calls ≡ 2 * n) all twice;
})

pub visited-failed : {F : Type 0} → (fault : F) (a : Asking) (p p' : Progress) (x y z : Option (List (Call F)))
    (count : ℕ) → Visited a p p' x y count → Tells y z (Fails fault ∷ []) → StopsVisits (Server fault) a p p' x z
visited-failed fault a p p' x y z count v fails = inl (record {
  calls = v.calls;
  visits = v.visits;
  called = Tells-trans x y z v.calls (Fails fault ∷ []) v.called fails;
})

pub visited-broken : {F : Type 0} → (fault : F) (a : Asking) (p p1 p2 : Progress) (x y z w : Option (List (Call F)))
    (count : ℕ) (why : ListingFault) (c c' : ConnectionValue) → Visited a p p1 x y count
    → Tells y z (Connects c ∷ []) → Tells z w (PassesOver why c' (Err fault) ∷ []) → BreaksVisit a why c c' p1 p2
    → StopsVisits (Server fault) a p p2 x w
visited-broken fault a p p1 p2 x y z w count why c c' v connects passes breaks = inr (record {
  calls = v.calls;
  before = p1;
  visits = v.visits;
  why = why;
  from = c;
  to = c';
  called = both x y z w v.calls (Connects c) (PassesOver why c' (Err fault)) v.called connects passes;
  breaks = breaks;
})

-- No keeper failed at a fault at which all is told.
pub not-keeping : (T : Type 0) (fault : ListingFault) (failures failures' : ℕ) → is_told_before fault ≡ true
    → CountsKeeping {T = T} (Err fault) failures failures' → failures' ≡ failures
not-keeping T (Reader other) failures failures' told h = h
not-keeping T Read failures failures' told h = h
not-keeping T Write failures failures' told h = absurd cc
not-keeping T State failures failures' told h = absurd cc
