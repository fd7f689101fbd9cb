-- Laws over what is kept: it counts what was written and made to last.
use Rattle.std.proofs.Common.{◌≡◌, ℕ, List, [], ◌∷◌, ◌++◌, Bool, true, false, Ok, Err, Some, None, refl, sym, ap}
use Rattle.std.proofs.Common.{subst, ◌∙◌, append_assoc, append-nil, inl, inr}
use Rattle.std.specs.Prelude.{◌⊎◌, Option, Result, OnOk, OnErr, IfErr, if◌then◌else◌}
use Rattle.slreader.specs.Dialogue.{ReaderValue}
use Rattle.slreader.specs.Tallies.{TallyValue}
use Rattle.slreader.specs.Wants.{PlanValue}
use Rattle.reader_run.specs.declared.fault.ListingFault.{ListingFault}
use Rattle.reader_run.specs.declared.fault.ListingFault.TheVariants.{Reader, Read, Write, State}
use Rattle.reader_run.specs.Lines.{OutputValue}
use Rattle.reader_run.specs.Whole.{CountsWritten, IsNotBegunBy, is_told_before}
use Rattle.reader_run.specs.Keeping.{AreBehind, CountsKeeping, Deed, EndsKept, IsStep, KeepsBehind, KeepsCounted}
use Rattle.reader_run.specs.Keeping.{Steps, Tells}
use Rattle.reader_run.specs.Keeping.AreBehind.{Nothing, Last, Keep}
use Rattle.reader_run.specs.Keeping.Deed.{Flushed, Kept}
use Rattle.reader_run.specs.Keeping.IsStep.{Stays, Flushes, Keeps}
use Rattle.reader_run.specs.Rounds.{ListedTo}
use Rattle.reader_run.proofs.CountLaws.{counts-listed}

-- ---- deeds, one after the other

pub Tells-nil : {A : Type 0} → (a : Option (List A)) → Tells a a []
Tells-nil None = tt
Tells-nil (Some ds) = sym (append-nil ds)

pub Tells-trans : {A : Type 0} → (a b c : Option (List A)) (ds es : List A) → Tells a b ds → Tells b c es
    → Tells a c (ds ++ es)
Tells-trans a b None ds es h k = tt
Tells-trans None None (Some xs) ds es h k = absurd k
Tells-trans (Some zs) None (Some xs) ds es h k = absurd k
Tells-trans None (Some ys) (Some xs) ds es h k = absurd h
Tells-trans (Some zs) (Some ys) (Some xs) ds es h k =
    k ∙ ap (λ l. l ++ es) h ∙ append_assoc zs ds es

-- nothing was kept yet
pub keeps-none : (Fits : TallyValue → Option (List ℕ) → Type 0) (a : Option (List Deed)) → KeepsBehind Fits a a
keeps-none Fits a = ([], Tells-nil a, Nothing)

-- nothing is done
pub step-none : (tally : TallyValue) (written : Option (List ℕ)) (a b : Option (List Deed)) → b ≡ a
    → Steps tally written a b
step-none tally written a b same = ([], subst (λ x. Tells a x []) (sym same) (Tells-nil a), Stays)

-- what was written is made to last, and then it is kept or not
pub step-kept : {T E : Type 0} → (tally t : TallyValue) (written : Option (List ℕ)) (a b c : Option (List Deed))
    (r : Result T E) → t ≡ tally → Tells a b (Flushed written ∷ []) → OnOk r (Tells b c (Kept t ∷ []))
    → OnErr r (c ≡ b) → Steps tally written a c
step-kept tally t written a b c (Ok x) is h k same =
    subst (λ u. Steps u written a c) is
    (Flushed written ∷ Kept t ∷ [], Tells-trans a b c (Flushed written ∷ []) (Kept t ∷ []) h k, Keeps)
step-kept tally t written a b c (Err e) is h k same =
    (Flushed written ∷ [], subst (λ x. Tells a x (Flushed written ∷ [])) (sym same) h, Flushes)

pub told-kept : {T E : Type 0} → (tally t : TallyValue) (written : Option (List ℕ)) (a b c : Option (List Deed))
    (r : Result T E) → t ≡ tally → Tells a b (Flushed written ∷ []) → OnOk r (Tells b c (Kept t ∷ []))
    → OnOk r (Tells a c (Flushed written ∷ Kept tally ∷ []))
told-kept tally t written a b c (Ok x) is h k =
    subst (λ u. Tells a c (Flushed written ∷ Kept u ∷ [])) is
    (Tells-trans a b c (Flushed written ∷ []) (Kept t ∷ []) h k)
told-kept tally t written a b c (Err e) is h k = tt

-- one step more
step-on : (Fits : TallyValue → Option (List ℕ) → Type 0) (tally : TallyValue) (written : Option (List ℕ))
    (ds es : List Deed) → Fits tally written → AreBehind Fits ds → IsStep tally written es → AreBehind Fits (ds ++ es)
step-on Fits tally written ds es fits b Stays = subst (AreBehind Fits) (sym (append-nil ds)) b
step-on Fits tally written ds es fits b Flushes = Last b written
step-on Fits tally written ds es fits b Keeps = Keep b written tally fits

pub keeps-on : (Fits : TallyValue → Option (List ℕ) → Type 0) (tally : TallyValue) (written : Option (List ℕ))
    (a b c : Option (List Deed)) → Fits tally written → KeepsBehind Fits a b → Steps tally written b c
    → KeepsBehind Fits a c
keeps-on Fits tally written a b c fits h s =
    (h.0 ++ s.0, Tells-trans a b c h.0 s.0 h.1 s.1, step-on Fits tally written h.0 s.0 fits h.2 s.2)

-- What is listed may be kept.
pub keeps-listed : (r r1 : ReaderValue) (o o1 : OutputValue)
    (left left1 sent sent1 lines lines1 records records1 : Option (List ℕ)) (a b c : Option (List Deed)) →
    ListedTo r r1 o o1 left left1 sent sent1 lines lines1 records records1 → KeepsCounted r records a b
    → Steps r1.tally records1 b c → KeepsCounted r records a c
keeps-listed r r1 o o1 left left1 sent sent1 lines lines1 records records1 a b c t h s =
    keeps-on (λ tally written. CountsWritten r tally records written) r1.tally records1 a b c
    (counts-listed r r1 o o1 left left1 sent sent1 lines lines1 records records1 t) h s

-- ---- at an outcome

-- it is the outcome, or that it was not kept
pub same-ok : {T : Type 0} → (P : Type 0) (r q : Result T ListingFault) → (q ≡ r) ⊎ (q ≡ Err State) → OnOk r P
    → OnOk q P
same-ok P r (Err fault) s h = tt
same-ok P (Ok x) (Ok y) s h = h
same-ok P (Err fault) (Ok y) (inl e) h = absurd cc
same-ok P (Err fault) (Ok y) (inr e) h = absurd cc

pub same-err : {T : Type 0} → (Q : ListingFault → Type 0) (r q : Result T ListingFault) → (q ≡ r) ⊎ (q ≡ Err State)
    → Q State → IfErr r Q → IfErr q Q
same-err Q r (Ok y) s at h = tt
same-err Q (Ok x) (Err fault) (inl e) at h = absurd cc
same-err Q (Err fault') (Err fault) (inl e) at h = let is : fault ≡ fault' = cc in subst Q (sym is) h
same-err Q r (Err fault) (inr e) at h = let is : fault ≡ State = cc in subst Q (sym is) at

told-or-not : (Fits : TallyValue → Option (List ℕ) → Type 0) (b : Bool) (tally : TallyValue)
    (written : Option (List ℕ)) (x y z : Option (List Deed)) → (b ≡ true → Fits tally written)
    → (b ≡ true → Steps tally written y z) → (b ≡ false → z ≡ y) → KeepsBehind Fits x y → KeepsBehind Fits x z
told-or-not Fits true tally written x y z fits told untold h =
    keeps-on Fits tally written x y z (fits refl) h (told refl)
told-or-not Fits false tally written x y z fits told untold h = subst (KeepsBehind Fits x) (sym (untold refl)) h

-- What is kept at an outcome fits as what was kept before.
pub keeps-at : {T : Type 0} → (q q' : ReaderValue) (r : Result T ListingFault) (tally : TallyValue)
    (records written : Option (List ℕ)) (x y z : Option (List Deed)) → q ≡ q'
    → OnOk r (CountsWritten q tally records written)
    → IfErr r (λ fault. is_told_before fault ≡ true → CountsWritten q tally records written)
    → OnOk r (Steps tally written y z) → IfErr r (λ fault. is_told_before fault ≡ true → Steps tally written y z)
    → IfErr r (λ fault. is_told_before fault ≡ false → z ≡ y) → KeepsCounted q records x y → KeepsCounted q' records x z
keeps-at q q' (Ok v) tally records written x y z same counts counted ok told untold h =
    subst (λ p. KeepsCounted p records x z) same
    (keeps-on (λ t w. CountsWritten q t records w) tally written x y z counts h ok)
keeps-at q q' (Err fault) tally records written x y z same counts counted ok told untold h =
    subst (λ p. KeepsCounted p records x z) same
    (told-or-not (λ t w. CountsWritten q t records w) (is_told_before fault) tally written x y z counted told untold h)

-- Last of all it is kept.
pub ends-kept : (Fits : TallyValue → Option (List ℕ) → Type 0) (t tally : TallyValue) (written : Option (List ℕ))
    (x y z : Option (List Deed)) → t ≡ tally → KeepsBehind Fits x y → Tells y z (Flushed written ∷ Kept tally ∷ [])
    → EndsKept t written x z
ends-kept Fits t tally written x y z is h k =
    subst (λ u. EndsKept u written x z) (sym is) (h.0, Tells-trans x y z h.0 _ h.1 k)

-- ---- what was counted last

was-taken : (b : Bool) (t old new : TallyValue) → new ≡ (if b then t else old) → b ≡ true → new ≡ t
was-taken true t old new is so = is
was-taken false t old new is so = absurd cc

pub last-ok : {T : Type 0} → (Fits : TallyValue → Option (List ℕ) → Type 0) (r : Result T ListingFault) (b : Bool)
    (t old new : TallyValue) (written : Option (List ℕ)) (x y z : Option (List Deed)) → OnOk r (b ≡ true)
    → new ≡ (if b then t else old) → KeepsBehind Fits x y → OnOk r (Tells y z (Flushed written ∷ Kept t ∷ []))
    → OnOk r (EndsKept new written x z)
last-ok Fits (Ok v) b t old new written x y z so is h k =
    ends-kept Fits new t written x y z (was-taken b t old new is so) h k
last-ok Fits (Err fault) b t old new written x y z so is h k = tt

pub last-err : {T : Type 0} → (Fits : TallyValue → Option (List ℕ) → Type 0) (r : Result T ListingFault) (b : Bool)
    (t old new : TallyValue) (written : Option (List ℕ)) (x y z : Option (List Deed))
    → IfErr r (λ fault. b ≡ is_told_before fault) → new ≡ (if b then t else old) → KeepsBehind Fits x y
    → IfErr r (λ fault. is_told_before fault ≡ true → Tells y z (Flushed written ∷ Kept t ∷ []))
    → IfErr r (λ fault. is_told_before fault ≡ true → EndsKept new written x z)
last-err Fits (Ok v) b t old new written x y z same is h k = tt
last-err Fits (Err fault) b t old new written x y z same is h k =
    λ told. ends-kept Fits new t written x y z (was-taken b t old new is (same ∙ told)) h (k told)

-- No keeper failed where a plan is not begun.
pub not-kept : (T : Type 0) (fault : ListingFault) (plan : PlanValue) (failures : ℕ) → IsNotBegunBy fault plan
    → CountsKeeping {T = T} (Err fault) failures failures
not-kept T (Reader fault) plan failures h = refl
not-kept T Read plan failures h = refl
not-kept T Write plan failures h = refl
not-kept T State plan failures h = absurd h
