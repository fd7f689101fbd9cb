-- Laws over a reading that goes on: what is counted of it.
use Rattle.std.proofs.Common.{◌≡◌, ◌∙◌, ℕ, List, Bool, true, false, Ok, Err, refl, sym, subst}
use Rattle.std.specs.Prelude.{IfErr, OnOk, Option, Result, if◌then◌else◌}
use Rattle.slreader.specs.Dialogue.{ReaderValue}
use Rattle.slreader.specs.declared.fault.ReaderFault.{ReaderFault}
use Rattle.slreader.specs.Comings.{IsNotBegun}
use Rattle.slreader.specs.declared.fault.ReaderFault.TheVariants.{Limit, OutOfMemory, NotAPacket, AllRefused, BadReply}
use Rattle.slreader.specs.Tallies.{TallyValue}
use Rattle.slreader.specs.Wants.{PlanValue, is_plan}
use Rattle.reader_run.specs.declared.fault.ListingFault.{ListingFault}
use Rattle.reader_run.specs.declared.fault.ListingFault.TheVariants.{Reader, Read, Write, State}
use Rattle.reader_run.specs.Lines.{LineStyle}
use Rattle.reader_run.specs.Stops.{StopsListing}
use Rattle.reader_run.specs.Whole.{EndsCounted, IsNotBegunBy, StopsCounted, is_told_before}
use Rattle.reader_run.proofs.ReadLaws.{ends-as, stops-as}

-- a plan that the reader does not begin
pub not-begun : (fault : ReaderFault) (plan : PlanValue) → IsNotBegun fault plan → IsNotBegunBy (Reader fault) plan
not-begun Limit plan h = h
not-begun OutOfMemory plan h = tt
not-begun NotAPacket plan h = h
not-begun AllRefused plan h = h
not-begun BadReply plan h = h

-- A plan that is not begun tells nothing.
pub untold : (fault : ListingFault) (plan : PlanValue) → IsNotBegunBy fault plan → is_told_before fault ≡ false
untold (Reader Limit) plan h = refl
untold (Reader OutOfMemory) plan h = refl
untold (Reader NotAPacket) plan h = absurd h
untold (Reader AllRefused) plan h = absurd h
untold (Reader BadReply) plan h = absurd h
untold Read plan h = absurd h
untold Write plan h = absurd h
untold State plan h = absurd h

pub never : {A : Type 0} → (b : Bool) → b ≡ false → b ≡ true → A
never b is_not is = let bad : true ≡ false = sym is ∙ is_not in absurd cc

pub limited : (fault : ListingFault) (plan : PlanValue) → IsNotBegunBy fault plan → fault ≡ Reader Limit
    → is_plan plan ≡ false
limited (Reader Limit) plan h is = h
limited (Reader OutOfMemory) plan h is = absurd cc
limited (Reader NotAPacket) plan h is = absurd h
limited (Reader AllRefused) plan h is = absurd h
limited (Reader BadReply) plan h is = absurd h
limited Read plan h is = absurd h
limited Write plan h is = absurd h
limited State plan h is = absurd h

taken : (b : Bool) (t old new : TallyValue) → new ≡ (if b then t else old) → b ≡ true → new ≡ t
taken true t old new is so = is
taken false t old new is so = absurd cc

left : (b : Bool) (t old new : TallyValue) → new ≡ (if b then t else old) → b ≡ false → new ≡ old
left true t old new is so = absurd cc
left false t old new is so = is

-- what was counted at the end is the tally
pub ended-ok : {V : Type 0} → (q q' : ReaderValue) (style style' : LineStyle)
    (left left' sent sent' lines lines' records records' : Option (List ℕ)) (r : Result V ListingFault)
    (b : Bool) (t old new : TallyValue) → q ≡ q' → style ≡ style' → OnOk r (b ≡ true)
    → new ≡ (if b then t else old)
    → OnOk r (EndsCounted q t style left left' sent sent' lines lines' records records')
    → OnOk r (EndsCounted q' new style' left left' sent sent' lines lines' records records')
ended-ok q q' style style' left left' sent sent' lines lines' records records' (Ok v) b t old new same alike so is h =
    ends-as q q' new style style' left left' sent sent' lines lines' records records' same alike
    (subst (λ x. EndsCounted q x style left left' sent sent' lines lines' records records')
    (sym (taken b t old new is so)) h)
ended-ok q q' style style' left left' sent sent' lines lines' records records' (Err fault) b t old new same alike so is
    h = tt

-- and at a fault at which all is told
pub stopped-err : {V : Type 0} → (q q' : ReaderValue) (style style' : LineStyle)
    (left left' sent sent' lines lines' records records' : Option (List ℕ)) (r : Result V ListingFault)
    (b : Bool) (t old new : TallyValue) → q ≡ q' → style ≡ style' → IfErr r (λ fault. b ≡ is_told_before fault)
    → new ≡ (if b then t else old)
    → IfErr r (λ fault. is_told_before fault ≡ true
    → StopsCounted fault q t style left left' sent sent' lines lines' records records')
    → IfErr r (λ fault. is_told_before fault ≡ true
    → StopsCounted fault q' new style' left left' sent sent' lines lines' records records')
stopped-err q q' style style' left left' sent sent' lines lines' records records' (Ok v) b t old new same alike told is
    h = tt
stopped-err q q' style style' left left' sent sent' lines lines' records records' (Err fault) b t old new same alike
    told is h = λ so.
    stops-as fault q q' new style style' left left' sent sent' lines lines' records records' same alike
    (subst (λ x. StopsCounted fault q x style left left' sent sent' lines lines' records records')
    (sym (taken b t old new is (told ∙ so))) (h so))

-- at another one it stays
pub kept-err : {V : Type 0} → (r : Result V ListingFault) (b : Bool) (t old new : TallyValue)
    → IfErr r (λ fault. b ≡ is_told_before fault) → new ≡ (if b then t else old)
    → IfErr r (λ fault. is_told_before fault ≡ false → new ≡ old)
kept-err (Ok v) b t old new told is = tt
kept-err (Err fault) b t old new told is = λ so. left b t old new is (told ∙ so)

-- nothing failed where a plan is not begun
pub stops-quietly : (fault : ListingFault) (plan : PlanValue) (ended no_read_failed quiet stopped : Type 0)
    → IsNotBegunBy fault plan → no_read_failed → quiet → StopsListing fault ended no_read_failed quiet stopped
stops-quietly (Reader other) plan ended no_read_failed quiet stopped h read written = (read, written)
stops-quietly Read plan ended no_read_failed quiet stopped h read written = absurd h
stops-quietly Write plan ended no_read_failed quiet stopped h read written = absurd h
stops-quietly State plan ended no_read_failed quiet stopped h read written = absurd h
