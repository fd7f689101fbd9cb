-- Laws over a round of a reading: whatever was listed before it, it goes on from there.
use Rattle.std.proofs.Common.{◌≡◌, ◌≢◌, ℕ, List, Bool, true, false, Ok, Err, refl, ap, subst, ◌∙◌, inl, inr}
use Rattle.std.specs.Prelude.{◌+◌, Option, drop, length}
use Rattle.std.specs.Io.KnownBytes.{Appends, Consumes}
use Rattle.slreader.specs.declared.fault.ReaderFault.TheVariants.{Limit}
use Rattle.slreader.specs.Dialogue.{ReaderValue}
use Rattle.reader_run.specs.declared.fault.ListingFault.{ListingFault}
use Rattle.reader_run.specs.declared.fault.ListingFault.TheVariants.{Reader, Read, Write, State}
use Rattle.reader_run.specs.Keeping.{CountsKeeping}
use Rattle.reader_run.specs.Lines.{OutputValue}
use Rattle.reader_run.specs.Rounds.{Finishes, GoesOn, Moment, Rounds, Sends, StaysInOrder, StopsExchange}
use Rattle.reader_run.specs.Rounds.{StopsTaking, TakesBlock, moment}
use Rattle.reader_run.specs.Stops.{AreBothQuiet, AreQuiet, EndsReading, EndsReads, OneStops, StopsOver, Writes}
use Rattle.reader_run.proofs.OrderLaws.{all-written, listed-first, written-first}
use Rattle.reader_run.proofs.ReadLaws.{ends, fails, goes-on-listed, listed-sent, not-memory, stops}

-- ---- there is no piece

pub exchange-round : (fault : ListingFault) (r r' : ReaderValue) (o : OutputValue)
    (left left' sent sent' lines records : Option (List ℕ)) (failures failures' : ℕ) (writes writes' : Writes) →
    StopsExchange fault r r' left left' sent sent' failures failures' writes writes' →
    Rounds (Err fault) (moment r o left sent lines records) (moment r' o left' sent' lines records)
exchange-round (Reader fault) r r' o left left' sent sent' lines records failures failures' writes writes' h = absurd h
exchange-round Read r r' o left left' sent sent' lines records failures failures' writes writes' h = λ told m t.
    stops Read _ _ _ _ _ _ _ _ _ _ _ _ _
    (listed-sent _ _ _ _ _ _ _ _ _ _ _ _ _ _ t h.sends.written h.sends.reader) h.kept tt
exchange-round Write r r' o left left' sent sent' lines records failures failures' writes writes' h = λ told. absurd cc
exchange-round State r r' o left left' sent sent' lines records failures failures' writes writes' h = absurd h

pub exchange-order : (fault : ListingFault) (r r' : ReaderValue) (o : OutputValue)
    (left left' sent sent' lines records : Option (List ℕ)) (failures failures' : ℕ) (writes writes' : Writes) →
    StopsExchange fault r r' left left' sent sent' failures failures' writes writes' →
    StaysInOrder (moment r o left sent lines records) (moment r' o left' sent' lines records)
exchange-order (Reader fault) r r' o left left' sent sent' lines records failures failures' writes writes' h = absurd h
exchange-order Read r r' o left left' sent sent' lines records failures failures' writes writes' h =
    λ m t. listed-first _ _ _ _ _ _ _ _ _ _ _ _ _ t h.kept
exchange-order Write r r' o left left' sent sent' lines records failures failures' writes writes' h =
    λ m t. listed-first _ _ _ _ _ _ _ _ _ _ _ _ _ t h.kept
exchange-order State r r' o left left' sent sent' lines records failures failures' writes writes' h = absurd h

pub exchange-stopped : (fault : ListingFault) (r r' : ReaderValue) (left left' sent sent' : Option (List ℕ))
    (failures failures' : ℕ) (writes writes' lines records : Writes) →
    StopsExchange fault r r' left left' sent sent' failures failures' writes writes' →
    StopsOver fault (EndsReading failures failures' left') (failures' ≡ failures) writes writes' lines lines
    records records
exchange-stopped (Reader fault) r r' left left' sent sent' failures failures' writes writes' lines records h = absurd h
exchange-stopped Read r r' left left' sent sent' failures failures' writes writes' lines records h =
    (h.ended, (h.quiet, ((refl, refl), (refl, refl))))
exchange-stopped Write r r' left left' sent sent' failures failures' writes writes' lines records h =
    (h.unread, inl (h.stopped, ((refl, refl), (refl, refl))))
exchange-stopped State r r' left left' sent sent' failures failures' writes writes' lines records h = absurd h

pub exchange-plan : (fault : ListingFault) (r r' : ReaderValue) (left left' sent sent' : Option (List ℕ))
    (failures failures' : ℕ) (writes writes' : Writes) →
    StopsExchange fault r r' left left' sent sent' failures failures' writes writes' → fault ≢ Reader Limit
exchange-plan (Reader fault) r r' left left' sent sent' failures failures' writes writes' h = absurd h
exchange-plan Read r r' left left' sent sent' failures failures' writes writes' h = λ is. absurd cc
exchange-plan Write r r' left left' sent sent' failures failures' writes writes' h = λ is. absurd cc
exchange-plan State r r' left left' sent sent' failures failures' writes writes' h = absurd h

pub exchange-state : (fault : ListingFault) (r r' : ReaderValue) (left left' sent sent' : Option (List ℕ))
    (failures failures' : ℕ) (writes writes' : Writes) →
    StopsExchange fault r r' left left' sent sent' failures failures' writes writes' → fault ≢ State
exchange-state (Reader fault) r r' left left' sent sent' failures failures' writes writes' h = absurd h
exchange-state Read r r' left left' sent sent' failures failures' writes writes' h = λ is. absurd cc
exchange-state Write r r' left left' sent sent' failures failures' writes writes' h = λ is. absurd cc
exchange-state State r r' left left' sent sent' failures failures' writes writes' h = absurd h

-- ---- a piece is not taken

pub taking-round : (fault : ListingFault) (r r1 r2 : ReaderValue) (o o2 : OutputValue)
    (left left' sent sent1 lines lines' records records' : Option (List ℕ)) (piece : List ℕ) (quiet stopped : Type 0) →
    Sends r r1 sent sent1 → Consumes left left' piece →
    StopsTaking fault r1 r2 o o2 piece lines lines' records records' quiet stopped →
    Rounds (Err fault) (moment r o left sent lines records) (moment r2 o2 left' sent1 lines' records')
taking-round (Reader fault) r r1 r2 o o2 left left' sent sent1 lines lines' records records' piece quiet stopped s read
    h = λ told m t.
    let failed = h.0.fails (not-memory fault told) in
    let wrote = h.0.written in
    fails fault _ _ _ _ _ _ _ _ _ _ _ _ _ _ _ _ _ _ _
    (listed-sent _ _ _ _ _ _ _ _ _ _ _ _ _ _ t s.written s.reader) failed read wrote.listed wrote.kept wrote.cleared
taking-round Read r r1 r2 o o2 left left' sent sent1 lines lines' records records' piece quiet stopped s read h =
    absurd h
taking-round Write r r1 r2 o o2 left left' sent sent1 lines lines' records records' piece quiet stopped s read h =
    λ told. absurd cc
taking-round State r r1 r2 o o2 left left' sent sent1 lines lines' records records' piece quiet stopped s read h =
    absurd h

pub taking-order : (fault : ListingFault) (r r1 r2 : ReaderValue) (o o2 : OutputValue)
    (left left' sent sent1 lines lines' records records' : Option (List ℕ)) (piece : List ℕ) (quiet stopped : Type 0) →
    Sends r r1 sent sent1 → Consumes left left' piece →
    StopsTaking fault r1 r2 o o2 piece lines lines' records records' quiet stopped →
    StaysInOrder (moment r o left sent lines records) (moment r2 o2 left' sent1 lines' records')
taking-order (Reader fault) r r1 r2 o o2 left left' sent sent1 lines lines' records records' piece quiet stopped s read
    h =
    λ m t. all-written _ _ _ _ _ _ _ _ _ _ _ _ _ _ _ _ _
    (listed-sent _ _ _ _ _ _ _ _ _ _ _ _ _ _ t s.written s.reader) h.0.written.first read h.0.written.listed
    h.0.written.kept
taking-order Read r r1 r2 o o2 left left' sent sent1 lines lines' records records' piece quiet stopped s read h =
    absurd h
taking-order Write r r1 r2 o o2 left left' sent sent1 lines lines' records records' piece quiet stopped s read h =
    λ m t. written-first _ _ _ _ _ _ _ _ _ _ _ _ _ _ _ _ _
    (listed-sent _ _ _ _ _ _ _ _ _ _ _ _ _ _ t s.written s.reader) h.0.first read h.0.order
taking-order State r r1 r2 o o2 left left' sent sent1 lines lines' records records' piece quiet stopped s read h =
    absurd h

pub taking-stopped : (fault : ListingFault) (r r' : ReaderValue) (o o' : OutputValue) (piece : List ℕ)
    (lines lines' records records' : Option (List ℕ)) (ended : Type 0) (failures failures' : ℕ)
    (w w' l l' k k' : Writes) → failures' ≡ failures → AreQuiet w w' →
    StopsTaking fault r r' o o' piece lines lines' records records' (AreBothQuiet l l' k k') (OneStops l l' k k') →
    StopsOver fault ended (failures' ≡ failures) w w' l l' k k'
taking-stopped (Reader fault) r r' o o' piece lines lines' records records' ended failures failures' w w' l l' k k' same
    quiet h = (same, (quiet, h.1))
taking-stopped Read r r' o o' piece lines lines' records records' ended failures failures' w w' l l' k k' same quiet h =
    absurd h
taking-stopped Write r r' o o' piece lines lines' records records' ended failures failures' w w' l l' k k' same quiet
    h = (same, inr (quiet, h.1))
taking-stopped State r r' o o' piece lines lines' records records' ended failures failures' w w' l l' k k' same quiet
    h = absurd h

pub taking-plan : (fault : ListingFault) (r r' : ReaderValue) (o o' : OutputValue) (piece : List ℕ)
    (lines lines' records records' : Option (List ℕ)) (quiet stopped : Type 0) →
    StopsTaking fault r r' o o' piece lines lines' records records' quiet stopped → fault ≢ Reader Limit
taking-plan (Reader fault) r r' o o' piece lines lines' records records' quiet stopped h =
    λ is. let late : fault ≡ Limit = cc in h.0.late late
taking-plan Read r r' o o' piece lines lines' records records' quiet stopped h = absurd h
taking-plan Write r r' o o' piece lines lines' records records' quiet stopped h = λ is. absurd cc
taking-plan State r r' o o' piece lines lines' records records' quiet stopped h = absurd h

pub taking-state : (fault : ListingFault) (r r' : ReaderValue) (o o' : OutputValue) (piece : List ℕ)
    (lines lines' records records' : Option (List ℕ)) (quiet stopped : Type 0) →
    StopsTaking fault r r' o o' piece lines lines' records records' quiet stopped → fault ≢ State
taking-state (Reader fault) r r' o o' piece lines lines' records records' quiet stopped h = λ is. absurd cc
taking-state Read r r' o o' piece lines lines' records records' quiet stopped h = absurd h
taking-state Write r r' o o' piece lines lines' records records' quiet stopped h = λ is. absurd cc
taking-state State r r' o o' piece lines lines' records records' quiet stopped h = absurd h

-- ---- a piece is taken

pub taken-on : (r r1 r2 : ReaderValue) (o o2 : OutputValue)
    (left left' sent sent1 lines lines' records records' : Option (List ℕ)) (piece : List ℕ) (is_over : Bool) →
    Sends r r1 sent sent1 → Consumes left left' piece → is_over ≡ false
    → TakesBlock r1 r2 o o2 piece is_over lines lines' records records' →
    GoesOn (moment r o left sent lines records) (moment r2 o2 left' sent1 lines' records')
taken-on r r1 r2 o o2 left left' sent sent1 lines lines' records records' piece is_over s read goes_on taken =
    let h = subst (λ b. TakesBlock r1 r2 o o2 piece b lines lines' records records') goes_on taken in
    λ m t. goes-on-listed _ _ _ _ _ _ _ _ _ _ _ _ _ _ _ _ _ _ _
    (listed-sent _ _ _ _ _ _ _ _ _ _ _ _ _ _ t s.written s.reader) h.takes read h.written.listed h.written.kept
    h.written.cleared

-- and what was asked last is sent
pub taken-over : (r r1 r2 r3 : ReaderValue) (o o2 : OutputValue)
    (left left' sent sent1 sent2 lines lines' records records' : Option (List ℕ)) (piece : List ℕ) (is_over : Bool) →
    Sends r r1 sent sent1 → Consumes left left' piece → is_over ≡ true
    → TakesBlock r1 r2 o o2 piece is_over lines lines' records records'
    → Appends sent1 sent2 (drop r2.sent r2.asked) → r3 ≡ record r2 { sent = r2.sent + length (drop r2.sent r2.asked) } →
    Finishes (moment r o left sent lines records) (moment r3 o2 left' sent2 lines' records')
taken-over r r1 r2 r3 o o2 left left' sent sent1 sent2 lines lines' records records' piece is_over s read over taken more
    is =
    let h = subst (λ b. TakesBlock r1 r2 o o2 piece b lines lines' records records') over taken in
    λ m t. ends _ _ _ _ _ _ _ _ _ _ _ _ _ _ _ _ _ _ _ _
    (listed-sent _ _ _ _ _ _ _ _ _ _ _ _ _ _ t s.written s.reader) h.takes read h.written.listed
    h.written.kept h.written.cleared more r3.tally (ap (λ (x : ReaderValue). x.tally) is)

pub taken-order : (r r1 r2 r3 : ReaderValue) (o o2 : OutputValue)
    (left left' sent sent1 sent2 lines lines' records records' : Option (List ℕ)) (piece : List ℕ) (is_over : Bool) →
    Sends r r1 sent sent1 → Consumes left left' piece
    → TakesBlock r1 r2 o o2 piece is_over lines lines' records records' →
    StaysInOrder (moment r o left sent lines records) (moment r3 o2 left' sent2 lines' records')
taken-order r r1 r2 r3 o o2 left left' sent sent1 sent2 lines lines' records records' piece is_over s read h =
    λ m t. all-written _ _ _ _ _ _ _ _ _ _ _ _ _ _ _ _ _
    (listed-sent _ _ _ _ _ _ _ _ _ _ _ _ _ _ t s.written s.reader) h.written.first read h.written.listed
    h.written.kept

-- ---- rounds, one after the other

pub round-over : (is_over : Bool) (n n' : Moment) → is_over ≡ true → Rounds (Ok is_over) n n' → Finishes n n'
round-over true n n' is h = h
round-over false n n' is h = absurd cc

pub round-on : (is_over : Bool) (n n' : Moment) → is_over ≡ false → Rounds (Ok is_over) n n' → GoesOn n n'
round-on true n n' is h = absurd cc
round-on false n n' is h = h

-- why a round stops, where nothing had failed before it
stopped-as : (fault : ListingFault) (f0 f1 f2 calls calls' : ℕ) (left' : Option (List ℕ)) (w w' l l' k k' : Writes) →
    f1 ≡ f0 → StopsOver fault (EndsReading f1 f2 left') (f2 ≡ f1) w w' l l' k k' →
    StopsOver fault (EndsReads f0 f2 calls calls' left') (f2 ≡ f0) w w' l l' k k'
stopped-as (Reader fault) f0 f1 f2 calls calls' left' w w' l l' k k' same h = (h.0 ∙ same, h.1)
stopped-as Read f0 f1 f2 calls calls' left' w w' l l' k k' same h =
    (inl (subst (λ x. EndsReading x f2 left') same h.0), h.1)
stopped-as Write f0 f1 f2 calls calls' left' w w' l l' k k' same h = (h.0 ∙ same, h.1)
stopped-as State f0 f1 f2 calls calls' left' w w' l l' k k' same h = tt

pub round-stopped : (fault : ListingFault) (f0 f1 f2 calls calls' : ℕ) (left' : Option (List ℕ))
    (w0 w1 w2 l0 l1 l2 k0 k1 k2 : Writes) → f1 ≡ f0 → w1 ≡ w0 → l1 ≡ l0 → k1 ≡ k0 →
    StopsOver fault (EndsReading f1 f2 left') (f2 ≡ f1) w1 w2 l1 l2 k1 k2 →
    StopsOver fault (EndsReads f0 f2 calls calls' left') (f2 ≡ f0) w0 w2 l0 l2 k0 k2
round-stopped fault f0 f1 f2 calls calls' left' w0 w1 w2 l0 l1 l2 k0 k1 k2 same sent listed kept h =
    subst (λ x. StopsOver fault (EndsReads f0 f2 calls calls' left') (f2 ≡ f0) x w2 l0 l2 k0 k2) sent
    (subst (λ x. StopsOver fault (EndsReads f0 f2 calls calls' left') (f2 ≡ f0) w1 w2 x l2 k0 k2) listed
    (subst (λ x. StopsOver fault (EndsReads f0 f2 calls calls' left') (f2 ≡ f0) w1 w2 l1 l2 x k2) kept
    (stopped-as fault f0 f1 f2 calls calls' left' w1 w2 l1 l2 k1 k2 same h)))

-- no keeper failed in it
pub round-keeping : (T : Type 0) (fault : ListingFault) (failures failures' : ℕ) → fault ≢ State → failures' ≡ failures
    → CountsKeeping {T = T} (Err fault) failures failures'
round-keeping T (Reader fault) failures failures' other same = same
round-keeping T Read failures failures' other same = same
round-keeping T Write failures failures' other same = same
round-keeping T State failures failures' other same = absurd (other refl)
