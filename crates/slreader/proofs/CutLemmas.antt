-- What a cutter gives of a piece is what the reader byte by byte gives.
use Rattle.std.proofs.Common.{◌≡◌, ℕ, true, subst, List, [], ◌∷◌, ◌++◌, length, take, drop, Some, None, refl, sym, ap}
use Rattle.std.proofs.Common.{◌∙◌, arith, append-nil, take-append-drop}
use Rattle.std.proofs.Math.Seq.{take-length}
use Rattle.std.proofs.lemmas.List.{length-take-le}
use Rattle.std.specs.Prelude.{◌≢◌, Result, Ok, is_err}
use Rattle.std.specs.Borrow.{Bor}
use Rattle.protocol.specs.Streams.{stream_from}
use Rattle.protocol.specs.Streams.StreamRead.{Going, Ended}
use Rattle.sl_packet.specs.Progress.{Progress, gone_on, HasBadByte}
use Rattle.sl_packet.specs.Progress.Progress.{Amid, Finished, Faulty}
use Rattle.sl_packet.specs.Cuts.{IsFed, left_after, left_of}
use Rattle.sl_packet.specs.declared.cutter.Cut.{Cut}
use Rattle.sl_packet.specs.declared.cutter.Fed.{Fed}
use Rattle.sl_packet.specs.declared.cutter.NotAPacket.{NotAPacket as BadPacket}
use Rattle.sl_packet.specs.declared.cutter.Cut.TheVariants as cut
use Rattle.slreader.specs.declared.fault.ReaderFault.TheVariants.{NotAPacket}
use Rattle.slreader.specs.Tallies.{counted}
use Rattle.slreader.specs.Dialogue.{ReaderValue, FirstGiven, at_stage, read_first}
use Rattle.slreader.specs.Dialogue.Stage.{Transfer, Over, Failed}
use Rattle.slreader.specs.Dialogue.Given.{Packet, End}
use Rattle.slreader.specs.ReaderViews.{transfer_stage}
use Rattle.slreader.proofs.TransferLemmas.{no_stream_stays, only_end, good_bytes, packet_bytes, end_bytes, bad_bytes}
use Rattle.slreader.proofs.TransferLemmas.{bad_over, failed_reads}

-- the packet of a stream that has it alone
sole : (p q : List ℕ) → Going (p ∷ []) [] ≡ Going (q ∷ []) [] → p ≡ q
sole p q e = cc

-- a piece, in two parts
in_two : (r : ReaderValue) (n : ℕ) (piece : List ℕ) (f : FirstGiven) → read_first r (take n piece ++ drop n piece) ≡ f
    → read_first r piece ≡ f
in_two r n piece f e = ap (read_first r) (sym (take-append-drop n piece)) ∙ e

nothing_amid : (r : ReaderValue) (rest piece : List ℕ) → stream_from (Going [] rest) piece ≡ Going [] (rest ++ piece)
    → read_first (at_stage r (Transfer rest)) piece
    ≡ record { used = length piece; given = None; reader = at_stage r (Transfer (rest ++ piece)) }
nothing_amid r rest piece s =
    ap (read_first (at_stage r (Transfer rest))) (sym (append-nil piece))
    ∙ good_bytes r rest piece [] (rest ++ piece) s
    ∙ ap (λ n. record { used = n; given = None; reader = at_stage r (Transfer (rest ++ piece)) }) (omega arith)

nothing_over : (r : ReaderValue) (piece : List ℕ) → stream_from (Ended []) piece ≡ Ended []
    → read_first (at_stage r Over) piece ≡ record { used = length piece; given = None; reader = at_stage r Over }
nothing_over r [] s = refl
nothing_over r (b ∷ piece) s = let none = no_stream_stays piece in absurd cc

-- No packet and no second end comes behind the end.
not_ended : (bytes packet : List ℕ) → stream_from (Ended []) bytes ≡ Going (packet ∷ []) [] → ⊥
not_ended [] packet s = absurd cc
not_ended (b ∷ bytes) packet s = let none = no_stream_stays bytes in absurd cc

-- Nothing became whole.
pub fed_nothing : (r : ReaderValue) (before : Progress) (piece : List ℕ) (n : ℕ) → before ≢ Faulty
    → IsFed before piece (record { used = n; cut = cut.Nothing })
    → read_first (at_stage r (transfer_stage before)) piece
    ≡ record { used = n; given = None; reader = at_stage r (transfer_stage (gone_on before piece)) }
fed_nothing r (Amid rest) piece n sound fed =
    nothing_amid r rest piece
    (ap (stream_from (Going [] rest)) (sym (ap (λ k. take k piece) fed.used ∙ take-length piece)) ∙ fed.read [])
    ∙ ap (λ k. record { used = k; given = None; reader = at_stage r (Transfer (rest ++ piece)) }) (sym fed.used)
fed_nothing r Finished piece n sound fed =
    nothing_over r piece (ap (stream_from (Ended [])) (sym (ap (λ k. take k piece) fed.used ∙ take-length piece))
    ∙ fed.read [])
    ∙ ap (λ k. record { used = k; given = None; reader = at_stage r Over }) (sym fed.used)
fed_nothing r Faulty piece n sound fed = absurd (sound refl)

-- A packet became whole.
pub fed_packet : (r : ReaderValue) (before : Progress) (piece : List ℕ) (n : ℕ) (packet : Bor (List ℕ))
    → before ≢ Faulty → IsFed before piece (record { used = n; cut = cut.Packet packet })
    → read_first (at_stage r (transfer_stage before)) piece
    ≡ record {
      used = n;
      given = Some (Packet packet.now);
      reader = record r { stage = Transfer []; tally = counted r.tally packet.now };
    }
fed_packet r (Amid rest) piece n packet sound fed =
    in_two (at_stage r (Transfer rest)) n piece _
    (packet_bytes r rest (take n piece) (drop n piece) packet.now (fed.read [])
    ∙ ap
    (λ k. record {
      used = k;
      given = Some (Packet packet.now);
      reader = record r { stage = Transfer []; tally = counted r.tally packet.now };
    })
    (length-take-le n piece fed.within))
fed_packet r Finished piece n packet sound fed = absurd (not_ended (take n piece) packet.now (fed.read []))
fed_packet r Faulty piece n packet sound fed = absurd (sound refl)

-- The end became whole.
pub fed_end : (r : ReaderValue) (before : Progress) (piece : List ℕ) (n : ℕ) → before ≢ Faulty
    → IsFed before piece (record { used = n; cut = cut.End })
    → read_first (at_stage r (transfer_stage before)) piece
    ≡ record { used = n; given = Some End; reader = at_stage r Over }
fed_end r (Amid rest) piece n sound fed =
    in_two (at_stage r (Transfer rest)) n piece _
    (end_bytes r rest (take n piece) (drop n piece) (fed.read [])
    ∙ ap (λ k. record { used = k; given = Some End; reader = at_stage r Over }) (length-take-le n piece fed.within))
fed_end r Finished piece n sound fed =
    let none : length (take n piece) ≡ 0 = ap length (only_end (take n piece) (fed.read [])) in
    let size = length-take-le n piece fed.within in
    let used = fed.used in
    absurd (omega arith)
fed_end r Faulty piece n sound fed = absurd (sound refl)

-- A byte fits no stream.
pub fed_bad : (r : ReaderValue) (before : Progress) (piece : List ℕ) → (before ≢ Faulty → HasBadByte before piece)
    → read_first (at_stage r (transfer_stage before)) piece
    ≡ record { used = length piece; given = None; reader = at_stage r (Failed NotAPacket) }
fed_bad r (Amid rest) piece bad =
    let h = bad (λ e. absurd cc) in
    ap (read_first (at_stage r (Transfer rest))) (sym h.whole)
    ∙ bad_bytes r rest h.good (rest ++ h.good) h.bad h.behind (h.so_far []) (h.fault [])
    ∙ ap (λ l. record { used = length l; given = None; reader = at_stage r (Failed NotAPacket) }) h.whole
fed_bad r Finished piece bad =
    let h = bad (λ e. absurd cc) in
    ap (read_first (at_stage r Over)) (sym h.whole)
    ∙ bad_over r h.good h.bad h.behind (h.so_far [])
    ∙ ap (λ l. record { used = length l; given = None; reader = at_stage r (Failed NotAPacket) }) h.whole
fed_bad r Faulty piece bad = failed_reads r NotAPacket piece

-- ---- the same, by what a cutter answered

-- what was fed, with what was cut
cut_as : (before : Progress) (piece : List ℕ) (fed : Fed) (c : Cut) → fed.cut ≡ c → IsFed before piece fed
    → IsFed before piece (record { used = fed.used; cut = c })
cut_as before piece fed c is h = subst (λ k. IsFed before piece (record { used = fed.used; cut = k })) is h

pub cut_nothing : (r : ReaderValue) (before after : Progress) (piece : List ℕ) (o : Result Fed BadPacket) (fed : Fed)
    → o ≡ Ok fed → (before ≡ Faulty → is_err o ≡ true) → IsFed before piece fed → fed.cut ≡ cut.Nothing
    → after ≡ left_of before piece o
    → read_first (at_stage r (transfer_stage before)) piece
    ≡ record { used = fed.used; given = None; reader = at_stage r (transfer_stage after) }
cut_nothing r before after piece o fed ok for_good h is left =
    fed_nothing r before piece fed.used (λ e. let bad = for_good e in absurd cc)
    (cut_as before piece fed cut.Nothing is h)
    ∙ ap (λ p. record { used = fed.used; given = None; reader = at_stage r (transfer_stage p) })
    (sym (left ∙ ap (left_of before piece) ok ∙ ap (left_after before piece) is))

pub cut_packet : (r : ReaderValue) (before after : Progress) (piece packet : List ℕ) (o : Result Fed BadPacket)
    (fed : Fed) (whole : Bor (List ℕ)) → o ≡ Ok fed → (before ≡ Faulty → is_err o ≡ true) → IsFed before piece fed
    → fed.cut ≡ cut.Packet whole → after ≡ left_of before piece o → packet ≡ whole.now
    → read_first (at_stage r (transfer_stage before)) piece
    ≡ record {
      used = fed.used;
      given = Some (Packet packet);
      reader = record r { stage = transfer_stage after; tally = counted r.tally packet };
    }
cut_packet r before after piece packet o fed whole ok for_good h is left copied =
    fed_packet r before piece fed.used whole (λ e. let bad = for_good e in absurd cc)
    (cut_as before piece fed (cut.Packet whole) is h)
    ∙ ap
    (λ x. record {
      used = fed.used;
      given = Some (Packet x);
      reader = record r { stage = Transfer []; tally = counted r.tally x };
    }) (sym copied)
    ∙ ap
    (λ p. record {
      used = fed.used;
      given = Some (Packet packet);
      reader = record r { stage = transfer_stage p; tally = counted r.tally packet };
    })
    (sym (left ∙ ap (left_of before piece) ok ∙ ap (left_after before piece) is))

pub cut_end : (r : ReaderValue) (before after : Progress) (piece : List ℕ) (o : Result Fed BadPacket) (fed : Fed)
    → o ≡ Ok fed → (before ≡ Faulty → is_err o ≡ true) → IsFed before piece fed → fed.cut ≡ cut.End
    → after ≡ left_of before piece o
    → read_first (at_stage r (transfer_stage before)) piece
    ≡ record { used = fed.used; given = Some End; reader = at_stage r (transfer_stage after) }
cut_end r before after piece o fed ok for_good h is left =
    fed_end r before piece fed.used (λ e. let bad = for_good e in absurd cc) (cut_as before piece fed cut.End is h)
    ∙ ap (λ p. record { used = fed.used; given = Some End; reader = at_stage r (transfer_stage p) })
    (sym (left ∙ ap (left_of before piece) ok ∙ ap (left_after before piece) is))
