-- Packets are framed and read back, and bytes are one stream or feed only.
use Rattle.std.proofs.Common.{get_or, ◌≡◌, ◌≢◌, ℕ, suc, ◌+◌, ◌<◌, Bool, true, false, List, [], ◌∷◌, ◌++◌, length, take}
use Rattle.std.proofs.Common.{drop, Some, refl, sym, ap, ap₂, ◌∙◌, arith, append_assoc, append-nil, length-append, inl}
use Rattle.std.proofs.Common.{inr}
use Rattle.std.specs.Prelude.{All, codes}
use Rattle.std.specs.List.{concat}
use Rattle.std.proofs.Math.Seq.{take-append_seam, drop-append_seam}
use Rattle.std.proofs.lemmas.List.Elements.{All-nil, All-cons, All-head, All-tail}
use Rattle.protocol.specs.Packet.{number_of, digits, packet, IsPacket, IsSomePacket}
use Rattle.protocol.specs.Streams.{end_mark, IsUnfinished, IsPacketStream, IsFeed}
use Rattle.protocol.proofs.Digits.{number_of-digits}

-- ---- two beginnings of the same length
seam_left : (xs xs' ys ys' : List ℕ) → length xs ≡ length xs' → xs ++ ys ≡ xs' ++ ys' → xs ≡ xs'
seam_left xs xs' ys ys' same whole = sym (take-append_seam xs ys) ∙ ap₂ take same whole ∙ take-append_seam xs' ys'

seam_right : (xs xs' ys ys' : List ℕ) → length xs ≡ length xs' → xs ++ ys ≡ xs' ++ ys' → ys ≡ ys'
seam_right xs xs' ys ys' same whole = sym (drop-append_seam xs ys) ∙ ap₂ drop same whole ∙ drop-append_seam xs' ys'

-- ---- one packet
pub framed : (n : ℕ) (contents : List ℕ) → n < 0x1000000 → length contents ≡ 512
    → IsPacket n contents (packet n contents)
framed n contents low size = record {
  digits = digits n;
  six = refl;
  spelled = number_of-digits n low;
  size = size;
  layout = refl;
}

after_sl : (xs ys : List ℕ) → codes "SL" ++ xs ≡ codes "SL" ++ ys → xs ≡ ys
after_sl xs ys e = seam_right (codes "SL") (codes "SL") xs ys refl e

-- what a packet says
pub record IsSame (n n' : ℕ) (contents contents' : List ℕ) : Type 0 where
  pub same_number : n ≡ n'
  pub same_contents : contents ≡ contents'

pub one_reading : (n n' : ℕ) (contents contents' bytes : List ℕ) → IsPacket n contents bytes
    → IsPacket n' contents' bytes → IsSame n n' contents contents'
one_reading n n' contents contents' bytes p p' =
    let whole = after_sl (p.digits ++ contents) (p'.digits ++ contents') (p.layout ∙ sym p'.layout) in
    let lengths : length p.digits ≡ length p'.digits = p.six ∙ sym p'.six in
    let same : p.digits ≡ p'.digits = seam_left p.digits p'.digits contents contents' lengths whole in
    let e : number_of p.digits ≡ Some n = p.spelled in
    let e' : number_of p'.digits ≡ Some n' = p'.spelled in
    record { same_number = cc; same_contents = seam_right p.digits p'.digits contents contents' lengths whole }

pub packet_length : (n : ℕ) (contents bytes : List ℕ) → IsPacket n contents bytes → length bytes ≡ 520
packet_length n contents bytes p =
    let whole : suc (suc (length p.digits + length contents))
    ≡ length bytes = rw (length-append p.digits contents) at (ap length p.layout) in
    let six = p.six in
    let size = p.size in
    omega arith

-- ---- pieces of one length, and a shorter rest
abbrev HasLength : ℕ → List ℕ → Type 0
HasLength k bytes = length bytes ≡ k

too_short : (k : ℕ) (p : List ℕ) (ps : List (List ℕ)) (t t' : List ℕ) → length p ≡ k → t ≡ concat (p ∷ ps) ++ t'
    → length t < k → ⊥
too_short k p ps t t' size e short =
    let long : length t ≡ length p + length (concat ps) + length t' = ap length e ∙ length-append (p ++ concat ps) t'
    ∙ ap (λ n. n + length t') (length-append p (concat ps)) in
    omega arith

pub record IsOneCut (ps ps' : List (List ℕ)) (t t' : List ℕ) : Type 0 where
  pub pieces : ps ≡ ps'
  pub rest : t ≡ t'

pub one_cut : (k : ℕ) (ps ps' : List (List ℕ)) (t t' : List ℕ) → All (HasLength k) ps → All (HasLength k) ps'
    → concat ps ++ t ≡ concat ps' ++ t' → length t < k → length t' < k → IsOneCut ps ps' t t'
one_cut k [] [] t t' each each' e short short' = record { pieces = refl; rest = e }
one_cut k [] (p' ∷ ps') t t' each each' e short short' =
    absurd (too_short k p' ps' t t' (All-head (HasLength k) p' ps' each') e short)
one_cut k (p ∷ ps) [] t t' each each' e short short' =
    absurd (too_short k p ps t' t (All-head (HasLength k) p ps each) (sym e) short')
one_cut k (p ∷ ps) (p' ∷ ps') t t' each each' e short short' =
    let lengths : length p ≡ length p' = All-head (HasLength k) p ps each ∙ sym (All-head (HasLength k) p' ps' each') in
    let whole : p ++ (concat ps ++ t) ≡ p' ++ (concat ps' ++ t') = sym (append_assoc p (concat ps) t) ∙ e
    ∙ append_assoc p' (concat ps') t' in
    let first = seam_left p p' (concat ps ++ t) (concat ps' ++ t') lengths whole in
    let more = one_cut k ps ps' t t' (All-tail (HasLength k) p ps each) (All-tail (HasLength k) p' ps' each')
    (seam_right p p' (concat ps ++ t) (concat ps' ++ t') lengths whole) short short' in
    record { pieces = ap₂ (λ x xs. x ∷ xs) first more.pieces; rest = more.rest }

-- ---- a feed
pub one_feed : (bytes : List ℕ) (rs rs' : List (List ℕ)) (rest rest' : List ℕ) → IsFeed bytes rs rest
    → IsFeed bytes rs' rest' → IsOneCut rs rs' rest rest'
one_feed bytes rs rs' rest rest' f f' =
    one_cut 512 rs rs' rest rest' f.each f'.each (f.whole ∙ sym f'.whole) f.short f'.short

-- ---- a stream
packets_have_length : (ps : List (List ℕ)) → All IsSomePacket ps → All (HasLength 520) ps
packets_have_length [] each = All-nil (HasLength 520)
packets_have_length (p ∷ ps) each =
    let first = All-head IsSomePacket p ps each in
    All-cons (HasLength 520) p ps (packet_length first.0 first.1 p first.2)
    (packets_have_length ps (All-tail IsSomePacket p ps each))

some_more : (more : List ℕ) → more ≢ [] → 0 < length more
some_more [] some = absurd (some refl)
some_more (b ∷ more) some = omega arith

pub unfinished_short : (rest : List ℕ) → IsUnfinished rest → length rest < 520
unfinished_short rest (more, some, inl p) =
    let size = packet_length p.0 p.1 (rest ++ more) p.2 in
    let lengths = length-append rest more in
    let positive = some_more more some in
    omega arith
unfinished_short rest (more, some, inr e) =
    let size : length (rest ++ more) ≡ 3 = ap length e in
    let lengths = length-append rest more in
    omega arith

tail_short : (ended : Bool) (rest : List ℕ) → (ended ≡ true → rest ≡ []) → (ended ≡ false → IsUnfinished rest)
    → length (end_mark ended ++ rest) < 520
tail_short true rest none unfinished = rw (none refl) (omega arith)
tail_short false rest none unfinished = unfinished_short rest (unfinished refl)

s_is_no_e : {n m : ℕ} → n ≡ m → n ≡ 83 → m ≡ 69 → ⊥
s_is_no_e {n} {m} e is is' = omega arith

end_is_whole : (rest : List ℕ) → codes "END" ≡ rest → IsUnfinished rest → ⊥
end_is_whole rest e (more, some, inl p) = let layout : codes "SL" ++ p.2.digits ++ p.1 ≡ codes "END" ++ more =
    p.2.layout ∙ ap (λ l. l ++ more) (sym e) in
    s_is_no_e (ap (λ l. get_or l 0 0) layout) refl refl
end_is_whole rest e (more, some, inr whole) = let same : codes "END" ++ more ≡ codes "END" = ap (λ l. l ++ more) e
    ∙ whole in some cc

pub record IsOneStream (ps ps' : List (List ℕ)) (ended ended' : Bool) (rest rest' : List ℕ) : Type 0 where
  pub packets : ps ≡ ps'
  pub end : ended ≡ ended'
  pub unread : rest ≡ rest'

one_tail : (ps ps' : List (List ℕ)) (ended ended' : Bool) (rest rest' : List ℕ) → ps ≡ ps'
    → end_mark ended ++ rest ≡ end_mark ended' ++ rest' → (ended ≡ true → rest ≡ []) → (ended' ≡ true → rest' ≡ [])
    → (ended ≡ false → IsUnfinished rest) → (ended' ≡ false → IsUnfinished rest')
    → IsOneStream ps ps' ended ended' rest rest'
one_tail ps ps' true true rest rest' same e none none' left left' =
    record { packets = same; end = refl; unread = none refl ∙ sym (none' refl) }
one_tail ps ps' false false rest rest' same e none none' left left' = record { packets = same; end = refl; unread = e }
one_tail ps ps' true false rest rest' same e none none' left left' =
    absurd (end_is_whole rest' (ap (λ l. codes "END" ++ l) (sym (none refl)) ∙ e) (left' refl))
one_tail ps ps' false true rest rest' same e none none' left left' =
    absurd (end_is_whole rest (ap (λ l. codes "END" ++ l) (sym (none' refl)) ∙ sym e) (left refl))

pub one_stream : (bytes : List ℕ) (ps ps' : List (List ℕ)) (ended ended' : Bool) (rest rest' : List ℕ)
    → IsPacketStream bytes ps ended rest → IsPacketStream bytes ps' ended' rest'
    → IsOneStream ps ps' ended ended' rest rest'
one_stream bytes ps ps' ended ended' rest rest' s s' =
    let cut = one_cut 520 ps ps' (end_mark ended ++ rest) (end_mark ended' ++ rest') (packets_have_length ps s.each)
    (packets_have_length ps' s'.each) (s.whole ∙ sym s'.whole) (tail_short ended rest s.nothing_more s.unfinished)
    (tail_short ended' rest' s'.nothing_more s'.unfinished) in
    one_tail ps ps' ended ended' rest rest' cut.pieces cut.rest s.nothing_more s'.nothing_more s.unfinished
    s'.unfinished

pub nothing_unfinished : IsUnfinished []
nothing_unfinished = (codes "END", λ e. absurd cc, inr refl)

pub whole_stream : (packets : List (List ℕ)) (ended : Bool) → All IsSomePacket packets
    → IsPacketStream (concat packets ++ end_mark ended) packets ended []
whole_stream packets ended each = record {
  each = each;
  whole = ap (λ l. concat packets ++ l) (append-nil (end_mark ended));
  nothing_more = λ e. refl;
  unfinished = λ e. nothing_unfinished;
}
