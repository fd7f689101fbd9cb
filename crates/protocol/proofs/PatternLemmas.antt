-- Which records pass a list of patterns, by the words.
use Rattle.std.proofs.Common.{append-nil, append_assoc, ◌==◌, ◌++◌, Option, Some, None, ne_eqb, eqb-true, ◌≡◌, ℕ, ◌<◌}
use Rattle.std.proofs.Common.{Bool, true, false, not, ◌&&◌, List, [], ◌∷◌, length, get_or, refl, sym, ap, ◌∙◌, subst}
use Rattle.std.proofs.Common.{arith, inl, inr}
use Rattle.std.specs.Prelude.{All, ◌↔◌}
use Rattle.std.specs.List.{list_all}
use Rattle.std.specs.Bool.{Decides}
use Rattle.std.proofs.lemmas.Bool.Decides.{Decides-and, Decides-or, Decides-not}
use Rattle.protocol.specs.Record.{Facts}
use Rattle.protocol.specs.declared.record.Kind.{Kind}
use Rattle.protocol.specs.declared.record.Kind.TheVariants.{D, E, C, O, T, L}
use Rattle.protocol.specs.Pattern.Body.{channel_alone, channel_and_type, place_alone, place_and_type, type_alone}
use Rattle.protocol.specs.Pattern.Body.{type_behind_dot}
use Rattle.protocol.specs.Reading.{Not}
use Rattle.protocol.specs.Pattern.{is_letter_or_digit, is_channel_byte, is_location_byte, IsLetterOrDigit}
use Rattle.protocol.specs.Pattern.{IsChannelByte, IsLocationByte, IsChannel, IsLocation, letter, kind_of_letter}
use Rattle.protocol.specs.Pattern.{suffix_of, of_kind, kind_pattern, channel_pattern, place_pattern, body_of}
use Rattle.protocol.specs.Pattern.{pattern_of, Body, IsPattern, Pattern, matches, passes, IsPositive, IsNegative}
use Rattle.protocol.specs.Pattern.{Matches, Passes}
use Rattle.std.proofs.lemmas.Bool.Decides.{nat_tests, Decides-eqb}
use Rattle.std.proofs.lemmas.Bool.{and_parts}
use Rattle.std.proofs.lemmas.List.Elements.{All-head, All-tail}
use Rattle.protocol.proofs.TestLemmas.{decides-all}
use Rattle.protocol.proofs.FoundLemmas.{both}
use Rattle.protocol.proofs.BeginLemmas.{decides-any}

decides-itself : (b : Bool) → Decides b (b ≡ true)
decides-itself b = (λ e. e, λ e. e)

decides-not : (b : Bool) → Decides (not b) (b ≡ false)
decides-not true = (λ e. sym e, λ e. sym e)
decides-not false = (λ e. refl, λ e. refl)

pub decides-passes : (ps : List Pattern) (x : Facts) → Decides (passes ps x) (Passes ps x)
decides-passes ps x =
    Decides-and _ _
    (Decides-or _ _
    (Decides-not _ (decides-any (λ p. not p.negated) IsPositive (λ p. decides-not p.negated) ps))
    (decides-any (λ p. not p.negated && matches x p) (λ p. IsPositive p × Matches x p)
    (λ p. Decides-and _ _ (decides-not p.negated) (decides-itself (matches x p))) ps))
    (Decides-not _
    (decides-any (λ p. p.negated && matches x p) (λ p. IsNegative p × Matches x p)
    (λ p. Decides-and _ _ (decides-itself p.negated) (decides-itself (matches x p))) ps))

-- ---- the bytes of a pattern
decides-letter_or_digit : (b : ℕ) → Decides (is_letter_or_digit b) (IsLetterOrDigit b)
decides-letter_or_digit b = (λ e. grind (arith, nat_tests), λ h. grind (arith, nat_tests))

decides-channel_byte : (b : ℕ) → Decides (is_channel_byte b) (IsChannelByte b)
decides-channel_byte b = Decides-or _ _ (decides-letter_or_digit b) (Decides-eqb b 63)

decides-location_byte : (b : ℕ) → Decides (is_location_byte b) (IsLocationByte b)
decides-location_byte b = Decides-or _ _ (decides-channel_byte b) (Decides-eqb b 45)

decides-channel : (bs : List ℕ) → Decides (list_all is_channel_byte bs) (All IsChannelByte bs)
decides-channel bs = decides-all is_channel_byte IsChannelByte decides-channel_byte bs

decides-location : (bs : List ℕ) → Decides (list_all is_location_byte bs) (All IsLocationByte bs)
decides-location bs = decides-all is_location_byte IsLocationByte decides-location_byte bs

no_dot_at : (b : ℕ) → b ≡ 46 → Not (IsChannelByte b)
no_dot_at b e (inl (inl h)) = let low = h.0 in omega arith
no_dot_at b e (inl (inr (inl h))) = let low = h.0 in omega arith
no_dot_at b e (inl (inr (inr h))) = let low = h.0 in omega arith
no_dot_at b e (inr h) = omega arith

no_dot : (b : ℕ) → IsChannelByte b → (b == 46) ≡ false
no_dot b is = ne_eqb b 46 (λ e. no_dot_at b e is)

-- ---- types
letter_of : (t : ℕ) (k : Kind) → kind_of_letter t ≡ Some k → t ≡ letter k
letter_of t D e = grind (arith, nat_tests)
letter_of t E e = grind (arith, nat_tests)
letter_of t C e = grind (arith, nat_tests)
letter_of t O e = grind (arith, nat_tests)
letter_of t T e = grind (arith, nat_tests)
letter_of t L e = grind (arith, nat_tests)

kind_of-letter : (k : Kind) → kind_of_letter (letter k) ≡ Some k
kind_of-letter D = refl
kind_of-letter E = refl
kind_of-letter C = refl
kind_of-letter O = refl
kind_of-letter T = refl
kind_of-letter L = refl

-- ---- each body is read
abbrev pattern_with : Bool → Option (List ℕ) → Option (List ℕ) → Option Kind → Pattern
pattern_with negated location channel kind =
    record { negated = negated; location = location; channel = channel; kind = kind }

read_channel : (n : Bool) (c : List ℕ) → IsChannel c → body_of n c ≡ Some (pattern_with n None (Some c) None)
read_channel n (x ∷ y ∷ z ∷ []) is = rw ((decides-channel (x ∷ y ∷ z ∷ [])).1 is.bytes)
read_channel n [] is = let size = is.size in absurd (omega arith)
read_channel n (x ∷ []) is = let size = is.size in absurd (omega arith)
read_channel n (x ∷ y ∷ []) is = let size = is.size in absurd (omega arith)
read_channel n (x ∷ y ∷ z ∷ w ∷ c) is = let size = is.size in absurd (omega arith)

read_channel_and_type : (n : Bool) (c : List ℕ) (k : Kind) → IsChannel c
    → body_of n (c ++ 46 ∷ letter k ∷ []) ≡ Some (pattern_with n None (Some c) (Some k))
read_channel_and_type n (x ∷ y ∷ z ∷ []) k is = rw (kind_of-letter k, (decides-channel (x ∷ y ∷ z ∷ [])).1 is.bytes)
read_channel_and_type n [] k is = let size = is.size in absurd (omega arith)
read_channel_and_type n (x ∷ []) k is = let size = is.size in absurd (omega arith)
read_channel_and_type n (x ∷ y ∷ []) k is = let size = is.size in absurd (omega arith)
read_channel_and_type n (x ∷ y ∷ z ∷ w ∷ c) k is = let size = is.size in absurd (omega arith)

place_at : (n : Bool) (a b x y z : ℕ) → IsLocation (a ∷ b ∷ []) → IsChannel (x ∷ y ∷ z ∷ []) → (kind : Option Kind)
    → place_pattern n (a ∷ b ∷ []) (x ∷ y ∷ z ∷ []) kind
    ≡ Some (pattern_with n (Some (a ∷ b ∷ [])) (Some (x ∷ y ∷ z ∷ [])) kind)
place_at n a b x y z is-l is-c kind =
    rw ((decides-location (a ∷ b ∷ [])).1 is-l.bytes, (decides-channel (x ∷ y ∷ z ∷ [])).1 is-c.bytes)

read_place : (n : Bool) (l c : List ℕ) → IsLocation l → IsChannel c
    → body_of n (l ++ c) ≡ Some (pattern_with n (Some l) (Some c) None)
read_place n (a ∷ b ∷ []) (x ∷ y ∷ z ∷ []) is-l is-c =
    rw (no_dot y (All-head IsChannelByte y (z ∷ []) (All-tail IsChannelByte x (y ∷ z ∷ []) is-c.bytes)))
    (place_at n a b x y z is-l is-c None)
read_place n [] c is-l is-c = let size = is-l.size in absurd (omega arith)
read_place n (a ∷ []) c is-l is-c = let size = is-l.size in absurd (omega arith)
read_place n (a ∷ b ∷ d ∷ l) c is-l is-c = let size = is-l.size in absurd (omega arith)
read_place n (a ∷ b ∷ []) [] is-l is-c = let size = is-c.size in absurd (omega arith)
read_place n (a ∷ b ∷ []) (x ∷ []) is-l is-c = let size = is-c.size in absurd (omega arith)
read_place n (a ∷ b ∷ []) (x ∷ y ∷ []) is-l is-c = let size = is-c.size in absurd (omega arith)
read_place n (a ∷ b ∷ []) (x ∷ y ∷ z ∷ w ∷ c) is-l is-c = let size = is-c.size in absurd (omega arith)

read_place_and_type : (n : Bool) (l c : List ℕ) (k : Kind) → IsLocation l → IsChannel c
    → body_of n (l ++ c ++ 46 ∷ letter k ∷ []) ≡ Some (pattern_with n (Some l) (Some c) (Some k))
read_place_and_type n (a ∷ b ∷ []) (x ∷ y ∷ z ∷ []) k is-l is-c =
    rw (kind_of-letter k) (place_at n a b x y z is-l is-c (Some k))
read_place_and_type n [] c k is-l is-c = let size = is-l.size in absurd (omega arith)
read_place_and_type n (a ∷ []) c k is-l is-c = let size = is-l.size in absurd (omega arith)
read_place_and_type n (a ∷ b ∷ d ∷ l) c k is-l is-c = let size = is-l.size in absurd (omega arith)
read_place_and_type n (a ∷ b ∷ []) [] k is-l is-c = let size = is-c.size in absurd (omega arith)
read_place_and_type n (a ∷ b ∷ []) (x ∷ []) k is-l is-c = let size = is-c.size in absurd (omega arith)
read_place_and_type n (a ∷ b ∷ []) (x ∷ y ∷ []) k is-l is-c = let size = is-c.size in absurd (omega arith)
read_place_and_type n (a ∷ b ∷ []) (x ∷ y ∷ z ∷ w ∷ c) k is-l is-c = let size = is-c.size in absurd (omega arith)

pub body_read : (n : Bool) (text : List ℕ) (l c : Option (List ℕ)) (k : Option Kind) → Body text l c k
    → body_of n text ≡ Some (pattern_with n l c k)
body_read n _ _ _ _ (channel_alone c is) = read_channel n c is
body_read n _ _ _ _ (channel_and_type c k is) = read_channel_and_type n c k is
body_read n _ _ _ _ (place_alone l c is-l is-c) = read_place n l c is-l is-c
body_read n _ _ _ _ (place_and_type l c k is-l is-c) = read_place_and_type n l c k is-l is-c
body_read n _ _ _ _ (type_alone k) = rw (kind_of-letter k)
body_read n _ _ _ _ (type_behind_dot k) = rw (kind_of-letter k)

-- ---- what is read is a body
pub record IsBodyOf (n : Bool) (text : List ℕ) (p : Pattern) : Type 0 where
  pub body : Body text p.location p.channel p.kind
  pub negation : p.negated ≡ n

abbrev Reads : Bool → List ℕ → Option Pattern → Type 0
Reads n text found = (p : Pattern) → found ≡ Some p → IsBodyOf n text p

reads_one : (n : Bool) (text : List ℕ) (l c : Option (List ℕ)) (k : Option Kind) → Body text l c k
    → Reads n text (Some (pattern_with n l c k))
reads_one n text l c k body p e =
    let same : pattern_with n l c k ≡ p = cc in
    subst (IsBodyOf n text) same (record { body = body; negation = refl })

reads_none : (n : Bool) (text : List ℕ) → Reads n text None
reads_none n text p e = absurd cc

reads_kind : (n : Bool) (t : ℕ) (found : Option Kind) → kind_of_letter t ≡ found
    → Reads n (t ∷ []) (of_kind (kind_pattern n) found)
reads_kind n t None e = reads_none n (t ∷ [])
reads_kind n t (Some k) e = reads_one n (t ∷ []) None None (Some k)
    (subst (λ x. Body (x ∷ []) None None (Some k)) (sym (letter_of t k e)) (type_alone k))

reads_channel : (n : Bool) (text x : List ℕ) (kind : Option Kind) → length x ≡ 3
    → (IsChannel x → Body text None (Some x) kind) → Reads n text (channel_pattern n x kind)
reads_channel n text x kind size body =
    both (list_all is_channel_byte x)
    (λ y. rw y (reads_one n text None (Some x) kind (body (record { size = size; bytes = (decides-channel x).0 y }))))
    (λ f. rw f (reads_none n text))

reads_place : (n : Bool) (text l x : List ℕ) (kind : Option Kind) → length l ≡ 2 → length x ≡ 3
    → (IsLocation l → IsChannel x → Body text (Some l) (Some x) kind) → Reads n text (place_pattern n l x kind)
reads_place n text l x kind size size' body =
    both (list_all is_location_byte l && list_all is_channel_byte x)
    (λ y. let parts = and_parts (list_all is_location_byte l) (list_all is_channel_byte x) y in
    rw y
    (reads_one n text (Some l) (Some x) kind
    (body (record { size = size; bytes = (decides-location l).0 parts.0 })
    (record { size = size'; bytes = (decides-channel x).0 parts.1 }))))
    (λ f. rw f (reads_none n text))

-- a dot and a type
pub record IsSuffix (dot t : ℕ) (k : Kind) : Type 0 where
  pub dot_is : dot ≡ 46
  pub letter_is : t ≡ letter k

suffix_is : (dot t : ℕ) (k : Kind) → suffix_of dot t ≡ Some k → IsSuffix dot t k
suffix_is dot t k e =
    both (dot == 46)
    (λ y. record { dot_is = eqb-true dot 46 y; letter_is = letter_of t k (rw y at e) })
    (λ f. absurd (let none : None ≡ Some k = rw f at e in cc))

reads_suffix : (n : Bool) (dot t : ℕ) (text : ℕ → ℕ → List ℕ) (pattern : Option Kind → Option Pattern)
    (found : Option Kind) → suffix_of dot t ≡ found → ((k : Kind) → Reads n (text 46 (letter k)) (pattern (Some k)))
    → Reads n (text dot t) (of_kind pattern found)
reads_suffix n dot t text pattern None e reads = reads_none n (text dot t)
reads_suffix n dot t text pattern (Some k) e reads =
    let is = suffix_is dot t k e in
    rw (is.dot_is, is.letter_is) (reads k)

reads_letter : (n : Bool) (t : ℕ) (text : ℕ → List ℕ) (pattern : Option Kind → Option Pattern) (found : Option Kind)
    → kind_of_letter t ≡ found → ((k : Kind) → Reads n (text (letter k)) (pattern (Some k)))
    → Reads n (text t) (of_kind pattern found)
reads_letter n t text pattern None e reads = reads_none n (text t)
reads_letter n t text pattern (Some k) e reads = rw (letter_of t k e) (reads k)

pub reads_body : (n : Bool) (text : List ℕ) → Reads n text (body_of n text)
reads_body n [] = reads_none n []
reads_body n (t ∷ []) = reads_kind n t (kind_of_letter t) refl
reads_body n (dot ∷ t ∷ []) =
    reads_suffix n dot t (λ d u. d ∷ u ∷ []) (kind_pattern n) (suffix_of dot t) refl
    (λ k. reads_one n (46 ∷ letter k ∷ []) None None (Some k) (type_behind_dot k))
reads_body n (x ∷ y ∷ z ∷ []) =
    reads_channel n (x ∷ y ∷ z ∷ []) (x ∷ y ∷ z ∷ []) None refl (channel_alone (x ∷ y ∷ z ∷ []))
reads_body n (x ∷ y ∷ z ∷ w ∷ []) = reads_none n (x ∷ y ∷ z ∷ w ∷ [])
reads_body n (a ∷ b ∷ c ∷ d ∷ e ∷ []) =
    both (d == 46)
    (λ y. rw y
    (subst (λ u. Reads n (a ∷ b ∷ c ∷ u ∷ e ∷ []) (of_kind (channel_pattern n (a ∷ b ∷ c ∷ [])) (kind_of_letter e)))
    (sym (eqb-true d 46 y))
    (reads_letter n e (λ v. a ∷ b ∷ c ∷ 46 ∷ v ∷ []) (channel_pattern n (a ∷ b ∷ c ∷ [])) (kind_of_letter e) refl
    (λ k. reads_channel n (a ∷ b ∷ c ∷ 46 ∷ letter k ∷ []) (a ∷ b ∷ c ∷ []) (Some k) refl
    (channel_and_type (a ∷ b ∷ c ∷ []) k)))))
    (λ f. rw f
    (reads_place n (a ∷ b ∷ c ∷ d ∷ e ∷ []) (a ∷ b ∷ []) (c ∷ d ∷ e ∷ []) None refl refl
    (place_alone (a ∷ b ∷ []) (c ∷ d ∷ e ∷ []))))
reads_body n (a ∷ b ∷ c ∷ d ∷ e ∷ f ∷ []) = reads_none n (a ∷ b ∷ c ∷ d ∷ e ∷ f ∷ [])
reads_body n (a ∷ b ∷ c ∷ d ∷ e ∷ dot ∷ t ∷ []) =
    reads_suffix n dot t (λ u v. a ∷ b ∷ c ∷ d ∷ e ∷ u ∷ v ∷ []) (place_pattern n (a ∷ b ∷ []) (c ∷ d ∷ e ∷ []))
    (suffix_of dot t) refl
    (λ k. reads_place n (a ∷ b ∷ c ∷ d ∷ e ∷ 46 ∷ letter k ∷ []) (a ∷ b ∷ []) (c ∷ d ∷ e ∷ []) (Some k) refl refl
    (place_and_type (a ∷ b ∷ []) (c ∷ d ∷ e ∷ []) k))
reads_body n (a ∷ b ∷ c ∷ d ∷ e ∷ f ∷ g ∷ h ∷ text) = reads_none n (a ∷ b ∷ c ∷ d ∷ e ∷ f ∷ g ∷ h ∷ text)

-- ---- a pattern
-- A body does not begin with `!`.
no_bang_in : (b : ℕ) → b ≡ 33 → Not (IsLocationByte b)
no_bang_in b e (inl (inl (inl h))) = let low = h.0 in omega arith
no_bang_in b e (inl (inl (inr (inl h)))) = let low = h.0 in omega arith
no_bang_in b e (inl (inl (inr (inr h)))) = let low = h.0 in omega arith
no_bang_in b e (inl (inr h)) = omega arith
no_bang_in b e (inr h) = omega arith

no_bang_first : (c rest rest' : List ℕ) (P : ℕ → Type 0) → ((b : ℕ) → P b → IsLocationByte b) → 0 < length c → All P c
    → c ++ rest ≡ 33 ∷ rest' → ⊥
no_bang_first [] rest rest' P is some each e = absurd (omega arith)
no_bang_first (b ∷ c) rest rest' P is some each e = let first : b ≡ 33 =
    cc in no_bang_in b first (is b (All-head P b c each))

no_bang_letter : (k : Kind) → letter k ≡ 33 → ⊥
no_bang_letter D e = omega arith
no_bang_letter E e = omega arith
no_bang_letter C e = omega arith
no_bang_letter O e = omega arith
no_bang_letter T e = omega arith
no_bang_letter L e = omega arith

dot_is_no_bang : {n m : ℕ} → n ≡ m → n ≡ 46 → m ≡ 33 → ⊥
dot_is_no_bang {n} {m} e is is' = omega arith

no_bang : (text : List ℕ) (l c : Option (List ℕ)) (k : Option Kind) → Body text l c k → (rest : List ℕ)
    → text ≡ 33 ∷ rest → ⊥
no_bang _ _ _ _ (channel_alone c is) rest e =
    no_bang_first c [] rest IsChannelByte (λ b h. inl h) (let size = is.size in omega arith) is.bytes (append-nil c ∙ e)
no_bang _ _ _ _ (channel_and_type c k is) rest e =
    no_bang_first c (46 ∷ letter k ∷ []) rest IsChannelByte (λ b h. inl h)
    (let size = is.size in omega arith) is.bytes e
no_bang _ _ _ _ (place_alone l c is-l is-c) rest e =
    no_bang_first l c rest IsLocationByte (λ b h. h) (let size = is-l.size in omega arith) is-l.bytes e
no_bang _ _ _ _ (place_and_type l c k is-l is-c) rest e =
    no_bang_first l (c ++ 46 ∷ letter k ∷ []) rest IsLocationByte (λ b h. h)
    (let size = is-l.size in omega arith) is-l.bytes (sym (append_assoc l c (46 ∷ letter k ∷ [])) ∙ e)
no_bang _ _ _ _ (type_alone k) rest e = no_bang_letter k cc
no_bang _ _ _ _ (type_behind_dot k) rest e = dot_is_no_bang (ap (λ t. get_or t 0 0) e) refl refl

plain_pattern : (text : List ℕ) (p : Pattern) → p.negated ≡ false → Body text p.location p.channel p.kind
    → pattern_of text ≡ Some p
plain_pattern [] p plain body = absurd (let e = body_read false [] p.location p.channel p.kind body in cc)
plain_pattern (b ∷ bs) p plain body =
    let is_read : body_of false (b ∷ bs)
    ≡ Some (pattern_with false p.location p.channel p.kind) =
    body_read false (b ∷ bs) p.location p.channel p.kind body in
    let whole : Some (pattern_with false p.location p.channel p.kind)
    ≡ Some p = ap (λ n. Some (pattern_with n p.location p.channel p.kind)) (sym plain) in
    both (b == 33)
    (λ y. absurd (no_bang (b ∷ bs) p.location p.channel p.kind body bs (ap (λ x. x ∷ bs) (eqb-true b 33 y))))
    (λ f. rw f (is_read ∙ whole))

negated_pattern : (text : List ℕ) (p : Pattern) → p.negated ≡ true → Body text p.location p.channel p.kind
    → pattern_of (33 ∷ text) ≡ Some p
negated_pattern text p negated body =
    let whole : Some (pattern_with true p.location p.channel p.kind)
    ≡ Some p = ap (λ n. Some (pattern_with n p.location p.channel p.kind)) (sym negated) in
    body_read true text p.location p.channel p.kind body ∙ whole

is_pattern : (text : List ℕ) (p : Pattern) → IsPattern text p → pattern_of text ≡ Some p
is_pattern text p (body, is, inl plain) =
    subst (λ t. pattern_of t ≡ Some p) (sym plain.1) (plain_pattern body p plain.0 is)
is_pattern text p (body, is, inr negated) =
    subst (λ t. pattern_of t ≡ Some p) (sym negated.1) (negated_pattern body p negated.0 is)

pattern_is : (text : List ℕ) (p : Pattern) → pattern_of text ≡ Some p → IsPattern text p
pattern_is [] p e = absurd cc
pattern_is (b ∷ bs) p e =
    both (b == 33)
    (λ y. let is = reads_body true bs p (rw y at e) in (
      bs,
      is.body,
      inr (is.negation, ap (λ x. x ∷ bs) (eqb-true b 33 y)),
    ))
    (λ f. let is = reads_body false (b ∷ bs) p (rw f at e) in (b ∷ bs, is.body, inl (is.negation, refl)))

pub pattern_law : (text : List ℕ) (p : Pattern) → (pattern_of text ≡ Some p) ↔ IsPattern text p
pattern_law text p = (pattern_is text p, is_pattern text p)
