-- Patterns over a record's location, channel and type.
-- SeedLink 3, SELECT. Left out: several patterns in one command.
use Rattle.std.specs.Prelude.{◌≡◌, ◌≤◌, ◌⊎◌, ◌++◌, length, All, Any, ℕ, Bool, true, false, ◌&&◌, ◌||◌, not, nat_le}
use Rattle.std.specs.Prelude.{◌==◌, if◌then◌else◌, List, [], ◌∷◌, Option, Some, None, option_and_then}
use Rattle.std.specs.List.{list_any, list_all}
use Rattle.protocol.specs.declared.record.Kind.{Kind}
use Rattle.protocol.specs.Record.{Facts}
use Rattle.protocol.specs.declared.record.Kind.TheVariants.{D, E, C, O, T, L}

-- What a pattern says of a record's location, channel and type, each if it is given. A negated one says what not to
-- send.
pub record Pattern : Type 0 where
  pub negated : Bool
  pub location : Option (List ℕ)
  pub channel : Option (List ℕ)
  pub kind : Option Kind

-- a digit, or a letter of either case
abbrev pub is_letter_or_digit : ℕ → Bool
is_letter_or_digit b = (nat_le 48 b && nat_le b 57) || (nat_le 65 b && nat_le b 90) || (nat_le 97 b && nat_le b 122)

-- a letter, a digit or `?`
abbrev pub is_channel_byte : ℕ → Bool
is_channel_byte b = is_letter_or_digit b || b == 63

-- the same or `-`
abbrev pub is_location_byte : ℕ → Bool
is_location_byte b = is_channel_byte b || b == 45

-- the type that a letter names
abbrev pub kind_of_letter : ℕ → Option Kind
kind_of_letter b =
    if b == 68 then Some D else if b == 69 then Some E else if b == 67 then Some C
    else if b == 79 then Some O else if b == 84 then Some T else if b == 76 then Some L else None

-- `.` (46) and a type
abbrev pub suffix_of : ℕ → ℕ → Option Kind
suffix_of dot letter = if dot == 46 then kind_of_letter letter else None

-- A pattern of a type alone, of a channel, or of a location and a channel, where these have the right bytes. The last
-- two have a type or none.
abbrev pub kind_pattern : (negated : Bool) → Option Kind → Option Pattern
kind_pattern negated kind = Some (record { negated = negated; location = None; channel = None; kind = kind })

abbrev pub channel_pattern : (negated : Bool) → List ℕ → Option Kind → Option Pattern
channel_pattern negated channel kind =
    if list_all is_channel_byte channel then Some
    (record { negated = negated; location = None; channel = Some channel; kind = kind }) else None

abbrev pub place_pattern : (negated : Bool) → List ℕ → List ℕ → Option Kind → Option Pattern
place_pattern negated location channel kind =
    if list_all is_location_byte location && list_all is_channel_byte channel
    then Some (record { negated = negated; location = Some location; channel = Some channel; kind = kind })
    else None

-- the same of a type that the text must have
abbrev pub of_kind : (Option Kind → Option Pattern) → Option Kind → Option Pattern
of_kind pattern kind = option_and_then (λ k. pattern (Some k)) kind

-- The body of a pattern. Five bytes are a location and a channel, or a channel, a dot and a type: a dot is no byte of a
-- channel.
abbrev pub body_of : (negated : Bool) → List ℕ → Option Pattern
body_of negated (t ∷ []) = of_kind (kind_pattern negated) (kind_of_letter t)
body_of negated (dot ∷ t ∷ []) = of_kind (kind_pattern negated) (suffix_of dot t)
body_of negated (a ∷ b ∷ c ∷ []) = channel_pattern negated (a ∷ b ∷ c ∷ []) None
body_of negated (a ∷ b ∷ c ∷ d ∷ e ∷ []) =
    if d == 46 then of_kind (channel_pattern negated (a ∷ b ∷ c ∷ [])) (suffix_of d e) else place_pattern negated
    (a ∷ b ∷ []) (c ∷ d ∷ e ∷ []) None
body_of negated (a ∷ b ∷ c ∷ d ∷ e ∷ dot ∷ t ∷ []) =
    of_kind (place_pattern negated (a ∷ b ∷ []) (c ∷ d ∷ e ∷ [])) (suffix_of dot t)
body_of negated _ = None

-- `!` (33) negates
abbrev pub pattern_of : List ℕ → Option Pattern
pattern_of [] = None
pattern_of (b ∷ bs) = if b == 33 then body_of true bs else body_of false (b ∷ bs)

-- `?` matches any byte, `-` a space, and every other character itself
abbrev pub byte_matches : ℕ → ℕ → Bool
byte_matches p b = p == 63 || (if p == 45 then b == 32 else p == b)

-- byte after byte
abbrev pub bytes_match : List ℕ → List ℕ → Bool
bytes_match [] bs = true
bytes_match (p ∷ ps) [] = false
bytes_match (p ∷ ps) (b ∷ bs) = byte_matches p b && bytes_match ps bs

-- the same type
abbrev pub same_kind : Kind → Kind → Bool
same_kind D D = true
same_kind E E = true
same_kind C C = true
same_kind O O = true
same_kind T T = true
same_kind L L = true
same_kind a b = false

-- what is left off matches anything
abbrev pub part_matches : Option (List ℕ) → List ℕ → Bool
part_matches None bs = true
part_matches (Some ps) bs = bytes_match ps bs

-- the same of a type
abbrev pub kind_matches : Option Kind → Kind → Bool
kind_matches None k = true
kind_matches (Some p) k = same_kind p k

-- Location, channel and type match, as far as they are given.
abbrev pub matches : Facts → Pattern → Bool
matches x p = part_matches p.location x.location && part_matches p.channel x.channel && kind_matches p.kind x.kind

-- No positive pattern is there or one matches, and no negative one matches.
abbrev pub passes : List Pattern → Facts → Bool
passes ps x =
    (not (list_any (λ p. not p.negated) ps) || list_any (λ p. not p.negated && matches x p) ps) &&
    not (list_any (λ p. p.negated && matches x p) ps)

-- ---- the same in words
-- It says what to send.
abbrev pub IsPositive : Pattern → Type 0
IsPositive p = p.negated ≡ false

-- It says what not to send.
abbrev pub IsNegative : Pattern → Type 0
IsNegative p = p.negated ≡ true

-- The record is one that the pattern speaks of.
abbrev pub Matches : Facts → Pattern → Type 0
Matches x p = matches x p ≡ true

-- No positive pattern is there or one matches, and no negative one matches.
abbrev pub Passes : List Pattern → Facts → Type 0
Passes ps x = ((Any IsPositive ps → ⊥) ⊎ Any (λ p. IsPositive p × Matches x p) ps)
    × (Any (λ p. IsNegative p × Matches x p) ps → ⊥)

-- a digit, or a letter of either case
abbrev pub IsLetterOrDigit : ℕ → Type 0
IsLetterOrDigit b = ((48 ≤ b) × (b ≤ 57)) ⊎ ((65 ≤ b) × (b ≤ 90)) ⊎ ((97 ≤ b) × (b ≤ 122))

-- a letter, a digit or `?`, and in a location `-` too
abbrev pub IsChannelByte : ℕ → Type 0
IsChannelByte b = IsLetterOrDigit b ⊎ (b ≡ 63)

-- a letter, a digit, `?` or `-`
abbrev pub IsLocationByte : ℕ → Type 0
IsLocationByte b = IsChannelByte b ⊎ (b ≡ 45)

-- three bytes of a channel, two of a location
pub record IsChannel (bs : List ℕ) : Type 0 where
  pub size : length bs ≡ 3
  pub bytes : All IsChannelByte bs

-- two bytes of a location
pub record IsLocation (bs : List ℕ) : Type 0 where
  pub size : length bs ≡ 2
  pub bytes : All IsLocationByte bs

-- D, E, C, O, T or L
abbrev pub letter : Kind → ℕ
letter D = 68
letter E = 69
letter C = 67
letter O = 79
letter T = 84
letter L = 76

-- a body: a channel, with a location or without and with a type behind a dot or without; or a type, with a dot or
-- without
pub data Body : List ℕ → Option (List ℕ) → Option (List ℕ) → Option Kind → Type 0 where
  channel_alone : (c : List ℕ) → IsChannel c → Body c None (Some c) None
  channel_and_type : (c : List ℕ) (k : Kind) → IsChannel c → Body (c ++ 46 ∷ letter k ∷ []) None (Some c) (Some k)
  place_alone : (l c : List ℕ) → IsLocation l → IsChannel c → Body (l ++ c) (Some l) (Some c) None
  place_and_type : (l c : List ℕ) (k : Kind) → IsLocation l → IsChannel c →
      Body (l ++ c ++ 46 ∷ letter k ∷ []) (Some l) (Some c) (Some k)
  type_alone : (k : Kind) → Body (letter k ∷ []) None None (Some k)
  type_behind_dot : (k : Kind) → Body (46 ∷ letter k ∷ []) None None (Some k)

-- the pattern that a text is, behind a `!` or not
abbrev pub IsPattern : List ℕ → Pattern → Type 0
IsPattern text p = (body : List ℕ) × Body body p.location p.channel p.kind
    × (((p.negated ≡ false) × (text ≡ body)) ⊎ ((p.negated ≡ true) × (text ≡ 33 ∷ body)))
