-- The parts of a word are right exactly where it spells a want, and its patterns are counted one by one.
use Rattle.std.proofs.Common.{◌≡◌, ℕ, ◌+◌, Bool, true, false, ◌&&◌, List, [], ◌∷◌, ◌++◌, length, nat_lt, refl, sym, ap}
use Rattle.std.proofs.Common.{◌∙◌, arith, append_assoc, length-append, Option, Some, None}
use Rattle.std.proofs.lemmas.Bool.Decides.{nat_tests}
use Rattle.std.specs.Prelude.{◌↔◌, IsSome, nat_le, if◌then◌else◌, option_and_then}
use Rattle.std.specs.List.{list_all}
use Rattle.std.proofs.lemmas.List.Folds.{list_all-append}
use Rattle.protocol.proofs.FoundLemmas.{both}
use Rattle.slreader.specs.declared.part.WantPart.{WantPart}
use Rattle.slreader.specs.declared.part.WantPart.TheVariants.{Network, Station, Patterns, Number}
use Rattle.slreader.specs.Wants.{Action, WantValue, is_code, is_pattern, has_patterns, is_action, is_want}
use Rattle.slreader.specs.Words.{WindowValue, action_of, front_of, rest_of, patterns_of, number_behind, spellable}
use Rattle.slreader.specs.Words.{want_of}
use Rattle.slreader.specs.WordParts.{codes_in, has_action, has_code, is_possible, wrong_part}

-- ---- patterns, one by one

-- So many patterns, with what is left of a list, are the whole list.
pub record IsCutOff (room : ℕ) (left whole : List (List ℕ)) : Type 0 where
  pub patterns : List (List ℕ)
  pub count : length patterns + room ≡ 64
  pub each : list_all is_pattern patterns ≡ true
  pub parts : patterns ++ left ≡ whole

pub none_cut_off : (whole : List (List ℕ)) → IsCutOff 64 whole whole
none_cut_off whole = record { patterns = []; count = refl; each = refl; parts = refl }

pub one_cut_off : (room room' : ℕ) (left rest whole : List (List ℕ)) (p : List ℕ) → IsCutOff room left whole
    → left ≡ p ∷ rest → is_pattern p ≡ true → room ≡ room' + 1 → IsCutOff room' rest whole
one_cut_off room room' left rest whole p so_far is good less = record {
  patterns = so_far.patterns ++ p ∷ [];
  count = let count = so_far.count in let size = length-append so_far.patterns (p ∷ []) in omega arith;
  each = list_all-append is_pattern so_far.patterns (p ∷ []) ∙ rw (so_far.each, good);
  parts = append_assoc so_far.patterns (p ∷ []) rest ∙ ap (λ l. so_far.patterns ++ l) (sym is) ∙ so_far.parts;
}

pub one_too_many : (left rest whole : List (List ℕ)) (p : List ℕ) → IsCutOff 0 left whole → left ≡ p ∷ rest
    → has_patterns whole ≡ false
one_too_many left rest whole p so_far is =
    let count = so_far.count in
    let size : length whole ≡ length so_far.patterns + length (p ∷ rest) =
    ap length (sym so_far.parts ∙ ap (λ l. so_far.patterns ++ l) is) ∙ length-append so_far.patterns (p ∷ rest) in
    let many : nat_le (length whole) 64 ≡ false = grind (arith, nat_tests) in
    rw many

pub one_wrong : (room : ℕ) (left rest whole : List (List ℕ)) (p : List ℕ) → IsCutOff room left whole
    → left ≡ p ∷ rest → is_pattern p ≡ false → has_patterns whole ≡ false
one_wrong room left rest whole p so_far is bad =
    let some : list_all is_pattern whole ≡ false =
    ap (list_all is_pattern) (sym so_far.parts ∙ ap (λ l. so_far.patterns ++ l) is)
    ∙ list_all-append is_pattern so_far.patterns (p ∷ rest) ∙ rw (so_far.each, bad) in
    both (nat_le (length whole) 64) (λ y. rw (y, some)) (λ n. rw n)

pub last_cut_off : (room : ℕ) (left whole : List (List ℕ)) (p : List ℕ) → IsCutOff room left whole → left ≡ p ∷ []
    → has_patterns whole ≡ (nat_lt 0 room && is_pattern p)
last_cut_off room left whole p so_far is =
    let count = so_far.count in
    let size : length whole ≡ length so_far.patterns + 1 =
    ap length (sym so_far.parts ∙ ap (λ l. so_far.patterns ++ l) is) ∙ length-append so_far.patterns (p ∷ []) in
    let fits : nat_le (length whole) 64 ≡ nat_lt 0 room = grind (arith, nat_tests) in
    let each : list_all is_pattern whole ≡ is_pattern p =
    ap (list_all is_pattern) (sym so_far.parts ∙ ap (λ l. so_far.patterns ++ l) is)
    ∙ list_all-append is_pattern so_far.patterns (p ∷ []) ∙ rw so_far.each (last_one (is_pattern p)) in
    ap (λ b. b && list_all is_pattern whole) fits ∙ ap (λ b. nat_lt 0 room && b) each
  where
    last_one : (b : Bool) → (b && true) ≡ b
    last_one true = refl
    last_one false = refl

-- ---- all parts are right exactly where the word spells a want

-- the first wrong part, by its parts
abbrev first_of : (network : List ℕ) (station : Option (List ℕ)) (patterns : List (List ℕ)) (acts : Bool)
    → Option WantPart
first_of network station patterns acts =
    if is_code 2 network
    then (
    if has_code 5 station
    then (if has_patterns patterns then (if acts then None else Some Number) else Some Patterns)
    else Some Station
    )
    else Some Network

abbrev want_acting : (network : List ℕ) (station : Option (List ℕ)) (patterns : List (List ℕ)) → Action
    → Option WantValue
want_acting network station patterns action =
    option_and_then
    (λ s. spellable
    (record { network = network; station = s; patterns = patterns; action = action }))
    station

abbrev want_by : WindowValue → (network : List ℕ) (station : Option (List ℕ)) (patterns : List (List ℕ))
    (number : Option (Option ℕ)) → Option WantValue
want_by window network station patterns number =
    option_and_then (λ n. option_and_then (want_acting network station patterns) (action_of window n)) number

abbrev nowhere : Option WantValue
nowhere = None

never : (network : List ℕ) (station : Option (List ℕ)) (patterns : List (List ℕ))
    → (first_of network station patterns false ≡ None) ↔ IsSome nowhere
never network station patterns =
    both (is_code 2 network)
    (λ n. both (has_code 5 station)
    (λ s. both (has_patterns patterns) (λ p. rw (n, s, p) (λ e. absurd cc, λ none. absurd cc))
    (λ p. rw (n, s, p) (λ e. absurd cc, λ none. absurd cc)))
    (λ s. rw (n, s) (λ e. absurd cc, λ none. absurd cc)))
    (λ n. rw n (λ e. absurd cc, λ none. absurd cc))

acting_law : (network : List ℕ) (station : Option (List ℕ)) (patterns : List (List ℕ)) (action : Action)
    → (first_of network station patterns (is_action action) ≡ None)
    ↔ IsSome (want_acting network station patterns action)
unfolding is_want
acting_law network None patterns action =
    both (is_code 2 network) (λ n. rw n (λ e. absurd cc, λ none. absurd cc))
    (λ n. rw n (λ e. absurd cc, λ none. absurd cc))
acting_law network (Some station) patterns action =
    both (is_code 2 network)
    (λ n. both (is_code 5 station)
    (λ s. both (has_patterns patterns)
    (λ p. both (is_action action) (λ a. rw (n, s, p, a) (λ e. refl, λ some. refl))
    (λ a. rw (n, s, p, a) (λ e. absurd cc, λ none. absurd cc)))
    (λ p. rw (n, s, p) (λ e. absurd cc, λ none. absurd cc)))
    (λ s. rw (n, s) (λ e. absurd cc, λ none. absurd cc)))
    (λ n. rw n (λ e. absurd cc, λ none. absurd cc))

chosen_law : (network : List ℕ) (station : Option (List ℕ)) (patterns : List (List ℕ)) (action : Option Action)
    → (first_of network station patterns (is_possible action) ≡ None)
    ↔ IsSome (option_and_then (want_acting network station patterns) action)
chosen_law network station patterns None = never network station patterns
chosen_law network station patterns (Some action) = acting_law network station patterns action

parts_law : (window : WindowValue) (network : List ℕ) (station : Option (List ℕ)) (patterns : List (List ℕ))
    (number : Option (Option ℕ))
    → (first_of network station patterns (has_action window number) ≡ None)
    ↔ IsSome (want_by window network station patterns number)
parts_law window network station patterns None = never network station patterns
parts_law window network station patterns (Some number) =
    chosen_law network station patterns (action_of window number)

pub wrong_part_law : (window : WindowValue) (word : List ℕ)
    → (wrong_part window word ≡ None) ↔ IsSome (want_of window word)
unfolding want_of
wrong_part_law window word =
    parts_law window (front_of 95 (codes_in word)) (rest_of 95 (codes_in word))
    (patterns_of (rest_of 58 (front_of 64 word))) (number_behind (rest_of 64 word))

pub wrong_part_is : (r : Option WantPart) (window : WindowValue) (word : List ℕ) → r ≡ wrong_part window word
    → (r ≡ None) ↔ IsSome (want_of window word)
wrong_part_is r window word is =
    let law = wrong_part_law window word in
    (λ e. law.0 (sym is ∙ e), λ some. is ∙ law.1 some)
