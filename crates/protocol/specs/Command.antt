-- What a line of a client asks.
-- SeedLink 3, commands: HELLO, CAT, BYE, END, STATION, SELECT, DATA, FETCH and TIME.
-- Left out: INFO, BATCH and CAPABILITIES, which are Bad here, and wildcards in a station's code.
use Rattle.std.specs.Prelude.{◌≡◌, ◌≢◌, ◌⊎◌, ◌≤◌, ◌<◌, ℕ, ◌-◌, ◌&&◌, nat_le, ◌==◌, if◌then◌else◌, List, [], ◌∷◌, ◌++◌}
use Rattle.std.specs.Prelude.{length}
use Rattle.std.specs.Prelude.{ℤ, Option, Some, None, codes, All}
use Rattle.std.specs.Str.{bytes_eq}
use Rattle.protocol.specs.Pieces.{split, without_empty}
use Rattle.protocol.specs.Time.{time_of}
use Rattle.protocol.specs.Packet.{number_of}
use Rattle.protocol.specs.Lines.{Line}
use Rattle.protocol.specs.Lines.Line.{Text, TooLong}
use Rattle.protocol.specs.Reading.{Not}

-- Numbers are sequence numbers, and times are ticks.
pub data Command : Type 0 where
  Blank : Command
  Hello : Command
  Cat : Command
  Bye : Command
  End : Command
  Station : (code : List ℕ) → (network : Option (List ℕ)) → Command
  Select : (pattern : Option (List ℕ)) → Command
  Data : (number : Option ℕ) → (begin : Option ℤ) → Command
  Fetch : (number : Option ℕ) → (begin : Option ℤ) → Command
  Time : (begin : Option ℤ) → (last : Option ℤ) → Command
  Bad : Command

-- runs of spaces separate words
abbrev pub words : List ℕ → List (List ℕ)
words line = without_empty (split (λ b. b == 32) line)

-- a letter `a` to `z` in upper case
abbrev pub uppercase : ℕ → ℕ
uppercase b = if nat_le 97 b && nat_le b 122 then b - 32 else b

-- each letter in upper case
abbrev pub uppercased : List ℕ → List ℕ
uppercased [] = []
uppercased (b ∷ bs) = uppercase b ∷ uppercased bs

-- the command of a number and a begin, where both are there
abbrev pub with_begin : (Option ℕ → Option ℤ → Command) → Option ℕ → Option ℤ → Command
with_begin make (Some n) (Some t) = make (Some n) (Some t)
with_begin make _ _ = Bad

-- the command of a number alone, where it is there
abbrev pub with_number : (Option ℕ → Option ℤ → Command) → Option ℕ → Command
with_number make (Some n) = make (Some n) None
with_number make None = Bad

-- DATA and FETCH: [n [begin]]
abbrev pub numbered : (Option ℕ → Option ℤ → Command) → List (List ℕ) → Command
numbered make [] = make None None
numbered make (n ∷ []) = with_number make (number_of n)
numbered make (n ∷ begin ∷ []) = with_begin make (number_of n) (time_of begin)
numbered make _ = Bad

-- TIME with a begin and an end, where both are there
abbrev pub window : Option ℤ → Option ℤ → Command
window (Some b) (Some l) = Time (Some b) (Some l)
window _ _ = Bad

-- TIME with a begin alone, where it is there
abbrev pub since : Option ℤ → Command
since (Some b) = Time (Some b) None
since None = Bad

-- TIME: [begin [end]]
abbrev pub timed : List (List ℕ) → Command
timed [] = Time None None
timed (b ∷ []) = since (time_of b)
timed (b ∷ l ∷ []) = window (time_of b) (time_of l)
timed _ = Bad

-- a command that takes no further word
abbrev pub alone : Command → List (List ℕ) → Command
alone c [] = c
alone c _ = Bad

-- STATION: station [network]
abbrev pub station_command : List (List ℕ) → Command
station_command (code ∷ []) = Station code None
station_command (code ∷ network ∷ []) = Station code (Some network)
station_command _ = Bad

-- SELECT: [pattern]
abbrev pub select_command : List (List ℕ) → Command
select_command [] = Select None
select_command (p ∷ []) = Select (Some p)
select_command _ = Bad

-- the command of a name in upper case, with the words behind it
abbrev pub named : List ℕ → List (List ℕ) → Command
named name ws =
    if bytes_eq name (codes "HELLO") then alone Hello ws
    else if bytes_eq name (codes "CAT") then alone Cat ws
    else if bytes_eq name (codes "BYE") then alone Bye ws
    else if bytes_eq name (codes "END") then alone End ws
    else if bytes_eq name (codes "STATION") then station_command ws
    else if bytes_eq name (codes "SELECT") then select_command ws
    else if bytes_eq name (codes "DATA") then numbered Data ws
    else if bytes_eq name (codes "FETCH") then numbered Fetch ws
    else if bytes_eq name (codes "TIME") then timed ws
    else Bad

-- what words ask
abbrev pub command_of_words : List (List ℕ) → Command
command_of_words [] = Blank
command_of_words (name ∷ ws) = named (uppercased name) ws

-- what a line asks; one of more than 256 bytes is Bad, whatever it holds
abbrev pub command_of : Line → Command
command_of (Text bs) = if nat_le (length bs) 256 then command_of_words (words bs) else Bad
command_of TooLong = Bad

-- ---- the same in words

-- A word is some bytes, none of which is a space.
pub record IsWord (word : List ℕ) : Type 0 where
  pub some : word ≢ []
  pub no_space : All (λ b. b ≢ 32) word

-- The words of a line. One space or more stand between two of them, and any number before the first and after the last.
pub data HasWords : List ℕ → List (List ℕ) → Type 0 where
  nothing : HasWords [] []
  space : (line : List ℕ) (ws : List (List ℕ)) → HasWords line ws → HasWords (32 ∷ line) ws
  last_word : (word : List ℕ) → IsWord word → HasWords word (word ∷ [])
  word_and_space : (word line : List ℕ) (ws : List (List ℕ)) → IsWord word → HasWords line ws →
      HasWords (word ++ 32 ∷ line) (word ∷ ws)

-- The word is the name, in letters of either case.
abbrev pub IsNamed : (name word : List ℕ) → Type 0
IsNamed name word = uppercased word ≡ name

-- the table of commands: which words are which command
pub data IsRow : List (List ℕ) → Command → Type 0 where
  -- (no word)
  blank : IsRow [] Blank
  -- HELLO, CAT, BYE, END
  hello : (w : List ℕ) → IsNamed (codes "HELLO") w → IsRow (w ∷ []) Hello
  cat : (w : List ℕ) → IsNamed (codes "CAT") w → IsRow (w ∷ []) Cat
  bye : (w : List ℕ) → IsNamed (codes "BYE") w → IsRow (w ∷ []) Bye
  end : (w : List ℕ) → IsNamed (codes "END") w → IsRow (w ∷ []) End
  -- STATION station [network]
  station : (w code : List ℕ) → IsNamed (codes "STATION") w → IsRow (w ∷ code ∷ []) (Station code None)
  station_and_network : (w code network : List ℕ) → IsNamed (codes "STATION") w →
      IsRow (w ∷ code ∷ network ∷ []) (Station code (Some network))
  -- SELECT [pattern]
  select : (w : List ℕ) → IsNamed (codes "SELECT") w → IsRow (w ∷ []) (Select None)
  select_pattern : (w pattern : List ℕ) → IsNamed (codes "SELECT") w → IsRow (w ∷ pattern ∷ []) (Select (Some pattern))
  -- DATA [number [begin]]
  data_ : (w : List ℕ) → IsNamed (codes "DATA") w → IsRow (w ∷ []) (Data None None)
  data_number : (w number : List ℕ) (n : ℕ) → IsNamed (codes "DATA") w → number_of number ≡ Some n →
      IsRow (w ∷ number ∷ []) (Data (Some n) None)
  data_begin : (w number begin : List ℕ) (n : ℕ) (b : ℤ) → IsNamed (codes "DATA") w → number_of number ≡ Some n →
      time_of begin ≡ Some b → IsRow (w ∷ number ∷ begin ∷ []) (Data (Some n) (Some b))
  -- FETCH [number [begin]]
  fetch : (w : List ℕ) → IsNamed (codes "FETCH") w → IsRow (w ∷ []) (Fetch None None)
  fetch_number : (w number : List ℕ) (n : ℕ) → IsNamed (codes "FETCH") w → number_of number ≡ Some n →
      IsRow (w ∷ number ∷ []) (Fetch (Some n) None)
  fetch_begin : (w number begin : List ℕ) (n : ℕ) (b : ℤ) → IsNamed (codes "FETCH") w → number_of number ≡ Some n →
      time_of begin ≡ Some b → IsRow (w ∷ number ∷ begin ∷ []) (Fetch (Some n) (Some b))
  -- TIME [begin [end]]
  time : (w : List ℕ) → IsNamed (codes "TIME") w → IsRow (w ∷ []) (Time None None)
  time_begin : (w begin : List ℕ) (b : ℤ) → IsNamed (codes "TIME") w → time_of begin ≡ Some b →
      IsRow (w ∷ begin ∷ []) (Time (Some b) None)
  time_window : (w begin last : List ℕ) (b l : ℤ) → IsNamed (codes "TIME") w → time_of begin ≡ Some b →
      time_of last ≡ Some l → IsRow (w ∷ begin ∷ last ∷ []) (Time (Some b) (Some l))

-- Words ask for the command of their row; those that have no row are Bad.
abbrev pub AsksFor : List (List ℕ) → Command → Type 0
AsksFor ws c = IsRow ws c ⊎ (((d : Command) → Not (IsRow ws d)) × (c ≡ Bad))

-- what a line asks, by its words; one of more than 256 bytes is Bad, whatever it holds
abbrev pub Asks : Line → Command → Type 0
Asks (Text bytes) c =
    ((length bytes ≤ 256) × ((ws : List (List ℕ)) × HasWords bytes ws × AsksFor ws c))
    ⊎ ((256 < length bytes) × (c ≡ Bad))
Asks TooLong c = c ≡ Bad
