-- Times, patterns, commands, lists of addresses and rings, computed.
use Rattle.std.specs.Prelude.{Option, drop, ◌≡◌, refl, ℕ, true, false, List, [], ◌∷◌, ◌++◌, length, replicate, Some}
use Rattle.std.specs.Prelude.{None, codes, map, filter, filter_map, pos, neg_ℤ, is_some}
use Rattle.protocol.specs.Access.{Token, allows}
use Rattle.protocol.specs.Catalog.{Station}
use Rattle.protocol.specs.Command.{Command, command_of_words, words}
use Rattle.protocol.specs.Time.{civil_of, time_of}
use Rattle.protocol.specs.Packet.{number_of, digits, next_number, packet}
use Rattle.protocol.specs.Streams.{stream_of, feed_of}
use Rattle.protocol.specs.Streams.StreamRead.{Going, Ended, NoStream}
use Rattle.protocol.specs.Command.Command.{Blank, Hello, Bye, Data, Station as StationCommand, Bad}
use Rattle.protocol.specs.Pattern.{pattern_of, passes}
use Rattle.protocol.specs.declared.record.Kind.{Kind}
use Rattle.protocol.specs.Record.{Facts}
use Rattle.protocol.specs.declared.record.Kind.TheVariants.{D, E, C, O, T, L}
use Rattle.protocol.specs.History.{first_position, is_held, Arrival, oldest_held, held_with_number, number_at}
use Rattle.protocol.specs.World.{accepted}
use Rattle.protocol.proofs.Dialogues.{insider, outsider, three_stations, wlf_at, wlf}

-- times of commands, in units of 0.0001 s from 1970 on
pub time-day : time_of (codes "2024,2,29") ≡ Some (pos 17091648000000)
time-day = refl

pub time-second_60 : time_of (codes "2024,2,29,23,59,60") ≡ Some (pos 17092512000000)
time-second_60 = refl

pub time-first : time_of (codes "1900,1,1") ≡ Some (neg_ℤ (pos 22089888000000))
time-first = refl

pub time-last : time_of (codes "2100,12,31,23,59,60") ≡ Some (pos 41339808000000)
time-last = refl

pub time-none : map time_of (codes "2024,2" ∷ codes "2024,2,29,24" ∷ codes "2023,2,29" ∷ codes "2024,2,29,"
    ∷ codes "24,2,29" ∷ codes "2024,2,29,0,0,0,0" ∷ []) ≡
    (None ∷ None ∷ None ∷ None ∷ None ∷ None ∷ [])
time-none = refl

-- commands
abbrev pub command : List ℕ → Command
command line = command_of_words (words line)

pub command-case : map command
    (codes "hello" ∷ codes "  Bye  " ∷ codes "   " ∷ [] ∷ codes "HELLO x" ∷ codes "INFO ID" ∷ [])
    ≡ (Hello ∷ Bye ∷ Blank ∷ Blank ∷ Bad ∷ Bad ∷ [])
command-case = refl

pub command-data : map command
    (codes "DATA" ∷ codes "DATA fF" ∷ codes "DATA 1000000" ∷ codes "DATA G" ∷ codes "data 0 2024,2,29"
    ∷ codes "DATA 2024,2,29" ∷ []) ≡
    (Data None None ∷ Data (Some 255) None ∷ Bad ∷ Bad ∷ Data (Some 0) (Some (pos 17091648000000)) ∷ Bad ∷ [])
command-data = refl

pub command-station : map command
    (codes "STATION ape GE" ∷ codes "STATION WLF" ∷ codes "STATION" ∷ codes "STATION A B C" ∷ []) ≡
    (StationCommand (codes "ape") (Some (codes "GE")) ∷ StationCommand (codes "WLF") None ∷ Bad ∷ Bad ∷ [])
command-station = refl

-- patterns
pub pattern-located : pattern_of (codes "00BHZ.D")
    ≡ Some (record { negated = false; location = Some (codes "00"); channel = Some (codes "BHZ"); kind = Some D })
pattern-located = refl

pub pattern-channel : pattern_of (codes "!BH?.C")
    ≡ Some (record { negated = true; location = None; channel = Some (codes "BH?"); kind = Some C })
pattern-channel = refl

pub pattern-type : map pattern_of (codes "D" ∷ codes ".D" ∷ [])
    ≡ (Some (record { negated = false; location = None; channel = None; kind = Some D })
    ∷ Some (record { negated = false; location = None; channel = None; kind = Some D }) ∷ [])
pattern-type = refl

pub pattern-none : map (λ text. is_some (pattern_of (codes text)))
    ("" ∷ "!" ∷ "BH" ∷ ".Q" ∷ "Q" ∷ "d" ∷ "B-Z" ∷ "BHZD" ∷ "BHZ-D" ∷ "00B.Z" ∷ "00BHZD" ∷ "00BHZ.Q" ∷ "!!E" ∷ "BHZ.?"
    ∷ []) ≡
    (false ∷ false ∷ false ∷ false ∷ false ∷ false ∷ false ∷ false ∷ false ∷ false ∷ false ∷ false ∷ false ∷ false ∷ [])
pattern-none = refl

-- Of records of every type those of which patterns let some pass: a negative pattern alone is no positive one, and
-- outweighs the positive ones. `-` is a space and not itself.
abbrev pub of_type : List ℕ → Kind → Facts
of_type location kind =
    record {
      network = codes "GE";
      station = codes "APE";
      location = location;
      channel = codes "BHZ";
      start = pos 0;
      stop = pos 0;
      kind = kind;
      samples = 0;
      links = 0;
    }

abbrev pub let_pass : List (List ℕ) → List Kind
let_pass texts = filter (λ k. passes (filter_map pattern_of texts) (of_type (codes "  ") k))
    (D ∷ E ∷ C ∷ O ∷ T ∷ L ∷ [])

pub passes-types : map let_pass
    ([] ∷ (codes "!E" ∷ []) ∷ (codes "D" ∷ codes "T" ∷ []) ∷ (codes "BH?" ∷ codes "!D" ∷ codes "!E" ∷ [])
    ∷ (codes "BHN" ∷ []) ∷ (codes "--BHZ.E" ∷ []) ∷ []) ≡
    ((D ∷ E ∷ C ∷ O ∷ T ∷ L ∷ []) ∷ (D ∷ C ∷ O ∷ T ∷ L ∷ []) ∷ (D ∷ T ∷ []) ∷ (C ∷ O ∷ T ∷ L ∷ []) ∷ [] ∷ (E ∷ []) ∷ [])
passes-types = refl

pub passes-dash : map (λ location. passes (filter_map pattern_of (codes "--BHZ" ∷ [])) (of_type location D))
    (codes "  " ∷ codes "--" ∷ codes " 0" ∷ []) ≡ (true ∷ false ∷ false ∷ [])
passes-dash = refl

-- addresses and masks
abbrev pub token : ℕ → ℕ → List Token
token address mask = record { address = address; mask = mask } ∷ []

pub allows-all : allows (token 0x0A000000 0) outsider ≡ true
allows-all = refl

pub allows-one : map (allows (token 0x0A000007 0xFFFFFFFF)) (insider ∷ 0x0A000008 ∷ []) ≡ (true ∷ false ∷ [])
allows-one = refl

pub allows-parted : map (allows (token 0x0A090009 0xFF00FF00)) (insider ∷ 0x0A000107 ∷ []) ≡ (true ∷ false ∷ [])
allows-parted = refl

pub allows-nobody : allows [] insider ≡ false
allows-nobody = refl

-- four arrivals at a station that holds three
abbrev pub ring : Station
ring = record wlf { capacity = 3 }

abbrev pub four : List Arrival
four = filter_map (accepted three_stations) (wlf_at 1 ∷ wlf_at 2 ∷ wlf_at 3 ∷ wlf_at 4 ∷ [])

pub ring-length : length four ≡ 4
ring-length = refl

pub ring-oldest : oldest_held ring four ≡ 1
ring-oldest = refl

pub ring-next : number_at ring four 4 ≡ 2
ring-next = refl

pub ring-find : map (held_with_number ring four) (0xFFFFFF ∷ 0 ∷ 0xFFFFFE ∷ []) ≡ (Some 1 ∷ Some 2 ∷ None ∷ [])
ring-find = refl

-- the oldest held record from a place on
abbrev pub held_from : ℕ → Option ℕ
held_from place = first_position (λ p later a. is_held ring later a) place (drop place four)

pub ring-from : map held_from (0 ∷ 4 ∷ []) ≡ (Some 1 ∷ None ∷ [])
ring-from = refl

-- streams of packets, and where there is none
abbrev pub one_packet : List ℕ
one_packet = packet 0xA3 (replicate 512 7)

pub stream-packet_and_end : stream_of (one_packet ++ codes "END") ≡ Ended (one_packet ∷ [])
stream-packet_and_end = refl

pub stream-unfinished : map stream_of ([] ∷ codes "S" ∷ codes "SL0a" ∷ codes "E" ∷ codes "EN" ∷ [])
    ≡ (Going [] [] ∷ Going [] (codes "S") ∷ Going [] (codes "SL0a") ∷ Going [] (codes "E") ∷ Going [] (codes "EN") ∷ [])
stream-unfinished = refl

pub stream-none : map stream_of (codes "SX" ∷ codes "EX" ∷ codes "END " ∷ codes "SL00G" ∷ codes " SL" ∷ [])
    ≡ replicate 5 NoStream
stream-none = refl

-- a feed of two records and three bytes
pub feed-rest : feed_of (replicate 1027 7) ≡ record { records = replicate 2 (replicate 512 7); rest = replicate 3 7 }
feed-rest = refl

-- numbers, and the one after the last
pub number-written : map digits (0 ∷ 0xA3 ∷ 0xFFFFFE ∷ []) ≡ (codes "000000" ∷ codes "0000A3" ∷ codes "FFFFFE" ∷ [])
number-written = refl

pub number-read : map number_of (codes "0" ∷ codes "fFfFfE" ∷ codes "0000000" ∷ [] ∷ [])
    ≡ (Some 0 ∷ Some 0xFFFFFE ∷ None ∷ None ∷ [])
number-read = refl

pub number-next : map next_number (0 ∷ 0xFFFFFF ∷ []) ≡ (1 ∷ 0 ∷ [])
number-next = refl

-- the shape of a time is another thing than its range
pub time-shape : map (λ text. is_some (civil_of (codes text)))
    ("2024,2" ∷ "2024,2,29,24" ∷ "2023,2,29" ∷ "2024,2,29,0,0,0,0" ∷ "2024,,29" ∷ [])
    ≡ (false ∷ true ∷ true ∷ false ∷ false ∷ [])
time-shape = refl
