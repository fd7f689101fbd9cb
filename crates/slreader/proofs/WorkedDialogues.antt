-- Worked dialogues of readers: what is asked and given, and where they end.
use Rattle.std.specs.Prelude.{◌≡◌, refl, ℕ, List, [], ◌∷◌, replicate, Some, None, true, false, codes}
use Rattle.std.proofs.Common.{◌++◌, arith, inl}
use Rattle.std.proofs.lemmas.List.Elements.{All-nil}
use Rattle.protocol.specs.Packet.{IsSomePacket}
use Rattle.protocol.specs.Reading.{Not}
use Rattle.slreader.specs.declared.fault.ReaderFault.TheVariants.{AllRefused, BadReply, NotAPacket}
use Rattle.slreader.specs.Wants.{PlanValue, WantValue, commands_of_want, is_plan, is_want}
use Rattle.slreader.specs.Wants.PlanValue.{Uni, Multi}
use Rattle.slreader.specs.Wants.Action.{Data, Fetch, Time}
use Rattle.slreader.specs.Dialogue.{after_byte, asked_of, begun, given_by, given_from, reader_of}
use Rattle.slreader.specs.Dialogue.Given.{Hello, Refused, End}
use Rattle.slreader.specs.Dialogue.Stage.{Failed, Over}
use Rattle.slreader.specs.Parts.{Part, bytes_of, given_of, first_part, second_part, answers_from, end_parts, IsDialogue}
use Rattle.slreader.specs.Parts.{BeginsDialogue, asked_by}
use Rattle.slreader.specs.Parts.Verdict.{Accepted, RefusedAfter}
use Rattle.slreader.proofs.LineLemmas.{no_end_nil, no_end_behind}
use Rattle.slreader.proofs.PartLaws.{no_dialogue_law}

-- GE WLF by FETCH with two patterns, and GE NONE by FETCH
abbrev two_wants : PlanValue
two_wants = Multi (
    record {
      network = codes "GE";
      station = codes "WLF";
      patterns = codes "BH?" ∷ codes "!E" ∷ [];
      action = Fetch None None;
    }
    ∷ record { network = codes "GE"; station = codes "NONE"; patterns = []; action = Fetch None None } ∷ [])

-- one of two wants is refused
abbrev one_refused : List ℕ
one_refused = codes "SeedLink v3.0\r\nTest Centre\r\nOK\r\nOK\r\nOK\r\nOK\r\nERROR\r\nEND"

pub one_refused_asked : asked_of two_wants one_refused
    ≡ codes "HELLO\rSTATION WLF GE\rSELECT BH?\rSELECT !E\rFETCH\rSTATION NONE GE\rEND\r"
unfolding after_byte commands_of_want
one_refused_asked = refl

pub one_refused_given : given_from (begun two_wants) one_refused ≡ Hello ∷ Refused 1 ∷ End ∷ []
unfolding after_byte given_by commands_of_want
one_refused_given = refl

pub one_refused_over : (reader_of two_wants one_refused).stage ≡ Over
unfolding after_byte commands_of_want
one_refused_over = refl

-- Both are refused: END is not asked, and nothing more is read.
abbrev both_refused : List ℕ
both_refused = codes "SeedLink v3.0\r\nTest Centre\r\nERROR\r\nERROR\r\nEND"

pub both_refused_asked : asked_of two_wants both_refused ≡ codes "HELLO\rSTATION WLF GE\rSTATION NONE GE\r"
unfolding after_byte commands_of_want
both_refused_asked = refl

pub both_refused_given : given_from (begun two_wants) both_refused ≡ Hello ∷ Refused 0 ∷ Refused 1 ∷ []
unfolding after_byte given_by commands_of_want
both_refused_given = refl

pub both_refused_failed : (reader_of two_wants both_refused).stage ≡ Failed AllRefused
unfolding after_byte commands_of_want
both_refused_failed = refl

-- The first byte is that of no server.
pub no_server_failed : (reader_of two_wants (codes "X")).stage ≡ Failed BadReply
unfolding after_byte commands_of_want
no_server_failed = refl

-- Whatever station the server takes first, from a number on: the action has no answer.
abbrev any_station : PlanValue
any_station =
    Uni
    (record { network = codes "GE"; station = codes "WLF"; patterns = codes "BHZ" ∷ []; action = Data (Some 163) None })

pub any_station_asked : asked_of any_station (codes "SeedLink v3\r\n\r\nOK\r\n")
    ≡ codes "HELLO\rSELECT BHZ\rDATA 0000A3\r"
unfolding after_byte commands_of_want
any_station_asked = refl

-- ERROR in a transfer is no answer.
pub error_failed : (reader_of any_station (codes "SeedLink v3\r\n\r\nOK\r\nERROR\r\n")).stage ≡ Failed NotAPacket
unfolding after_byte commands_of_want
error_failed = refl

-- A last moment without a begin can't be asked for.
abbrev no_begin : PlanValue
no_begin =
    Uni
    (record {
      network = codes "GE";
      station = codes "WLF";
      patterns = [];
      action = Time None (Some (codes "2024,2,29"));
    })

pub no_begin_refused : is_plan no_begin ≡ false
unfolding is_want
no_begin_refused = refl

pub two_wants_asked : is_plan two_wants ≡ true
unfolding is_want
two_wants_asked = refl

-- ---- the limits of a plan

-- GE WLF by FETCH with so many patterns
abbrev want_of_size : ℕ → WantValue
want_of_size n = record {
  network = codes "GE";
  station = codes "WLF";
  patterns = replicate n (codes "D");
  action = Fetch None None;
}

pub want_of_64_patterns : is_plan (Uni (want_of_size 64)) ≡ true
unfolding is_want
want_of_64_patterns = refl

pub want_of_65_patterns : is_plan (Uni (want_of_size 65)) ≡ false
unfolding is_want
want_of_65_patterns = refl

pub plan_of_255_wants : is_plan (Multi (replicate 255 (want_of_size 1))) ≡ true
unfolding is_want
plan_of_255_wants = refl

pub plan_of_256_wants : is_plan (Multi (replicate 256 (want_of_size 0))) ≡ false
unfolding is_want
plan_of_256_wants = refl

pub plan_of_1024_patterns : is_plan (Multi (replicate 16 (want_of_size 64))) ≡ true
unfolding is_want
plan_of_1024_patterns = refl

pub plan_of_1025_patterns : is_plan (Multi (want_of_size 1 ∷ replicate 16 (want_of_size 64))) ≡ false
unfolding is_want
plan_of_1025_patterns = refl

-- ---- the same in words

-- The dialogue in which one of two wants is refused: its first want is accepted, and the second is not.
abbrev pub one_refused_parts : List Part
one_refused_parts = first_part (codes "SeedLink v3.0\r\n") ∷ second_part (codes "Test Centre\r\n") ∷
    (answers_from 0 (4 ∷ 2 ∷ []) (Accepted ∷ RefusedAfter 0 ∷ []) ++ end_parts true)

pub one_refused_in_words : IsDialogue two_wants one_refused_parts
one_refused_in_words = record {
  is_some_accepted = true;
  negotiation = first_part (codes "SeedLink v3.0\r\n") ∷ second_part (codes "Test Centre\r\n") ∷
      answers_from 0 (4 ∷ 2 ∷ []) (Accepted ∷ RefusedAfter 0 ∷ []);
  transfer = end_parts true;
  negotiated = record {
    first = codes "SeedLink v3.0\r\n";
    second = codes "Test Centre\r\n";
    verdicts = Accepted ∷ RefusedAfter 0 ∷ [];
    greeted = record {
      text = codes "SeedLink v3.0";
      marked = (codes "3.0", refl);
      short = omega arith;
      one_line = no_end_behind (codes "SeedLink v3.0") [] refl no_end_nil;
      whole = refl;
    };
    described = record {
      text = codes "Test Centre";
      marked = (codes "Test Centre", refl);
      short = omega arith;
      one_line = no_end_behind (codes "Test Centre") [] refl no_end_nil;
      whole = refl;
    };
    each = (tt, (omega arith, tt));
    some = refl;
    whole = refl;
  };
  followed = ([], true, All-nil IsSomePacket, refl);
  whole = refl;
}

pub one_refused_bytes : bytes_of one_refused_parts ≡ one_refused
one_refused_bytes = refl

pub one_refused_gives : given_of one_refused_parts ≡ Hello ∷ Refused 1 ∷ End ∷ []
one_refused_gives = refl

-- What is asked of such verdicts: of the want that is refused STATION alone, and END for the other.
pub one_refused_asks : asked_by two_wants (Accepted ∷ RefusedAfter 0 ∷ [])
    ≡ codes "HELLO\rSTATION WLF GE\rSELECT BH?\rSELECT !E\rFETCH\rSTATION NONE GE\rEND\r"
one_refused_asks = refl

-- No dialogue begins so.
pub no_server_in_words : Not (BeginsDialogue two_wants (codes "X"))
no_server_in_words = (no_dialogue_law two_wants (codes "X") two_wants_asked).0 (inl no_server_failed)
