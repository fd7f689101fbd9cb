-- Worked scripts, and what they write.
use Rattle.std.specs.Prelude.{◌≡◌, refl, ℕ, List, [], ◌∷◌, Some, None, codes}
use Rattle.std.specs.Fmt.{digits}
use Rattle.hex.proofs.OnLiterals.{hex_on_literals}
use Rattle.protocol.specs.Catalog.{Config}
use Rattle.protocol.specs.World.Event.{Open, Bytes, Take}
use Rattle.event_script.specs.Script.{events_of}
use Rattle.event_script.specs.Spelling.{spelled_byte}
use Rattle.job_check.specs.Output.{output_after, replayed}
use Rattle.job_check.specs.declared.replaying.ReplayStyle.TheVariants.{Hexadecimal, Dialogue}

-- a title and no station
abbrev pub test_centre : Config
test_centre = record { title = codes "Test Centre"; max_connections = 8; access = None; entries = [] }

-- a client says HELLO and takes what it is answered
abbrev pub hello : List ℕ
hello = codes "open 10.0.0.7\nline 0 HELLO\ntake 0 520\ntake 0 520\n"

pub hello_read : events_of hello ≡ Some (Open 0x0a000007 ∷ Bytes 0 (codes "HELLO\r") ∷ Take 0 520 ∷ Take 0 520 ∷ [])
hello_read = refl

pub hello_written : replayed Hexadecimal test_centre hello
    ≡ Some
    (codes
    "0 536565644c696e6b2076332e30202873746174696f6e20616363657373290d0a546573742043656e7472650d0a\n0 -\n")
unfolding hex_on_literals digits output_after
hello_written = refl

-- a take before its client opens; a command in pieces; an end
pub bye_written : replayed Hexadecimal test_centre
    (codes "take 0 5\nopen 10.0.0.7\nbytes 0 48454c\nbytes 0 4c4f0d\nbytes 0 0a\ntake 0 520\nline 0 BYE\ntake 0 1")
    ≡ Some
    (codes
    "0 - end\n0 536565644c696e6b2076332e30202873746174696f6e20616363657373290d0a546573742043656e7472650d0a\n0 - end\n")
unfolding hex_on_literals digits output_after
bye_written = refl

-- comments and empty lines
pub nothing_written : replayed Hexadecimal test_centre (codes "# nothing\n\n") ≡ Some []
unfolding output_after
nothing_written = refl

-- ---- as a dialogue

pub hello_told : replayed Dialogue test_centre hello
    ≡ Some
    (codes "0 open 10.0.0.7\n0 > HELLO\n0 < SeedLink v3.0 (station access)\\r\\nTest Centre\n0 nothing\n")
unfolding digits spelled_byte output_after
hello_told = refl
