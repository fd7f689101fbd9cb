-- Why something is refused: the numbers and names by which the program tells it.
use Rattle.std.specs.Prelude.{ℕ, List, [], ◌∷◌, Option, find, ◌==◌, codes, Bool, true, false}
use Rattle.protocol.specs.declared.reason.Reason.{Reason}
use Rattle.protocol.specs.declared.reason.Reason.TheVariants as reason

-- the number of a reason
abbrev pub number_of : Reason → ℕ
number_of reason.Sequence = 1
number_of reason.Quality = 2
number_of reason.Time = 3
number_of reason.Blockettes = 4
number_of reason.No1000 = 5
number_of reason.Length = 6
number_of reason.Field = 8
number_of reason.NotAPacket = 10
number_of reason.Address = 11
number_of reason.Mask = 12
number_of reason.Toml = 20
number_of reason.Missing = 21
number_of reason.Limit = 22
number_of reason.Duplicate = 23
number_of reason.Access = 24
number_of reason.OutOfMemory = 25
number_of reason.Gone = 30
number_of reason.NoRoom = 31
number_of reason.UnknownStation = 32
number_of reason.Exhausted = 33
number_of reason.Different = 34
number_of reason.Poll = 40
number_of reason.Partial = 41
number_of reason.Read = 42
number_of reason.Write = 43
number_of reason.File = 44
number_of reason.Script = 45
number_of reason.Listen = 46
number_of reason.Connect = 47
number_of reason.Device = 48
number_of reason.Numbers = 49
number_of reason.Refused = 50
number_of reason.AllRefused = 51
number_of reason.BadReply = 52
number_of reason.State = 53
number_of reason.Shape = 60
number_of reason.Range = 61
number_of reason.Full = 62

-- the name of a reason
abbrev pub name_of : Reason → List ℕ
name_of reason.Sequence = codes "Sequence"
name_of reason.Quality = codes "Quality"
name_of reason.Time = codes "Time"
name_of reason.Blockettes = codes "Blockettes"
name_of reason.No1000 = codes "No1000"
name_of reason.Length = codes "Length"
name_of reason.Field = codes "Field"
name_of reason.NotAPacket = codes "NotAPacket"
name_of reason.Address = codes "Address"
name_of reason.Mask = codes "Mask"
name_of reason.Toml = codes "Toml"
name_of reason.Missing = codes "Missing"
name_of reason.Limit = codes "Limit"
name_of reason.Duplicate = codes "Duplicate"
name_of reason.Access = codes "Access"
name_of reason.OutOfMemory = codes "OutOfMemory"
name_of reason.Gone = codes "Gone"
name_of reason.NoRoom = codes "NoRoom"
name_of reason.UnknownStation = codes "UnknownStation"
name_of reason.Exhausted = codes "Exhausted"
name_of reason.Different = codes "Different"
name_of reason.Poll = codes "Poll"
name_of reason.Partial = codes "Partial"
name_of reason.Read = codes "Read"
name_of reason.Write = codes "Write"
name_of reason.File = codes "File"
name_of reason.Script = codes "Script"
name_of reason.Listen = codes "Listen"
name_of reason.Connect = codes "Connect"
name_of reason.Device = codes "Device"
name_of reason.Numbers = codes "Numbers"
name_of reason.Refused = codes "Refused"
name_of reason.AllRefused = codes "AllRefused"
name_of reason.BadReply = codes "BadReply"
name_of reason.State = codes "State"
name_of reason.Shape = codes "Shape"
name_of reason.Range = codes "Range"
name_of reason.Full = codes "Full"

-- memory was refused
abbrev pub is_memory : Reason → Bool
is_memory reason.OutOfMemory = true
is_memory _ = false

-- an output took no more
abbrev pub is_output : Reason → Bool
is_output reason.Write = true
is_output _ = false

-- all reasons, in the order of their numbers
abbrev pub reasons : List Reason
reasons =
    reason.Sequence ∷ reason.Quality ∷ reason.Time ∷ reason.Blockettes ∷ reason.No1000 ∷ reason.Length ∷
    reason.Field ∷ reason.NotAPacket ∷ reason.Address ∷ reason.Mask ∷ reason.Toml ∷ reason.Missing ∷ reason.Limit ∷
    reason.Duplicate ∷ reason.Access ∷ reason.OutOfMemory ∷ reason.Gone ∷ reason.NoRoom ∷ reason.UnknownStation ∷
    reason.Exhausted ∷ reason.Different ∷ reason.Poll ∷ reason.Partial ∷ reason.Read ∷ reason.Write ∷ reason.File ∷
    reason.Script ∷ reason.Listen ∷ reason.Connect ∷ reason.Device ∷ reason.Numbers ∷ reason.Refused ∷
    reason.AllRefused ∷ reason.BadReply ∷ reason.State ∷ reason.Shape ∷ reason.Range ∷ reason.Full ∷ []

-- the reason with that number, if there is one
abbrev pub reason_by : ℕ → Option Reason
reason_by number = find (λ r. number_of r == number) reasons
