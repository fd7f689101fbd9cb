-- A reason is found again by its number, and by its name.
use Rattle.std.proofs.Common.{◌≡◌, ℕ, ◌==◌, List, [], ◌∷◌, refl, ap, sym, ◌∙◌}
use Rattle.std.specs.Prelude.{Option, Some, find}
use Rattle.std.specs.Str.{bytes_eq}
use Rattle.protocol.specs.Reason.{number_of, name_of, reasons, reason_by}
use Rattle.protocol.specs.declared.reason.Reason.{Reason}
use Rattle.protocol.specs.declared.reason.Reason.TheVariants as reason

abbrev by_name : List ℕ → Option Reason
by_name name = find (λ r. bytes_eq (name_of r) name) reasons

pub number_found : (r : Reason) → reason_by (number_of r) ≡ Some r
number_found reason.Sequence = refl
number_found reason.Quality = refl
number_found reason.Time = refl
number_found reason.Blockettes = refl
number_found reason.No1000 = refl
number_found reason.Length = refl
number_found reason.Field = refl
number_found reason.NotAPacket = refl
number_found reason.Address = refl
number_found reason.Mask = refl
number_found reason.Toml = refl
number_found reason.Missing = refl
number_found reason.Limit = refl
number_found reason.Duplicate = refl
number_found reason.Access = refl
number_found reason.OutOfMemory = refl
number_found reason.Gone = refl
number_found reason.NoRoom = refl
number_found reason.UnknownStation = refl
number_found reason.Exhausted = refl
number_found reason.Different = refl
number_found reason.Poll = refl
number_found reason.Partial = refl
number_found reason.Read = refl
number_found reason.Write = refl
number_found reason.File = refl
number_found reason.Script = refl
number_found reason.Listen = refl
number_found reason.Connect = refl
number_found reason.Device = refl
number_found reason.Numbers = refl
number_found reason.Refused = refl
number_found reason.AllRefused = refl
number_found reason.BadReply = refl
number_found reason.State = refl
number_found reason.Shape = refl
number_found reason.Range = refl
number_found reason.Full = refl

name_found : (r : Reason) → by_name (name_of r) ≡ Some r
name_found reason.Sequence = refl
name_found reason.Quality = refl
name_found reason.Time = refl
name_found reason.Blockettes = refl
name_found reason.No1000 = refl
name_found reason.Length = refl
name_found reason.Field = refl
name_found reason.NotAPacket = refl
name_found reason.Address = refl
name_found reason.Mask = refl
name_found reason.Toml = refl
name_found reason.Missing = refl
name_found reason.Limit = refl
name_found reason.Duplicate = refl
name_found reason.Access = refl
name_found reason.OutOfMemory = refl
name_found reason.Gone = refl
name_found reason.NoRoom = refl
name_found reason.UnknownStation = refl
name_found reason.Exhausted = refl
name_found reason.Different = refl
name_found reason.Poll = refl
name_found reason.Partial = refl
name_found reason.Read = refl
name_found reason.Write = refl
name_found reason.File = refl
name_found reason.Script = refl
name_found reason.Listen = refl
name_found reason.Connect = refl
name_found reason.Device = refl
name_found reason.Numbers = refl
name_found reason.Refused = refl
name_found reason.AllRefused = refl
name_found reason.BadReply = refl
name_found reason.State = refl
name_found reason.Shape = refl
name_found reason.Range = refl
name_found reason.Full = refl

unsome : (r s : Reason) → Some r ≡ Some s → r ≡ s
unsome r s e = cc

pub one_number : (r s : Reason) → number_of r ≡ number_of s → r ≡ s
one_number r s e = unsome r s (sym (number_found r) ∙ ap reason_by e ∙ number_found s)

pub one_name : (r s : Reason) → name_of r ≡ name_of s → r ≡ s
one_name r s e = unsome r s (sym (name_found r) ∙ ap by_name e ∙ name_found s)
