-- Why bytes are not taken, and what a server answers.
use Rattle.std.specs.Prelude.{ℕ, nat_lt, ◌-◌, Bool, true, false, if◌then◌else◌, length, Option, Some, None}
use Rattle.std.specs.Prelude.{Result, Ok, Err}
use Rattle.protocol.specs.declared.reason.Reason.{Reason}
use Rattle.protocol.specs.declared.reason.Reason.TheVariants as reason
use Rattle.protocol.specs.Client.{Client, inbox, is_nothing, is_ending}
use Rattle.server_core.specs.declared.client.ReceiveRefusal.{ReceiveRefusal}
use Rattle.server_core.specs.declared.client.ReceiveRefusal.TheVariants.{Gone, NoRoom}
use Rattle.server_core.specs.declared.client.Offer.{Offer}
use Rattle.server_core.specs.declared.client.Offer.TheVariants.{Bytes, Ended, Idle}

abbrev pub refusal_reason : ReceiveRefusal → Reason
refusal_reason Gone = reason.Gone
refusal_reason NoRoom = reason.NoRoom

-- how many bytes a client may send
abbrev pub room_of : Client → ℕ
room_of c = inbox - length c.unread

-- what bytes of such a length are answered
abbrev pub receipt : ℕ → Option Client → Result (Unit {0}) ReceiveRefusal
receipt n None = Err Gone
receipt n (Some c) = if nat_lt (room_of c) n then Err NoRoom else Ok tt

-- what an offer is, by what waits after it
abbrev pub offer_when : (nothing_waits : Bool) → (ends : Bool) → Offer
offer_when nothing_waits ends = if nothing_waits then (if ends then Ended else Idle) else Bytes

-- An offer finds nothing.
abbrev pub is_idle : Offer → Bool
is_idle Idle = true
is_idle Bytes = false
is_idle Ended = false

-- what bytes are answered, whatever else is told of them
abbrev pub receipt_in : {A : Type 0} → Result A ReceiveRefusal → Result (Unit {0}) ReceiveRefusal
receipt_in (Ok x) = Ok tt
receipt_in (Err refusal) = Err refusal

abbrev pub offer_of : Client → Offer
offer_of c = offer_when (is_nothing c.waiting) (is_ending c.state)
