-- Bytes that a client had unread before do not matter to what it reads on.
use Rattle.std.proofs.Common.{◌≡◌, ℕ, true, List, [], ◌∷◌, refl, ap, ◌∙◌}
use Rattle.protocol.specs.Catalog.{View}
use Rattle.protocol.specs.Lines.{Line, is_line_end}
use Rattle.protocol.specs.Lines.Line.{Text, TooLong}
use Rattle.protocol.specs.Command.{Command, command_of}
use Rattle.protocol.specs.Command.Command.{Blank, Hello, Cat, Bye, End, Station, Select, Data, Fetch, Time, Bad}
use Rattle.protocol.specs.History.{Arrival}
use Rattle.protocol.specs.Session.{Negotiated, Outcome, outcome_of}
use Rattle.protocol.specs.Session.Outcome.{Stays, Lists, Starts, Ends}
use Rattle.protocol.specs.Client.{Client, State, follow, leave, obey_in, obey, reads, read_byte, read_on}
use Rattle.protocol.specs.Client.State.{Negotiating, Listing, Transfer, Ending}
use Rattle.protocol.proofs.FoundLemmas.{both}

module _ (v : View) (h : List Arrival) (u : List ℕ) where
  follow-unread : (c : Client) (n : Negotiated) (o : Outcome)
      → follow v h (record c { unread = u }) n o ≡ record (follow v h c n o) { unread = u }
  follow-unread c n (Stays reply m) = refl
  follow-unread c n Lists = refl
  follow-unread c n (Starts wishes) = refl
  follow-unread c n Ends = refl

  leave-unread : (c : Client) (command : Command)
      → leave (record c { unread = u }) command ≡ record (leave c command) { unread = u }
  leave-unread c Blank = refl
  leave-unread c Hello = refl
  leave-unread c Cat = refl
  leave-unread c Bye = refl
  leave-unread c End = refl
  leave-unread c (Station code network) = refl
  leave-unread c (Select pattern) = refl
  leave-unread c (Data number begin) = refl
  leave-unread c (Fetch number begin) = refl
  leave-unread c (Time begin last) = refl
  leave-unread c Bad = refl

  obey_in-unread : (line : Line) (c : Client) (s : State)
      → obey_in v h line (record c { unread = u }) s ≡ record (obey_in v h line c s) { unread = u }
  obey_in-unread line c (Negotiating n) = follow-unread c n (outcome_of v n (command_of line))
  obey_in-unread line c (Listing lines n) = refl
  obey_in-unread line c (Transfer requests q) = leave-unread c (command_of line)
  obey_in-unread line c Ending = refl

  pub obey-unread : (line : Line) (c : Client)
      → obey v h line (record c { unread = u }) ≡ record (obey v h line c) { unread = u }
  obey-unread (Text []) c = refl
  obey-unread (Text (b ∷ bs)) c = obey_in-unread (Text (b ∷ bs)) c c.state
  obey-unread TooLong c = obey_in-unread TooLong c c.state

  pub read_byte-unread : (b : ℕ) (c : Client)
      → read_byte v h b (record c { unread = u }) ≡ record (read_byte v h b c) { unread = u }
  read_byte-unread b c = both (is_line_end b) (λ y. rw y (obey-unread c.open_line (record c { open_line = Text [] })))
      (λ n. rw n)

  pub read_on-unread : (bytes : List ℕ) (c : Client) → read_on v h bytes (record c { unread = u }) ≡ read_on v h bytes c
  read_on-unread [] c = refl
  read_on-unread (b ∷ bytes) c =
      both (reads c.state c.waiting)
      (λ y. rw y (ap (read_on v h bytes) (read_byte-unread b c) ∙ read_on-unread bytes (read_byte v h b c)))
      (λ n. rw n)

-- A client that may read, and keeps what is left unread, reads on by a step.
pub read_on-step : (v : View) (h : List Arrival) (b : ℕ) (bytes : List ℕ) (c : Client) → reads c.state c.waiting ≡ true
    → read_on v h bytes (read_byte v h b (record c { unread = bytes })) ≡ read_on v h (b ∷ bytes) c
read_on-step v h b bytes c may =
    rw may (ap (read_on v h bytes) (read_byte-unread v h bytes b c)
    ∙ read_on-unread v h bytes bytes (read_byte v h b c))
