-- A client that may read takes line after line, and then the rest.
use Rattle.std.proofs.Common.{◌≡◌, ℕ, true, false, List, [], ◌∷◌, ◌++◌, refl}
use Rattle.std.specs.List.{list_any}
use Rattle.std.proofs.lemmas.Bool.{or_parts}
use Rattle.protocol.specs.Catalog.{View}
use Rattle.protocol.specs.Lines.{is_line_end, joined, open_after}
use Rattle.protocol.specs.Lines.Line.{Text}
use Rattle.protocol.specs.History.{Arrival}
use Rattle.protocol.specs.Client.{Client, State, reads, left_unread, obey, read_on}
use Rattle.protocol.specs.Client.State.{Negotiating, Listing, Transfer, Ending}

module _ (v : View) (h : List Arrival) where
  pub reads_line : (piece : List ℕ) (e : ℕ) (bytes : List ℕ) (c : Client) → reads c.state c.waiting ≡ true
      → list_any is_line_end piece ≡ false → is_line_end e ≡ true
      → read_on v h (piece ++ e ∷ bytes) c
      ≡ read_on v h bytes (obey v h (open_after c.open_line piece) (record c { open_line = Text [] }))
  reads_line [] e bytes c may none end = rw (may, end)
  reads_line (b ∷ piece) e bytes c may none end =
      let parts = or_parts (is_line_end b) (list_any is_line_end piece) none in
      rw (may, parts.0) (reads_line piece e bytes (record c { open_line = joined c.open_line b }) may parts.1 end)

  pub reads_rest : (piece : List ℕ) (c : Client) → reads c.state c.waiting ≡ true → list_any is_line_end piece ≡ false
      → read_on v h piece c ≡ record c { open_line = open_after c.open_line piece; unread = [] }
  reads_rest [] c may none = refl
  reads_rest (b ∷ piece) c may none =
      let parts = or_parts (is_line_end b) (list_any is_line_end piece) none in
      rw (may, parts.0) (reads_rest piece (record c { open_line = joined c.open_line b }) may parts.1)

  nothing_left : (s : State) → left_unread s [] ≡ []
  nothing_left (Negotiating n) = refl
  nothing_left (Listing lines n) = refl
  nothing_left (Transfer requests q) = refl
  nothing_left Ending = refl

  pub reads_nothing : (bytes : List ℕ) (c : Client) → reads c.state c.waiting ≡ false
      → read_on v h bytes c ≡ record c { unread = left_unread c.state bytes }
  reads_nothing [] c not_now = rw (nothing_left c.state)
  reads_nothing (b ∷ bytes) c not_now = rw not_now
