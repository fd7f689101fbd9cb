-- A client among what is seen does what the client does.
use Rattle.std.proofs.Common.{◌≡◌, ℕ, ◌-◌, ◌≤◌, ◌<◌, Bool, List, [], ◌∷◌, ◌++◌, length, take, drop, map, filter, nat_lt}
use Rattle.std.proofs.Common.{Option, Some, None, option_map, refl, arith, length-append, zero-le}
use Rattle.std.specs.Prelude.{⊤}
use Rattle.std.specs.List.{list_all}
use Rattle.protocol.specs.Catalog.{View}
use Rattle.protocol.specs.Command.{Command, command_of}
use Rattle.protocol.specs.Lines.{Line, is_line_end}
use Rattle.protocol.specs.Lines.Line.{Text, TooLong}
use Rattle.protocol.specs.Command.Command.{Bye}
use Rattle.protocol.specs.History.{Arrival, Request, next, is_over}
use Rattle.protocol.specs.Session.{Negotiated, Wish, Outcome, outcome_of}
use Rattle.protocol.specs.Session.Outcome.{Stays, Lists, Starts, Ends}
use Rattle.protocol.specs.Client.{State, Client, request_of, follow, leave, obey_in, obey, reads, left_unread}
use Rattle.protocol.specs.Client.{read_byte, read_on, inbox, is_ending, received, chosen, filled_in, filled, offered}
use Rattle.protocol.specs.Client.{listed, left_with, is_nothing, taken_of, after_take}
use Rattle.protocol.specs.Client.State.{Negotiating, Listing, Transfer, Ending}
use Rattle.protocol.proofs.Places.{place, place-append}
use Rattle.protocol.proofs.FoundLemmas.{both, IsShown}
use Rattle.protocol.proofs.Requests.{Each, moved, IsGood, found_within, place_next, first_wanted-filter}
use Rattle.protocol.proofs.Requests.{first_wanted_within, any_wants_shown, next-filter, next_found, packet_of-filter}
use Rattle.protocol.proofs.Requests.{all_over-filter}
use Rattle.protocol.proofs.Choices.{NegotiatesFrom, WishesFrom, LeadsTo, outcome_from}

-- a client with its positions among what is seen
abbrev pub moved_state : (Arrival → Bool) → List Arrival → State → State
moved_state t h (Negotiating n) = Negotiating n
moved_state t h (Listing lines n) = Listing lines n
moved_state t h (Transfer requests q) = Transfer (map (moved t h) requests) (place t h q)
moved_state t h Ending = Ending

abbrev pub moved_client : (Arrival → Bool) → List Arrival → Client → Client
moved_client t h c = record c { state = moved_state t h c.state }

-- The stations are seen, and the positions lie in the history.
abbrev pub IsGoodState : (Arrival → Bool) → List Arrival → State → Type 0
IsGoodState t h (Negotiating n) = NegotiatesFrom (IsShown t) n
IsGoodState t h (Listing lines n) = NegotiatesFrom (IsShown t) n
IsGoodState t h (Transfer requests q) = Each (IsGood t h) requests × (q ≤ length h)
IsGoodState t h Ending = ⊤

-- c' is c among what is seen
pub record Follows (t : Arrival → Bool) (h : List Arrival) (c' c : Client) : Type 0 where
  pub same : c' ≡ moved_client t h c
  pub good : IsGoodState t h c.state

reads-moved : (t : Arrival → Bool) (h : List Arrival) (s : State) (waiting : List ℕ)
    → reads (moved_state t h s) waiting ≡ reads s waiting
reads-moved t h (Negotiating n) [] = refl
reads-moved t h (Negotiating n) (b ∷ bs) = refl
reads-moved t h (Listing lines n) waiting = refl
reads-moved t h (Transfer requests q) waiting = refl
reads-moved t h Ending waiting = refl

left_unread-moved : (t : Arrival → Bool) (h : List Arrival) (s : State) (bytes : List ℕ)
    → left_unread (moved_state t h s) bytes ≡ left_unread s bytes
left_unread-moved t h (Negotiating n) bytes = refl
left_unread-moved t h (Listing lines n) bytes = refl
left_unread-moved t h (Transfer requests q) bytes = refl
left_unread-moved t h Ending bytes = refl

is_ending-moved : (t : Arrival → Bool) (h : List Arrival) (s : State) → is_ending (moved_state t h s) ≡ is_ending s
is_ending-moved t h (Negotiating n) = refl
is_ending-moved t h (Listing lines n) = refl
is_ending-moved t h (Transfer requests q) = refl
is_ending-moved t h Ending = refl

listed-moved : (t : Arrival → Bool) (h : List Arrival) (s : State)
    → listed (moved_state t h s) ≡ moved_state t h (listed s)
listed-moved t h (Negotiating n) = refl
listed-moved t h (Listing [] n) = refl
listed-moved t h (Listing (line ∷ lines) n) = refl
listed-moved t h (Transfer requests q) = refl
listed-moved t h Ending = refl

listed_good : (t : Arrival → Bool) (h : List Arrival) (s : State) → IsGoodState t h s → IsGoodState t h (listed s)
listed_good t h (Negotiating n) good = good
listed_good t h (Listing [] n) good = good
listed_good t h (Listing (line ∷ lines) n) good = good
listed_good t h (Transfer requests q) good = good
listed_good t h Ending good = good

module _ (t : Arrival → Bool) (h : List Arrival) where
  requests-moved : (ws : List Wish) → Each (WishesFrom (IsShown t)) ws
      → map (request_of (filter t h)) ws ≡ map (moved t h) (map (request_of h) ws)
  requests-moved [] shown = refl
  requests-moved (w ∷ ws) shown = rw (first_wanted-filter t w.station shown.0 h w.action, requests-moved ws shown.1)

  requests_good : (ws : List Wish) → Each (WishesFrom (IsShown t)) ws → Each (IsGood t h) (map (request_of h) ws)
  requests_good [] shown = tt
  requests_good (w ∷ ws) shown =
      (record { shown = shown.0; within = first_wanted_within w.station h w.action }, requests_good ws shown.1)

  follow_follows : (v : View) (c : Client) (n : Negotiated) (o : Outcome) → NegotiatesFrom (IsShown t) n
      → LeadsTo (IsShown t) o → Follows t h (follow v (filter t h) (moved_client t h c) n o) (follow v h c n o)
  follow_follows v c n (Stays reply m) from leads = record { same = refl; good = leads }
  follow_follows v c n Lists from leads = record { same = refl; good = from }
  follow_follows v c n (Starts wishes) from leads =
      record { same = rw (requests-moved wishes leads); good = (requests_good wishes leads, zero-le) }
  follow_follows v c n Ends from leads = record { same = refl; good = tt }

  leave_follows : (c : Client) (x : Command) → IsGoodState t h c.state
      → Follows t h (leave (moved_client t h c) x) (leave c x)
  leave_follows c Bye good = record { same = refl; good = tt }
  leave_follows c _ good = record { same = refl; good = good }

  module _ (v : View) (stations : Each (IsShown t) v.stations) where
    obey_in_follows : (line : Line) (c : Client) (s : State) → IsGoodState t h c.state → IsGoodState t h s
        → Follows t h (obey_in v (filter t h) line (moved_client t h c) (moved_state t h s)) (obey_in v h line c s)
    obey_in_follows line c (Negotiating n) good from =
        follow_follows v c n (outcome_of v n (command_of line)) from
        (outcome_from (IsShown t) v n (command_of line) stations from)
    obey_in_follows line c (Listing lines n) good from = record { same = refl; good = good }
    obey_in_follows line c (Transfer requests q) good from = leave_follows c (command_of line) good
    obey_in_follows line c Ending good from = record { same = refl; good = good }

    obey_follows : (line : Line) (c : Client) → IsGoodState t h c.state
        → Follows t h (obey v (filter t h) line (moved_client t h c)) (obey v h line c)
    obey_follows (Text []) c good = record { same = refl; good = good }
    obey_follows (Text (b ∷ bs)) c good = obey_in_follows (Text (b ∷ bs)) c c.state good good
    obey_follows TooLong c good = obey_in_follows TooLong c c.state good good

    read_byte_follows : (b : ℕ) (c : Client) → IsGoodState t h c.state
        → Follows t h (read_byte v (filter t h) b (moved_client t h c)) (read_byte v h b c)
    read_byte_follows b c good =
        both (is_line_end b) (λ e. rw e (obey_follows c.open_line (record c { open_line = Text [] }) good))
        (λ e. rw e (record { same = refl; good = good }))

    read_on_follows : (bytes : List ℕ) (c : Client) → IsGoodState t h c.state
        → Follows t h (read_on v (filter t h) bytes (moved_client t h c)) (read_on v h bytes c)
    read_on_follows [] c good = record { same = refl; good = good }
    read_on_follows (b ∷ bytes) c good =
        let step = read_byte_follows b c good in
        both (reads c.state c.waiting)
        (λ e. rw (
          reads-moved t h c.state c.waiting,
          e,
          step.same,
        ) (read_on_follows bytes (read_byte v h b c) step.good))
        (λ e. rw (reads-moved t h c.state c.waiting, e, left_unread-moved t h c.state (b ∷ bytes))
        (record { same = refl; good = good }))

    pub received_follows : (bytes : List ℕ) (c : Client) → IsGoodState t h c.state
        → Follows t h (received v (filter t h) bytes (moved_client t h c)) (received v h bytes c)
    received_follows bytes c good =
        both (nat_lt (inbox - length c.unread) (length bytes))
        (λ e. rw e (record { same = refl; good = good }))
        (λ e. both (is_ending c.state)
        (λ s. rw (e, is_ending-moved t h c.state, s) (record { same = refl; good = good }))
        (λ s. rw (e, is_ending-moved t h c.state, s) (read_on_follows (c.unread ++ bytes) c good)))

    left_with_follows : (c : Client) (left : List ℕ) → IsGoodState t h c.state
        → Follows t h (left_with v (filter t h) (moved_client t h c) left) (left_with v h c left)
    left_with_follows c (b ∷ bs) good = record { same = refl; good = good }
    left_with_follows c [] good =
        rw (listed-moved t h c.state)
        (read_on_follows c.unread (record c { state = listed c.state; waiting = [] }) (listed_good t h c.state good))

    pub after_take_follows : (c : Client) (n : ℕ) → IsGoodState t h c.state
        → Follows t h (after_take v (filter t h) (moved_client t h c) n) (after_take v h c n)
    after_take_follows c n good = both (is_nothing (take n c.waiting)) (λ e. rw e (record { same = refl; good = good }))
        (λ e. rw e (left_with_follows c (drop n c.waiting) good))

  pub taken_of-moved : (c : Client) (n : ℕ) → taken_of (moved_client t h c) n ≡ taken_of c n
  taken_of-moved c n = rw (is_ending-moved t h c.state)

  chosen_follows : (rs : List Request) (q : ℕ) (c : Client) (p : Option ℕ) → IsGoodState t h c.state
      → Each (IsGood t h) rs → q ≤ length h → next h rs q ≡ p
      → Follows t h
      (chosen (filter t h) (map (moved t h) rs) (place t h q) (moved_client t h c) (option_map (place t h) p))
      (chosen h rs q c p)
  chosen_follows rs q c (Some p) good each within found =
      let f = next_found h rs q p within found in
      let shown = any_wants_shown t h p f.later f.arrival rs each f.says in
      let p-within : p < length h = found_within f in
      record {
        same = rw (place_next t _ h p f shown, packet_of-filter t h rs _ p f shown each);
        good = (each, omega arith);
      }
  chosen_follows rs q c None good each within found =
      both (list_all (is_over h) rs)
      (λ e. rw (all_over-filter t h rs each, e) (record { same = refl; good = tt }))
      (λ e. rw (all_over-filter t h rs each, e) (record { same = refl; good = good }))

  filled_in_follows : (c : Client) (s : State) → IsGoodState t h c.state → IsGoodState t h s
      → Follows t h (filled_in (filter t h) (moved_client t h c) (moved_state t h s)) (filled_in h c s)
  filled_in_follows c (Negotiating n) good from = record { same = refl; good = good }
  filled_in_follows c (Listing [] n) good from = record { same = refl; good = good }
  filled_in_follows c (Listing (line ∷ lines) n) good from = record { same = refl; good = from }
  filled_in_follows c (Transfer rs q) good from =
      rw (next-filter t h rs q from.0 from.1) (chosen_follows rs q c (next h rs q) good from.0 from.1 refl)
  filled_in_follows c Ending good from = record { same = refl; good = good }

  filled_follows : (c : Client) (waiting : List ℕ) → IsGoodState t h c.state
      → Follows t h (filled (filter t h) (moved_client t h c) waiting) (filled h c waiting)
  filled_follows c [] good = filled_in_follows c c.state good good
  filled_follows c (b ∷ bs) good = record { same = refl; good = good }

  pub offered_follows : (c : Client) → IsGoodState t h c.state
      → Follows t h (offered (filter t h) (moved_client t h c)) (offered h c)
  offered_follows c good = filled_follows c c.waiting good

  -- The history grows.
  module _ (a : Arrival) where
    good_more : (rs : List Request) → Each (IsGood t h) rs → Each (IsGood t (h ++ a ∷ [])) rs
    good_more [] each = tt
    good_more (r ∷ rs) each = (
      record {
        shown = each.0.shown;
        within = let w : r.from ≤ length h =
            each.0.within in omega (arith, length-append h (a ∷ []));
      },
      good_more rs each.1,
    )

    moved_more : (rs : List Request) → Each (IsGood t h) rs → map (moved t (h ++ a ∷ [])) rs ≡ map (moved t h) rs
    moved_more [] each = refl
    moved_more (r ∷ rs) each = rw (place-append t h (a ∷ []) r.from each.0.within, moved_more rs each.1)

    pub moved_state_more : (s : State) → IsGoodState t h s → moved_state t (h ++ a ∷ []) s ≡ moved_state t h s
    moved_state_more (Negotiating n) good = refl
    moved_state_more (Listing lines n) good = refl
    moved_state_more (Transfer rs q) good = rw (place-append t h (a ∷ []) q good.1, moved_more rs good.0)
    moved_state_more Ending good = refl

    pub good_state_more : (s : State) → IsGoodState t h s → IsGoodState t (h ++ a ∷ []) s
    good_state_more (Negotiating n) good = good
    good_state_more (Listing lines n) good = good
    good_state_more (Transfer rs q) good =
        (good_more rs good.0, let w : q ≤ length h = good.1 in omega (arith, length-append h (a ∷ [])))
    good_state_more Ending good = tt
