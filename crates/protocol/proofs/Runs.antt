-- A client alone in a run: its offers follow on one another, and what they make wait is handed.
use Rattle.std.proofs.Common.{◌≡◌, ℕ, zero, suc, ◌+◌, ◌-◌, true≢false, ◌≤◌, ◌⊎◌, inl, inr, Bool, true, false, List, []}
use Rattle.std.proofs.Common.{◌∷◌, ◌++◌, length, take, drop, nat_lt, Option, Some, None, refl, sym, ap, ◌∙◌, arith}
use Rattle.std.proofs.Common.{length-append, append_assoc, append-nil, subst, take-append-drop, zero-le}
use Rattle.std.specs.Prelude.{if◌then◌else◌, map, is_none, ◌&&◌}
use Rattle.std.specs.List.{list_all, cons_option, flat_map}
use Rattle.protocol.specs.Catalog.{View}
use Rattle.protocol.specs.Command.{Command, command_of}
use Rattle.protocol.specs.Lines.{Line, is_line_end}
use Rattle.protocol.specs.Lines.Line.{Text, TooLong}
use Rattle.protocol.specs.Command.Command.{Bye}
use Rattle.protocol.specs.History.{Arrival, Request, next, is_over}
use Rattle.protocol.specs.Session.{Negotiated, Outcome, outcome_of}
use Rattle.protocol.specs.Session.Outcome.{Stays as StaysOutcome, Lists, Starts, Ends}
use Rattle.protocol.specs.Client.{State, Client, Taken, new_client, request_of, follow, leave, obey_in, obey, reads}
use Rattle.protocol.specs.Client.{read_byte, read_on, inbox, is_ending, received, chosen, filled_in, filled, offered}
use Rattle.protocol.specs.Client.{listed, left_with, is_nothing, cut, taken_of, after_take}
use Rattle.protocol.specs.Client.State.{Negotiating, Listing, Transfer, Ending}
use Rattle.protocol.specs.World.{gone}
use Rattle.protocol.specs.Alone.{OwnEvent, Lone, absent, own_step, alone_from}
use Rattle.protocol.specs.Alone.OwnEvent.{OwnOpen, OwnBytes, OwnTake, OwnClose, OwnCut, Arrives}
use Rattle.protocol.specs.Offers.{arrivals, lone_after, state_of, Offer, offer_in, offers_from, chosen_by}
use Rattle.protocol.specs.Offers.{chosen_positions, one_past, is_last, has_begun_in, has_begun, is_since, takes_from}
use Rattle.protocol.specs.Offers.{bytes_of}
use Rattle.protocol.proofs.FoundLemmas.{both}
use Rattle.protocol.proofs.Requests.{found_within, next_found}
use Rattle.protocol.proofs.OfferChains.{Link, after_choice, Chain, made_of, made}

-- The transfer goes on, or is over.
abbrev pub IsWithin : List Request → ℕ → State → Type 0
IsWithin rs q s = (s ≡ Transfer rs q) ⊎ (s ≡ Ending)

-- c' is in the same transfer as it was, or at its end, and these bytes wait
record Stays (rs : List Request) (q : ℕ) (waiting : List ℕ) (c : Client) : Type 0 where
  state : IsWithin rs q c.state
  waits : c.waiting ≡ waiting

nothing_taken : (n : ℕ) (w : List ℕ) → is_nothing (take n w) ≡ true → drop n w ≡ w
nothing_taken zero w e = refl
nothing_taken (suc n) [] e = refl
nothing_taken (suc n) (b ∷ w) e = absurd (true≢false (sym e))

module _ (v : View) (h : List Arrival) (rs : List Request) (q : ℕ) where
  leave_stays : (c : Client) (x : Command) → IsWithin rs q c.state → Stays rs q c.waiting (leave c x)
  leave_stays c Bye within = record { state = inr refl; waits = refl }
  leave_stays c _ within = record { state = within; waits = refl }

  obey_in_stays : (line : Line) (c : Client) (s : State) → IsWithin rs q c.state → IsWithin rs q s
      → Stays rs q c.waiting (obey_in v h line c s)
  obey_in_stays line c s within (inl e) = rw e (leave_stays c (command_of line) within)
  obey_in_stays line c s within (inr e) = rw e (record { state = within; waits = refl })

  obey_stays : (line : Line) (c : Client) → IsWithin rs q c.state → Stays rs q c.waiting (obey v h line c)
  obey_stays (Text []) c within = record { state = within; waits = refl }
  obey_stays (Text (b ∷ bs)) c within = obey_in_stays (Text (b ∷ bs)) c c.state within within
  obey_stays TooLong c within = obey_in_stays TooLong c c.state within within

  read_byte_stays : (b : ℕ) (c : Client) → IsWithin rs q c.state → Stays rs q c.waiting (read_byte v h b c)
  read_byte_stays b c within =
      both (is_line_end b) (λ e. rw e (obey_stays c.open_line (record c { open_line = Text [] }) within))
      (λ e. rw e (record { state = within; waits = refl }))

  read_on_stays : (bytes : List ℕ) (c : Client) → IsWithin rs q c.state → Stays rs q c.waiting (read_on v h bytes c)
  read_on_stays [] c within = record { state = within; waits = refl }
  read_on_stays (b ∷ bytes) c within =
      let step = read_byte_stays b c within in
      both (reads c.state c.waiting)
      (λ e. let more = read_on_stays bytes (read_byte v h b c) step.state in rw e
      (record { state = more.state; waits = more.waits ∙ step.waits }))
      (λ e. rw e (record { state = within; waits = refl }))

  received_stays : (bytes : List ℕ) (c : Client) → IsWithin rs q c.state → Stays rs q c.waiting (received v h bytes c)
  received_stays bytes c within =
      both (nat_lt (inbox - length c.unread) (length bytes))
      (λ e. rw e (record { state = within; waits = refl }))
      (λ e. both (is_ending c.state)
      (λ s. rw (e, s) (record { state = within; waits = refl }))
      (λ s. rw (e, s) (read_on_stays (c.unread ++ bytes) c within)))

  listed_within : (s : State) → IsWithin rs q s → IsWithin rs q (listed s)
  listed_within s (inl e) = inl (rw e)
  listed_within s (inr e) = inr (rw e)

  left_with_stays : (c : Client) (left : List ℕ) → IsWithin rs q c.state → Stays rs q left (left_with v h c left)
  left_with_stays c (b ∷ bs) within = record { state = within; waits = refl }
  left_with_stays c [] within = read_on_stays c.unread (record c { state = listed c.state; waiting = [] })
      (listed_within c.state within)

  after_take_stays : (c : Client) (n : ℕ) → IsWithin rs q c.state → Stays rs q (drop n c.waiting) (after_take v h c n)
  after_take_stays c n within =
      both (is_nothing (take n c.waiting))
      (λ e. rw e (record { state = within; waits = sym (nothing_taken n c.waiting e) }))
      (λ e. rw e (left_with_stays c (drop n c.waiting) within))

drop_one : (t : ℕ) (x : Taken) (ts : List Taken) → drop (t + 1) (x ∷ ts) ≡ drop t ts
drop_one t x ts = let e : t + 1 ≡ suc t = omega arith in rw e

-- what an offer leads to
record Offers (h : List Arrival) (rs : List Request) (q : ℕ) (c : Option ℕ) (x : Client) : Type 0 where
  state : IsWithin rs (after_choice q c) x.state
  waits : x.waiting ≡ made_of (record { history = h; requests = rs; from = q }) c
  last : is_none c && list_all (is_over h) rs ≡ true → x.state ≡ Ending

chosen_offers : (h : List Arrival) (rs : List Request) (q : ℕ) (c : Client) (p : Option ℕ) → c.state ≡ Transfer rs q
    → c.waiting ≡ [] → Offers h rs q p (chosen h rs q c p)
chosen_offers h rs q c (Some p) e w = record { state = inl refl; waits = refl; last = λ t. absurd (true≢false (sym t)) }
chosen_offers h rs q c None e w =
    both (list_all (is_over h) rs)
    (λ y. rw y (record { state = inr refl; waits = rw y; last = λ t. refl }))
    (λ n. rw n (record { state = inl e; waits = rw n w; last = λ t. absurd (true≢false (sym (rw n at t))) }))

-- one step of any client alone, from a state to what comes of it
abbrev pub lone : List Arrival → Client → Lone
lone h c = record { history = h; opened = true; client = Some c }

abbrev pub shut : List Arrival → Lone
shut h = record { history = h; opened = true; client = None }

nothing_in : (xs ys : List ℕ) → xs ++ ys ≡ [] → xs ≡ []
nothing_in [] ys e = refl
nothing_in (x ∷ xs) ys e = absurd (grind arith)

-- how a run ends: nothing more is offered, and no more is handed than what waits
record Ended (f : Option Client) (os : List Offer) (ts : List Taken) (t : ℕ) (waiting : List ℕ) : Type 0 where
  none : os ≡ []
  over : (rs : List Request) (q : ℕ) → state_of f ≡ Some (Transfer rs q) → ⊥
  rest : List ℕ
  waits : (c : Client) → f ≡ Some c → rest ≡ c.waiting
  handed : bytes_of ts ++ rest ≡ waiting
  whole : waiting ≡ [] → bytes_of (drop t ts) ≡ bytes_of ts

-- A Take hands some of what waits.
ended_take : (f : Option Client) (os : List Offer) (ts : List Taken) (t : ℕ) (left : List ℕ) → Ended f os ts t left
    → (x : Taken) (waiting : List ℕ) → x.bytes ++ left ≡ waiting → (o : Option Offer) → o ≡ None → (begun : Bool)
    → (waiting ≡ [] → begun ≡ true) → Ended f (cons_option o os) (x ∷ ts) (if begun then 0 else t + 1) waiting
ended_take f os ts t left more x waiting parts o none begun yet = rw none (record {
  none = more.none;
  over = more.over;
  rest = more.rest;
  waits = more.waits;
  handed = append_assoc x.bytes (bytes_of ts) more.rest ∙ ap (λ w. x.bytes ++ w) more.handed ∙ parts;
  whole = λ w. rw (yet w) refl;
})

-- the same of one that was closed, with what waited
ended_shut : (f : Option Client) (os : List Offer) (ts : List Taken) (t : ℕ) (waiting : List ℕ) → f ≡ None
    → Ended f os ts t [] → Ended f os ts t waiting
ended_shut f os ts t waiting none more =
    record {
      none = more.none;
      over = more.over;
      rest = waiting;
      waits = λ c e. absurd (let two : None ≡ Some c = sym none ∙ e in grind arith);
      handed = ap (λ w. w ++ waiting) (nothing_in (bytes_of ts) more.rest more.handed);
      whole = λ w. more.whole refl;
    }

module _ (v : View) where
  abbrev EndedBy : Lone → List OwnEvent → List ℕ → Type 0
  EndedBy l es waiting = Ended ((lone_after v l es).client) (offers_from v l es) (alone_from v l es)
      (takes_from v l es) waiting

  shut_client : (es : List OwnEvent) (h : List Arrival) → (lone_after v (shut h) es).client ≡ None
  shut_client [] h = refl
  shut_client (OwnOpen ∷ es) h = shut_client es h
  shut_client (OwnBytes bytes ∷ es) h = shut_client es h
  shut_client (OwnTake n ∷ es) h = shut_client es h
  shut_client (OwnClose ∷ es) h = shut_client es h
  shut_client (OwnCut ∷ es) h = shut_client es h
  shut_client (Arrives a ∷ es) h = shut_client es (h ++ a ∷ [])

  shut_ended : (es : List OwnEvent) (h : List Arrival) → EndedBy (shut h) es []
  shut_ended [] h =
      record {
        none = refl;
        over = λ rs q e. absurd (grind arith);
        rest = [];
        waits = λ c e. absurd (grind arith);
        handed = refl;
        whole = λ w. refl;
      }
  shut_ended (OwnOpen ∷ es) h = shut_ended es h
  shut_ended (OwnBytes bytes ∷ es) h = shut_ended es h
  shut_ended (OwnTake n ∷ es) h =
      let more = shut_ended es h in
      record {
        none = more.none;
        over = more.over;
        rest = more.rest;
        waits = more.waits;
        handed = more.handed;
        whole = λ w. rw (drop_one (takes_from v (shut h) es) gone (alone_from v (shut h) es)) (more.whole refl);
      }
  shut_ended (OwnClose ∷ es) h = shut_ended es h
  shut_ended (OwnCut ∷ es) h = shut_ended es h
  shut_ended (Arrives a ∷ es) h = shut_ended es (h ++ a ∷ [])

  -- one that has ended its transfer
  ended_in : (h : List Arrival) (s : State) (waiting : List ℕ) → s ≡ Ending → offer_in h s waiting ≡ None
  ended_in h s [] e = rw e
  ended_in h s (b ∷ bs) e = rw e

  ended_offered : (h : List Arrival) (c : Client) (waiting : List ℕ) → c.state ≡ Ending → filled h c waiting ≡ c
  ended_offered h c [] e = rw e
  ended_offered h c (b ∷ bs) e = refl

  ended_received : (h : List Arrival) (bytes : List ℕ) (c : Client) → c.state ≡ Ending → received v h bytes c ≡ c
  ended_received h bytes c e = rw e (both (nat_lt (inbox - length c.unread) (length bytes)) (λ y. rw y) (λ n. rw n))

  ended_read : (h : List Arrival) (bytes : List ℕ) (c : Client) → c.state ≡ Ending
      → (read_on v h bytes c).state ≡ Ending
  ended_read h [] c e = e
  ended_read h (b ∷ bs) c e = let stops : reads c.state c.waiting ≡ false = rw e in rw stops e

  ended_left : (h : List Arrival) (c : Client) (left : List ℕ) → c.state ≡ Ending
      → (left_with v h c left).state ≡ Ending
  ended_left h c [] e = ended_read h c.unread (record c { state = listed c.state; waiting = [] }) (rw e)
  ended_left h c (b ∷ bs) e = e

  ended_taken : (h : List Arrival) (c : Client) (n : ℕ) → c.state ≡ Ending → (after_take v h c n).state ≡ Ending
  ended_taken h c n e = both (is_nothing (take n c.waiting)) (λ y. rw y e)
      (λ m. rw m (ended_left h c (drop n c.waiting) e))

  ended : (es : List OwnEvent) (h : List Arrival) (c : Client) → c.state ≡ Ending → EndedBy (lone h c) es c.waiting
  ended [] h c e = record {
    none = refl;
    over = λ rs q f. absurd (grind arith);
    rest = c.waiting;
    waits = λ x f. let same : c ≡ x = grind arith in ap (λ y. y.waiting) same;
    handed = refl;
    whole = λ w. refl;
  }
  ended (OwnOpen ∷ es) h c e = ended es h c e
  ended (OwnBytes bytes ∷ es) h c e =
      let same = ended_received h bytes c e in
      let more = ended es h (received v h bytes c) (rw same e) in
      subst (λ w. EndedBy (lone h (received v h bytes c)) es w) (ap (λ x. x.waiting) same) more
  ended (OwnTake n ∷ es) h c e =
      let same : offered h c ≡ c = ended_offered h c c.waiting e in
      let still : (offered h c).state ≡ Ending = ap (λ x. x.state) same ∙ e in
      let next = after_take v h (offered h c) n in
      let stay = after_take_stays v h [] 0 (offered h c) n (inr still) in
      let parts = ap (λ w. take n (offered h c).waiting ++ w) stay.waits ∙ take-append-drop n (offered h c).waiting
      ∙ ap (λ x. x.waiting) same in
      ended_take _ _ _ _ next.waiting (ended es h next (ended_taken h (offered h c) n still))
      (taken_of (offered h c) n) c.waiting parts (offer_in h c.state c.waiting) (ended_in h c.state c.waiting e)
      (has_begun (Some c)) (λ w. rw (e, w))
  ended (OwnCut ∷ es) h c e = ended es h (cut c) refl
  ended (OwnClose ∷ es) h c e = ended_shut _ _ _ _ c.waiting (shut_client es h) (shut_ended es h)
  ended (Arrives a ∷ es) h c e = ended es (h ++ a ∷ []) c e

-- how a run goes on from a transfer, with these bytes waiting
pub record Goes (h : List Arrival) (f : Option Client) (os : List Offer) (ts : List Taken) (t : ℕ) (rs : List Request)
    (q : ℕ) (waiting : List ℕ) : Type 0 where
  pub chain : Chain rs h q os
  pub stands : (rs' : List Request) (q' : ℕ) → state_of f ≡ Some (Transfer rs' q')
      → (rs' ≡ rs) × (q' ≡ one_past q (chosen_positions os))
  pub rest : List ℕ
  pub waits : (c : Client) → f ≡ Some c → rest ≡ c.waiting
  pub handed : bytes_of ts ++ rest ≡ waiting ++ flat_map made os
  pub whole : waiting ≡ [] → bytes_of (drop t ts) ≡ bytes_of ts

ended_goes : (h : List Arrival) (f : Option Client) (os : List Offer) (ts : List Taken) (t : ℕ) (rs : List Request)
    (q : ℕ) (waiting : List ℕ) → Ended f os ts t waiting → q ≤ length h → Goes h f os ts t rs q waiting
ended_goes h f os ts t rs q waiting e within =
    record {
      chain = rw e.none within;
      stands = λ rs' q' same. absurd (e.over rs' q' same);
      rest = e.rest;
      waits = e.waits;
      handed = rw (e.none, append-nil) e.handed;
      whole = e.whole;
    }

-- A Take without an offer, and one with an offer, hands some of what waits.
goes_take : (h : List Arrival) (f : Option Client) (os : List Offer) (ts : List Taken) (t : ℕ) (rs : List Request)
    (q : ℕ) (left : List ℕ) → Goes h f os ts t rs q left → (x : Taken) (waiting : List ℕ) → x.bytes ++ left ≡ waiting
    → (o : Option Offer) → o ≡ None → (begun : Bool) → begun ≡ true
    → Goes h f (cons_option o os) (x ∷ ts) (if begun then 0 else t + 1) rs q waiting
goes_take h f os ts t rs q left more x waiting parts o none begun yet = rw (none, yet) (record {
  chain = more.chain;
  stands = more.stands;
  rest = more.rest;
  waits = more.waits;
  handed = append_assoc x.bytes (bytes_of ts) more.rest ∙ ap (λ w. x.bytes ++ w) more.handed
      ∙ sym (append_assoc x.bytes left (flat_map made os)) ∙ ap (λ w. w ++ flat_map made os) parts;
  whole = λ w. refl;
})

one_past_choice : (q : ℕ) (c : Option ℕ) (ps : List ℕ) → one_past q (cons_option c ps) ≡ one_past (after_choice q c) ps
one_past_choice q None ps = refl
one_past_choice q (Some p) ps = refl

goes_offer : (h : List Arrival) (f : Option Client) (os : List Offer) (ts : List Taken) (t : ℕ) (rs : List Request)
    (q : ℕ) (left : List ℕ) (z : Offer) → Goes h f os ts t rs (after_choice q (chosen_by z)) left → Link rs h q z
    → (is_last z ≡ true → os ≡ []) → (x : Taken) → x.bytes ++ left ≡ made z → (o : Option Offer) → o ≡ Some z
    → (begun : Bool) → begun ≡ true → Goes h f (cons_option o os) (x ∷ ts) (if begun then 0 else t + 1) rs q []
goes_offer h f os ts t rs q left z more link last x parts o some begun yet = rw (some, yet) (record {
  chain = (link, last, more.chain);
  stands = λ rs' q' same. let s =
      more.stands rs' q' same in (s.0, s.1 ∙ sym (one_past_choice q (chosen_by z) (chosen_positions os)));
  rest = more.rest;
  waits = more.waits;
  handed = append_assoc x.bytes (bytes_of ts) more.rest ∙ ap (λ w. x.bytes ++ w) more.handed
      ∙ sym (append_assoc x.bytes left (flat_map made os)) ∙ ap (λ w. w ++ flat_map made os) parts;
  whole = λ w. refl;
})

choice_within : (h : List Arrival) (rs : List Request) (q : ℕ) (c : Option ℕ) → next h rs q ≡ c → q ≤ length h
    → after_choice q c ≤ length h
choice_within h rs q None e within = within
choice_within h rs q (Some p) e within = let sees = found_within (next_found h rs q p within e) in omega arith

same_transfer : (rs : List Request) (q : ℕ) (rs' : List Request) (q' : ℕ) (s : State) → s ≡ Transfer rs q
    → Some s ≡ Some (Transfer rs' q') → (rs' ≡ rs) × (q' ≡ q)
same_transfer rs q rs' q' s e same = let two : Some (Transfer rs' q') ≡ Some (Transfer rs q) = sym same
    ∙ ap {B = Option State} Some e in (grind arith, grind arith)

module _ (v : View) where
  pub history_after : (es : List OwnEvent) (l : Lone) → (lone_after v l es).history ≡ l.history ++ arrivals es
  history_after [] l = sym (append-nil l.history)
  history_after (OwnOpen ∷ es) l = history_after es (own_step v l OwnOpen) ∙ both l.opened (λ y. rw y) (λ n. rw n)
  history_after (OwnBytes bytes ∷ es) l = history_after es (own_step v l (OwnBytes bytes))
  history_after (OwnTake n ∷ es) l = history_after es (own_step v l (OwnTake n))
  history_after (OwnClose ∷ es) l = history_after es (own_step v l OwnClose)
  history_after (OwnCut ∷ es) l = history_after es (own_step v l OwnCut)
  history_after (Arrives a ∷ es) l = history_after es (own_step v l (Arrives a))
      ∙ append_assoc l.history (a ∷ []) (arrivals es)

  longer : (es : List OwnEvent) (l : Lone) (q : ℕ) → q ≤ length l.history → q ≤ length (lone_after v l es).history
  longer es l q within = rw (history_after es l, length-append l.history (arrivals es)) (omega arith)

  abbrev pub GoesOn : Lone → List OwnEvent → List Request → ℕ → List ℕ → Type 0
  GoesOn l es rs q waiting = Goes (lone_after v l es).history ((lone_after v l es).client) (offers_from v l es)
      (alone_from v l es) (takes_from v l es) rs q waiting

  -- what is left to prove at a further event
  abbrev Continues : List OwnEvent → Type 0
  Continues es = (h : List Arrival) (c : Client) (rs : List Request) (q : ℕ) → q ≤ length h → IsWithin rs q c.state
      → GoesOn (lone h c) es rs q c.waiting

  offer_waiting : (h : List Arrival) (s : State) (b : ℕ) (bs : List ℕ) → offer_in h s (b ∷ bs) ≡ None
  offer_waiting h (Negotiating n) b bs = refl
  offer_waiting h (Listing lines n) b bs = refl
  offer_waiting h (Transfer rs q) b bs = refl
  offer_waiting h Ending b bs = refl

  take_continues : (es : List OwnEvent) → Continues es → (h : List Arrival) (c : Client) (rs : List Request) (q n : ℕ)
      → q ≤ length h → c.state ≡ Transfer rs q → (waiting : List ℕ) → c.waiting ≡ waiting
      → GoesOn (lone h c) (OwnTake n ∷ es) rs q waiting
  take_continues es goes h c rs q n within e (b ∷ bs) w =
      let same : offered h c ≡ c = ap (filled h c) w in
      let still : IsWithin rs q (offered h c).state = inl (ap (λ x. x.state) same ∙ e) in
      let next_client = after_take v h (offered h c) n in
      let stay = after_take_stays v h rs q (offered h c) n still in
      let parts = ap (λ u. take n (offered h c).waiting ++ u) stay.waits ∙ take-append-drop n (offered h c).waiting
      ∙ ap (λ x. x.waiting) same ∙ w in
      goes_take _ _ _ _ _ rs q next_client.waiting (goes h next_client rs q within stay.state)
      (taken_of (offered h c) n) (b ∷ bs) parts (offer_in h c.state c.waiting)
      (ap (offer_in h c.state) w ∙ offer_waiting h c.state b bs) (has_begun (Some c)) (rw e)
  take_continues es goes h c rs q n within e [] w =
      let z : Offer = record { history = h; requests = rs; from = q } in
      let same : offered h c ≡ chosen h rs q c (next h rs q) = ap (filled h c) w ∙ ap (filled_in h c) e in
      let leads = subst (Offers h rs q (next h rs q)) (sym same) (chosen_offers h rs q c (next h rs q) e w) in
      let q' = after_choice q (next h rs q) in
      let next_client = after_take v h (offered h c) n in
      let stay = after_take_stays v h rs q' (offered h c) n leads.state in
      let parts = ap (λ u. take n (offered h c).waiting ++ u) stay.waits ∙ take-append-drop n (offered h c).waiting
      ∙ leads.waits in
      let link : Link rs (lone_after v (lone h next_client) es).history q z = record {
        requests = refl;
        from = refl;
        within = within;
        later = arrivals es;
        grown = sym (history_after es (lone h next_client));
      } in
      goes_offer _ _ _ _ _ rs q next_client.waiting z
      (goes h next_client rs q' (choice_within h rs q (next h rs q) refl within) stay.state) link
      (λ last. (ended v es h next_client (ended_taken v h (offered h c) n (leads.last last))).none)
      (taken_of (offered h c) n) parts (offer_in h c.state c.waiting)
      (ap (offer_in h c.state) w ∙ ap (λ s. offer_in h s []) e) (has_begun (Some c)) (rw e)

  pub continues : (es : List OwnEvent) → Continues es
  continues es h c rs q within (inr e) =
      ended_goes _ _ _ _ _ rs q c.waiting (ended v es h c e) (longer es (lone h c) q within)
  continues [] h c rs q within (inl e) =
      record {
        chain = within;
        stands = λ rs' q' same. same_transfer rs q rs' q' c.state e same;
        rest = c.waiting;
        waits = λ x f. let same : c ≡ x = grind arith in ap (λ y. y.waiting) same;
        handed = sym (append-nil c.waiting);
        whole = λ w. refl;
      }
  continues (OwnOpen ∷ es) h c rs q within (inl e) = continues es h c rs q within (inl e)
  continues (OwnBytes bytes ∷ es) h c rs q within (inl e) =
      let stay = received_stays v h rs q bytes c (inl e) in
      subst (λ w. GoesOn (lone h (received v h bytes c)) es rs q w) stay.waits
      (continues es h (received v h bytes c) rs q within stay.state)
  continues (OwnTake n ∷ es) h c rs q within (inl e) =
      take_continues es (continues es) h c rs q n within e c.waiting refl
  continues (OwnClose ∷ es) h c rs q within (inl e) =
      ended_goes _ _ _ _ _ rs q c.waiting (ended_shut _ _ _ _ c.waiting (shut_client v es h) (shut_ended v es h))
      (longer es (shut h) q within)
  continues (OwnCut ∷ es) h c rs q within (inl e) =
      ended_goes _ _ _ _ _ rs q c.waiting (ended v es h (cut c) refl) (longer es (lone h (cut c)) q within)
  continues (Arrives a ∷ es) h c rs q within (inl e) =
      continues es (h ++ a ∷ []) c rs q (omega (arith, length-append h (a ∷ []))) (inl e)

-- how any run goes, the transfer's requests among it
pub record Located (h : List Arrival) (f : Option Client) (os : List Offer) (ts : List Taken) (t : ℕ) : Type 0 where
  pub requests : List Request
  pub chain : Chain requests h 0 os
  pub stands : (rs' : List Request) (q' : ℕ) → state_of f ≡ Some (Transfer rs' q')
      → (rs' ≡ requests) × (q' ≡ one_past 0 (chosen_positions os))
  pub rest : List ℕ
  pub waits : (c : Client) → f ≡ Some c → is_since os c ≡ true → rest ≡ c.waiting
  pub handed : bytes_of (drop t ts) ++ rest ≡ flat_map made os

goes_located : (h : List Arrival) (f : Option Client) (os : List Offer) (ts : List Taken) (t : ℕ) (rs : List Request)
    → Goes h f os ts t rs 0 [] → Located h f os ts t
goes_located h f os ts t rs g =
    record {
      requests = rs;
      chain = g.chain;
      stands = g.stands;
      rest = g.rest;
      waits = λ c e since. g.waits c e;
      handed = ap (λ w. w ++ g.rest) (g.whole refl) ∙ g.handed;
    }

-- A Take before the transfer is none of its own.
located_take : (h : List Arrival) (f : Option Client) (os : List Offer) (ts : List Taken) (t : ℕ) → Located h f os ts t
    → (x : Taken) (o : Option Offer) → o ≡ None → (begun : Bool) → begun ≡ false
    → Located h f (cons_option o os) (x ∷ ts) (if begun then 0 else t + 1)
located_take h f os ts t more x o none begun yet = rw (none, yet) (record {
  requests = more.requests;
  chain = more.chain;
  stands = more.stands;
  rest = more.rest;
  waits = more.waits;
  handed = rw (drop_one t x ts) more.handed;
})

-- A client in that state is in a transfer, or at its end.
abbrev is_past : Option State → Bool
is_past (Some (Transfer requests q)) = true
is_past (Some Ending) = true
is_past _ = false

before_begun : (s : State) (waiting : List ℕ) → is_past (Some s) ≡ false → has_begun_in s waiting ≡ false
before_begun (Negotiating n) waiting e = refl
before_begun (Listing lines n) waiting e = refl
before_begun (Transfer rs q) waiting e = absurd (true≢false e)
before_begun Ending waiting e = absurd (true≢false e)

-- what comes of a client before its transfer: it is still before it, or has just begun it, or is over
data Comes (c : Client) : Type 0 where
  Before : is_past (Some c.state) ≡ false → Comes c
  Begun : (rs : List Request) → IsWithin rs 0 c.state → c.waiting ≡ [] → Comes c

module _ (v : View) (h : List Arrival) where
  follow_comes : (c : Client) (n : Negotiated) (o : Outcome) → c.waiting ≡ [] → Comes (follow v h c n o)
  follow_comes c n (StaysOutcome reply m) w = Before refl
  follow_comes c n Lists w = Before refl
  follow_comes c n (Starts wishes) w = Begun (map (request_of h) wishes) (inl refl) w
  follow_comes c n Ends w = Begun [] (inr refl) w

  obey_comes : (line : Line) (c : Client) (n : Negotiated) → c.state ≡ Negotiating n → c.waiting ≡ []
      → Comes (obey v h line c)
  obey_comes (Text []) c n e w = Before (rw e)
  obey_comes (Text (b ∷ bs)) c n e w =
      subst (λ s. Comes (obey_in v h (Text (b ∷ bs)) c s)) (sym e)
      (follow_comes c n (outcome_of v n (command_of (Text (b ∷ bs)))) w)
  obey_comes TooLong c n e w = subst (λ s. Comes (obey_in v h TooLong c s)) (sym e)
      (follow_comes c n (outcome_of v n (command_of TooLong)) w)

  read_byte_comes : (b : ℕ) (c : Client) (n : Negotiated) → c.state ≡ Negotiating n → c.waiting ≡ []
      → Comes (read_byte v h b c)
  read_byte_comes b c n e w =
      both (is_line_end b) (λ y. rw y (obey_comes c.open_line (record c { open_line = Text [] }) n e w))
      (λ m. rw m (Before (rw e)))

  -- only what negotiates reads
  negotiates : {P : Type 0} (s : State) (waiting : List ℕ) → is_past (Some s) ≡ false → reads s waiting ≡ true
      → ((n : Negotiated) → s ≡ Negotiating n → waiting ≡ [] → P) → P
  negotiates (Negotiating n) [] before y use_it = use_it n refl refl
  negotiates (Negotiating n) (b ∷ bs) before y use_it = absurd (true≢false (sym y))
  negotiates (Listing lines n) waiting before y use_it = absurd (true≢false (sym y))
  negotiates (Transfer rs q) waiting before y use_it = absurd (true≢false before)
  negotiates Ending waiting before y use_it = absurd (true≢false before)

  begun_reads : (bytes : List ℕ) (c : Client) (rs : List Request) → IsWithin rs 0 c.state → c.waiting ≡ []
      → Comes (read_on v h bytes c)
  begun_reads bytes c rs within w = let stay =
      read_on_stays v h rs 0 bytes c within in Begun rs stay.state (stay.waits ∙ w)

  read_on_comes : (bytes : List ℕ) (c : Client) → Comes c → Comes (read_on v h bytes c)
  read_on_comes bytes c (Begun rs within w) = begun_reads bytes c rs within w
  read_on_comes [] c (Before e) = Before e
  read_on_comes (b ∷ bytes) c (Before e) =
      both (reads c.state c.waiting)
      (λ y. rw y
      (read_on_comes bytes (read_byte v h b c)
      (negotiates c.state c.waiting e y (λ n s w. read_byte_comes b c n s w))))
      (λ m. rw m (Before e))

  received_comes : (bytes : List ℕ) (c : Client) → is_past (Some c.state) ≡ false → Comes (received v h bytes c)
  received_comes bytes c e =
      both (nat_lt (inbox - length c.unread) (length bytes))
      (λ y. rw y (Before e))
      (λ n. both (is_ending c.state) (λ s. rw (n, s) (Before e))
      (λ s. rw (n, s) (read_on_comes (c.unread ++ bytes) c (Before e))))

  listed_before : (s : State) → is_past (Some s) ≡ false → is_past (Some (listed s)) ≡ false
  listed_before (Negotiating n) e = e
  listed_before (Listing [] n) e = refl
  listed_before (Listing (line ∷ lines) n) e = refl
  listed_before (Transfer rs q) e = e
  listed_before Ending e = e

  left_with_comes : (c : Client) (left : List ℕ) → is_past (Some c.state) ≡ false → Comes (left_with v h c left)
  left_with_comes c (b ∷ bs) e = Before e
  left_with_comes c [] e = read_on_comes c.unread (record c { state = listed c.state; waiting = [] })
      (Before (listed_before c.state e))

  after_take_comes : (c : Client) (n : ℕ) → is_past (Some c.state) ≡ false → Comes (after_take v h c n)
  after_take_comes c n e = both (is_nothing (take n c.waiting)) (λ y. rw y (Before e))
      (λ m. rw m (left_with_comes c (drop n c.waiting) e))

  filled_in_before : (c : Client) (s : State) → is_past (Some c.state) ≡ false → is_past (Some s) ≡ false
      → is_past (Some (filled_in h c s).state) ≡ false
  filled_in_before c (Negotiating n) e f = e
  filled_in_before c (Listing [] n) e f = e
  filled_in_before c (Listing (line ∷ lines) n) e f = refl
  filled_in_before c (Transfer rs q) e f = absurd (true≢false f)
  filled_in_before c Ending e f = absurd (true≢false f)

  filled_before : (c : Client) (waiting : List ℕ) → is_past (Some c.state) ≡ false
      → is_past (Some (filled h c waiting).state) ≡ false
  filled_before c [] e = filled_in_before c c.state e e
  filled_before c (b ∷ bs) e = e

  offer_before : (s : State) (waiting : List ℕ) → is_past (Some s) ≡ false → offer_in h s waiting ≡ None
  offer_before (Negotiating n) waiting e = refl
  offer_before (Listing lines n) waiting e = refl
  offer_before (Transfer rs q) waiting e = absurd (true≢false e)
  offer_before Ending waiting e = absurd (true≢false e)

ending_apart : (s : State) (rs : List Request) (q : ℕ) → s ≡ Ending → Some s ≡ Some (Transfer rs q) → ⊥
ending_apart s rs q e same = let two : Some Ending ≡ Some (Transfer rs q) = ap {B = Option State} Some (sym e)
    ∙ same in absurd (grind arith)

before_transfer : (s : State) (rs : List Request) (q : ℕ) → is_past (Some s) ≡ false → Some s ≡ Some (Transfer rs q) → ⊥
before_transfer s rs q e same = true≢false (sym (ap {A = Option State} is_past same) ∙ e)

module _ (v : View) where
  abbrev pub LocatedBy : Lone → List OwnEvent → Type 0
  LocatedBy l es = Located (lone_after v l es).history ((lone_after v l es).client) (offers_from v l es)
      (alone_from v l es) (takes_from v l es)

  -- one that was cut before its transfer, with what waits
  over_located : (es : List OwnEvent) (h : List Arrival) (c : Client) (waiting : List ℕ) → c.state ≡ Ending
      → c.waiting ≡ waiting → LocatedBy (lone h c) es
  over_located es h c [] e w =
      goes_located _ _ _ _ _ [] (subst (λ u. GoesOn v (lone h c) es [] 0 u) w (continues v es h c [] 0 zero-le (inr e)))
  over_located [] h c (b ∷ bs) e w =
      record {
        requests = [];
        chain = zero-le;
        stands = λ rs q same. absurd (ending_apart c.state rs q e same);
        rest = [];
        waits = λ x f since. absurd (let same : c ≡ x = grind arith in let still : has_begun (Some c) ≡ false =
            rw (e, w) in true≢false (sym since ∙ ap (λ y. has_begun (Some y)) (sym same) ∙ still));
        handed = refl;
      }
  over_located (OwnOpen ∷ es) h c (b ∷ bs) e w = over_located es h c (b ∷ bs) e w
  over_located (OwnBytes bytes ∷ es) h c (b ∷ bs) e w =
      let same = ended_received v h bytes c e in
      over_located es h (received v h bytes c) (b ∷ bs) (rw same e) (rw same w)
  over_located (OwnTake n ∷ es) h c (b ∷ bs) e w =
      let still : (offered h c).state ≡ Ending = ap (λ x. x.state) (ended_offered v h c c.waiting e) ∙ e in
      let next = after_take v h (offered h c) n in
      located_take _ _ _ _ _ (over_located es h next next.waiting (ended_taken v h (offered h c) n still) refl)
      (taken_of (offered h c) n) (offer_in h c.state c.waiting) (ended_in v h c.state c.waiting e)
      (has_begun (Some c)) (rw (e, w))
  over_located (OwnClose ∷ es) h c (b ∷ bs) e w =
      goes_located _ _ _ _ _ [] (ended_goes _ _ _ _ _ [] 0 [] (shut_ended v es h) zero-le)
  over_located (OwnCut ∷ es) h c (b ∷ bs) e w = over_located es h (cut c) (b ∷ bs) refl w
  over_located (Arrives a ∷ es) h c (b ∷ bs) e w = over_located es (h ++ a ∷ []) c (b ∷ bs) e w

  locates : (es : List OwnEvent) (h : List Arrival) (c : Client) → Comes c → LocatedBy (lone h c) es
  locates es h c (Begun rs within w) =
      goes_located _ _ _ _ _ rs (subst (λ u. GoesOn v (lone h c) es rs 0 u) w (continues v es h c rs 0 zero-le within))
  locates [] h c (Before e) =
      record {
        requests = [];
        chain = zero-le;
        stands = λ rs q same. absurd (before_transfer c.state rs q e same);
        rest = [];
        waits =
            λ x f since. absurd (let same : c ≡ x =
            grind arith in true≢false (sym since ∙ ap (λ y. has_begun (Some y)) (sym same)
            ∙ before_begun c.state c.waiting e));
        handed = refl;
      }
  locates (OwnOpen ∷ es) h c (Before e) = locates es h c (Before e)
  locates (OwnBytes bytes ∷ es) h c (Before e) = locates es h (received v h bytes c) (received_comes v h bytes c e)
  locates (OwnTake n ∷ es) h c (Before e) =
      let later = filled_before v h c c.waiting e in
      located_take _ _ _ _ _
      (locates es h (after_take v h (offered h c) n) (after_take_comes v h (offered h c) n later))
      (taken_of (offered h c) n) (offer_in h c.state c.waiting) (offer_before v h c.state c.waiting e)
      (has_begun (Some c)) (before_begun c.state c.waiting e)
  locates (OwnCut ∷ es) h c (Before e) = over_located es h (cut c) c.waiting refl refl
  locates (OwnClose ∷ es) h c (Before e) =
      goes_located _ _ _ _ _ [] (ended_goes _ _ _ _ _ [] 0 [] (shut_ended v es h) zero-le)
  locates (Arrives a ∷ es) h c (Before e) = locates es (h ++ a ∷ []) c (Before e)

  locates_absent : (es : List OwnEvent) (h : List Arrival)
      → LocatedBy (record { history = h; opened = false; client = None }) es
  locates_absent [] h = record {
    requests = [];
    chain = zero-le;
    stands = λ rs q same. absurd (grind arith);
    rest = [];
    waits = λ x f begun. absurd (grind arith);
    handed = refl;
  }
  locates_absent (OwnOpen ∷ es) h = locates es h new_client (Before refl)
  locates_absent (OwnBytes bytes ∷ es) h = locates_absent es h
  locates_absent (OwnTake n ∷ es) h = located_take _ _ _ _ _ (locates_absent es h) gone None refl false refl
  locates_absent (OwnCut ∷ es) h = locates_absent es h
  locates_absent (OwnClose ∷ es) h = locates_absent es h
  locates_absent (Arrives a ∷ es) h = locates_absent es (h ++ a ∷ [])

  pub located : (es : List OwnEvent) → LocatedBy absent es
  located es = locates_absent es []
