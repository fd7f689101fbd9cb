-- A session that does what its line asks obeys the line.
use Rattle.std.proofs.Common.{◌≡◌, ℕ, true, false, Bool, List, [], ◌∷◌, filter_map, refl, sym, ap, ◌∙◌, ◌≤◌, nat_eq}
use Rattle.std.proofs.Common.{length, drop, arith, length-drop, Option}
use Rattle.protocol.specs.Catalog.{Config, View}
use Rattle.protocol.specs.Lines.{Line, is_line_end, open_after, cut_from}
use Rattle.protocol.specs.Lines.Line.{Text, TooLong}
use Rattle.protocol.specs.Command.{Command, command_of}
use Rattle.protocol.specs.Command.Command.{Blank, Hello, Cat, Bye, End, Station, Select, Data, Fetch, Time, Bad}
use Rattle.protocol.specs.History.{Arrival, Request}
use Rattle.protocol.specs.Session.{Negotiated, Outcome, outcome_of}
use Rattle.protocol.specs.Session.Outcome.{Stays, Lists, Ends}
use Rattle.protocol.specs.Client.{Client, follow, leave, read_byte, is_nothing}
use Rattle.protocol.specs.Client.State.{Negotiating as ClientNegotiating, Transfer as ClientTransfer}
use Rattle.protocol.specs.Client.State.{Ending as ClientEnding}
use Rattle.protocol.proofs.FoundLemmas.{both}
use Rattle.catalog.specs.Places.{Seen}
use Rattle.session_state.specs.NamedValues.{ModeValue}
use Rattle.session_state.specs.declared.news.AskedStation.{AskedStation}
use Rattle.session_state.specs.declared.news.News.{News}
use Rattle.session_state.specs.NewsValues.{missed_by, missed_in, missed_of, news_after, news_in}
use Rattle.session_state.specs.declared.negotiation.Change.{Change}
use Rattle.session_state.specs.declared.negotiation.Change.TheVariants.{Done, Refused, Starts}
use Rattle.session_state.specs.declared.session.reading.Instruction.{Instruction}
use Rattle.session_state.specs.declared.session.reading.Instruction.TheVariants.{Nothing}
use Rattle.session_state.specs.declared.session.State.TheVariants.{Negotiating, Listing, Starting, Transfer, Ending}
use Rattle.session_state.specs.declared.session.State.{State}
use Rattle.session_state.specs.Choices.{negotiated_in, chosen_of, request_in}
use Rattle.session_state.specs.Changes.{outcome_after}
use Rattle.session_state.specs.Asking.{outcome_by, outcome_of_lines, is_bye, says_bye, is_leaving}
use Rattle.session_state.specs.Sessions.{SessionValue, client_in, session_view, after_change}
use Rattle.session_state.proofs.CursorLemmas.{change-elsewhere}

-- a session that negotiates while nothing waits
abbrev pub reading : Seen → ModeValue → Line → List ℕ → Option ℕ → ℕ → List ℕ → Option News
    → SessionValue
reading places mode l u looked lost packets news = record {
  places = places;
  mode = mode;
  state = Negotiating;
  open_line = l;
  unread = u;
  waiting = [];
  looked = looked;
  lost = lost;
  packets = packets;
  news = news;
}

is_reading : (a : SessionValue) → a.state ≡ Negotiating → a.waiting ≡ []
    → a ≡ reading a.places a.mode a.open_line a.unread a.looked a.lost a.packets a.news
is_reading a state none = ap (λ t. record a { state = t }) state
    ∙ ap (λ w. record a { state = Negotiating; waiting = w }) none

pub silent : (config : Config) (h : List Arrival) (a : SessionValue) → a.state ≡ Negotiating → a.waiting ≡ []
    → client_in config h a ≡ follow (session_view config a) h (client_in config h a) (negotiated_in config a.mode)
    (Stays [] (negotiated_in config a.mode))
silent config h a state none = ap (client_in config h) (is_reading a state none)

pub said : (config : Config) (h : List Arrival) (a r : SessionValue) (reply : List ℕ) → a.state ≡ Negotiating
    → a.waiting ≡ [] → r ≡ record a { waiting = reply }
    → client_in config h r ≡ follow (session_view config a) h (client_in config h a) (negotiated_in config a.mode)
    (Stays reply (negotiated_in config a.mode))
said config h a r reply state none e = ap (client_in config h) e
    ∙ ap (λ (x : SessionValue). client_in config h (record x { waiting = reply })) (is_reading a state none)

pub lists : (config : Config) (h : List Arrival) (a r : SessionValue) → a.state ≡ Negotiating → a.waiting ≡ []
    → r ≡ record a { state = Listing 0 }
    → client_in config h r ≡ follow (session_view config a) h (client_in config h a) (negotiated_in config a.mode) Lists
lists config h a r state none e = ap (client_in config h) e

pub leaves : (config : Config) (h : List Arrival) (a r : SessionValue) → a.state ≡ Negotiating → a.waiting ≡ []
    → r ≡ record a { state = Ending }
    → client_in config h r ≡ follow (session_view config a) h (client_in config h a) (negotiated_in config a.mode) Ends
leaves config h a r state none e = ap (client_in config h) e

-- a session in which a change was made
change-follows : (config : Config) (h : List Arrival) (places : Seen) (mode new : ModeValue) (l : Line) (u : List ℕ)
    (looked : Option ℕ) (lost : ℕ) (packets : List ℕ) (news : Option News) (change : Change)
    → client_in config h
    (after_change (record (reading places mode l u looked lost packets news) { mode = new }) change)
    ≡ follow (session_view config (reading places mode l u looked lost packets news)) h
    (client_in config h (reading places mode l u looked lost packets news))
    (negotiated_in config mode) (outcome_after change (negotiated_in config new))
change-follows config h places mode new l u looked lost packets news Done = refl
change-follows config h places mode new l u looked lost packets news Refused = refl
change-follows config h places mode new l u looked lost packets news Starts = refl

pub changes : (config : Config) (h : List Arrival) (a r : SessionValue) (mode : ModeValue) (change : Change)
    (outcome : Outcome) → a.state ≡ Negotiating → a.waiting ≡ [] → r ≡ after_change (record a { mode = mode }) change
    → outcome_after change (negotiated_in config mode) ≡ outcome
    → client_in config h r
    ≡ follow (session_view config a) h (client_in config h a) (negotiated_in config a.mode) outcome
changes config h a r mode change outcome state none e same =
    ap (client_in config h) e
    ∙ ap (λ (x : SessionValue). client_in config h (after_change (record x { mode = mode }) change))
    (is_reading a state none)
    ∙ change-follows config h a.places a.mode mode a.open_line a.unread a.looked a.lost a.packets a.news change
    ∙ ap (λ (x : SessionValue). follow (session_view config x) h (client_in config h x) (negotiated_in config a.mode)
    (outcome_after change (negotiated_in config mode))) (sym (is_reading a state none))
    ∙ ap (follow (session_view config a) h (client_in config h a) (negotiated_in config a.mode)) same

pub change-places : (m : SessionValue) (change : Change) → (after_change m change).places ≡ m.places
change-places m Done = refl
change-places m Refused = refl
change-places m Starts = refl

pub change-unread : (m : SessionValue) (change : Change) → (after_change m change).unread ≡ m.unread
change-unread m Done = refl
change-unread m Refused = refl
change-unread m Starts = refl

pub change-news : (m : SessionValue) (change : Change) → (after_change m change).news ≡ m.news
change-news m Done = refl
change-news m Refused = refl
change-news m Starts = refl

pub ruleset answer_lemmas = (
  silent,
  said,
  lists,
  leaves,
  changes,
  change-places,
  change-unread,
  change-elsewhere,
  change-news,
)

-- A byte that ends a line is read as the line's command, also where the line is empty; another byte changes the open
-- line alone.
read_byte-lines : (v : View) (h : List Arrival) (line : Line) (n : Negotiated) (u : List ℕ) (b : ℕ)
    → read_byte v h b (record { state = ClientNegotiating n; open_line = line; unread = u; waiting = [] })
    ≡ follow v h
    (record { state = ClientNegotiating n; open_line = open_after line (b ∷ []); unread = u; waiting = [] }) n
    (outcome_of_lines v n (cut_from line (b ∷ [])))
read_byte-lines v h (Text []) n u b = both (is_line_end b) (λ y. rw y) (λ x. rw x)
read_byte-lines v h (Text (c ∷ bs)) n u b = both (is_line_end b) (λ y. rw y) (λ x. rw x)
read_byte-lines v h TooLong n u b = both (is_line_end b) (λ y. rw y) (λ x. rw x)

pub reads_byte : (config : Config) (h : List Arrival) (a n r : SessionValue) (instruction : Instruction) (b : ℕ)
    → a.state ≡ Negotiating → a.waiting ≡ [] → n ≡ record a { open_line = open_after a.open_line (b ∷ []) }
    → client_in config h r ≡ follow (session_view config n) h (client_in config h n) (negotiated_in config n.mode)
    (outcome_by config (session_view config n) (negotiated_in config n.mode) instruction)
    → ((m : Negotiated) → outcome_of_lines (session_view config a) m (cut_from a.open_line (b ∷ []))
    ≡ outcome_by config (session_view config a) m instruction)
    → client_in config h r ≡ read_byte (session_view config a) h b (client_in config h a)
reads_byte config h a n r instruction b state none line answers same =
    let a_is = is_reading a state none in
    let n_is : n ≡ reading a.places a.mode (open_after a.open_line (b ∷ [])) a.unread a.looked a.lost a.packets a.news
    = line
    ∙ ap (λ (x : SessionValue). record x { open_line = open_after a.open_line (b ∷ []) }) a_is in
    answers
    ∙ ap (λ (x : SessionValue). follow (session_view config x) h (client_in config h x) (negotiated_in config x.mode)
    (outcome_by config (session_view config x) (negotiated_in config x.mode) instruction)) n_is
    ∙ ap
    (follow (session_view config a) h
    (client_in config h
    (reading a.places a.mode (open_after a.open_line (b ∷ [])) a.unread a.looked a.lost a.packets a.news))
    (negotiated_in config a.mode)) (sym (same (negotiated_in config a.mode)))
    ∙ sym (read_byte-lines (session_view config a) h a.open_line (negotiated_in config a.mode) a.unread b)
    ∙ ap (λ (x : SessionValue). read_byte (session_view config a) h b (client_in config h x)) (sym a_is)

pub reads_news : (config : Config) (a n r : SessionValue) (instruction : Instruction) (b : ℕ)
    → n ≡ record a { open_line = open_after a.open_line (b ∷ []) }
    → r.news ≡ news_after n.news (missed_of instruction)
    → missed_in (session_view config a) (cut_from a.open_line (b ∷ [])) ≡ missed_of instruction
    → r.news ≡ news_after a.news (missed_in (session_view config a) (cut_from a.open_line (b ∷ [])))
reads_news config a n r instruction b line told missed =
    told ∙ ap (λ (x : SessionValue). news_after x.news (missed_of instruction)) line
    ∙ ap (news_after a.news) (sym missed)

pub ruleset read_lemmas = (reads_byte, reads_news)

-- what there is to tell once a byte was read, by the state
module _ (config : Config) (h : List Arrival) (a : SessionValue) (lines : List Line) (x : Option News) where
  pub news-negotiating : a.state ≡ Negotiating → x ≡ news_after a.news (missed_in (session_view config a) lines)
      → x ≡ news_in (session_view config a) (client_in config h a).state lines a.news
  news-negotiating state told =
      told ∙ ap (λ t. news_in (session_view config a) (client_in config h (record a { state = t })).state lines a.news)
      (sym state)

  pub news-elsewhere : (t : State) → a.state ≡ t
      → a.news ≡ news_in (session_view config a) (client_in config h (record a { state = t })).state lines a.news
      → x ≡ a.news → x ≡ news_in (session_view config a) (client_in config h a).state lines a.news
  news-elsewhere t state still same =
      same
      ∙ (still
      ∙ ap (λ u. news_in (session_view config a) (client_in config h (record a { state = u })).state lines a.news)
      (sym state))

  pub news-listing : (made : ℕ) → a.state ≡ Listing made → x ≡ a.news
      → x ≡ news_in (session_view config a) (client_in config h a).state lines a.news
  news-listing made state same = news-elsewhere (Listing made) state refl same

  pub news-starting : a.state ≡ Starting → x ≡ a.news
      → x ≡ news_in (session_view config a) (client_in config h a).state lines a.news
  news-starting state same = news-elsewhere Starting state refl same

  pub news-transfer : (next : ℕ) → a.state ≡ Transfer next → x ≡ a.news
      → x ≡ news_in (session_view config a) (client_in config h a).state lines a.news
  news-transfer next state same = news-elsewhere (Transfer next) state refl same

  pub news-ending : a.state ≡ Ending → x ≡ a.news
      → x ≡ news_in (session_view config a) (client_in config h a).state lines a.news
  news-ending state same = news-elsewhere Ending state refl same

pub ruleset byte_lemmas = (news-negotiating, news-listing, news-starting, news-transfer, news-ending)

-- In a transfer a line that says BYE ends it, and nothing else acts.
abbrev left_if : Bool → Client → Client
left_if true c = record c { state = ClientEnding }
left_if false c = c

leave-bye : (c : Client) (command : Command) → leave c command ≡ left_if (is_bye command) c
leave-bye c Blank = refl
leave-bye c Hello = refl
leave-bye c Cat = refl
leave-bye c Bye = refl
leave-bye c End = refl
leave-bye c (Station code network) = refl
leave-bye c (Select text) = refl
leave-bye c (Data number begin) = refl
leave-bye c (Fetch number begin) = refl
leave-bye c (Time begin last) = refl
leave-bye c Bad = refl

read_byte-past : (v : View) (h : List Arrival) (line : Line) (rs : List Request) (q : ℕ) (u w : List ℕ) (b : ℕ)
    → read_byte v h b (record { state = ClientTransfer rs q; open_line = line; unread = u; waiting = w })
    ≡ left_if (says_bye (cut_from line (b ∷ [])))
    (record { state = ClientTransfer rs q; open_line = open_after line (b ∷ []); unread = u; waiting = w })
read_byte-past v h (Text []) rs q u w b = both (is_line_end b) (λ y. rw y) (λ x. rw x)
read_byte-past v h (Text (c ∷ bs)) rs q u w b =
    both (is_line_end b)
    (λ y. rw y (leave-bye (record { state = ClientTransfer rs q; open_line = Text []; unread = u; waiting = w })
    (command_of (Text (c ∷ bs))))) (λ x. rw x)
read_byte-past v h TooLong rs q u w b =
    both (is_line_end b)
    (λ y. rw y (leave-bye (record { state = ClientTransfer rs q; open_line = Text []; unread = u; waiting = w })
    (command_of TooLong))) (λ x. rw x)

past-line : (config : Config) (h : List Arrival) (a : SessionValue) (next b : ℕ) → a.state ≡ Transfer next
    → read_byte (session_view config a) h b (client_in config h a)
    ≡ left_if (says_bye (cut_from a.open_line (b ∷ [])))
    (client_in config h (record a { open_line = open_after a.open_line (b ∷ []) }))
past-line config h a next b state =
    ap (λ t. read_byte (session_view config a) h b (client_in config h (record a { state = t }))) state
    ∙ read_byte-past (session_view config a) h a.open_line
    (filter_map (request_in config) (chosen_of a.mode)) next a.unread a.waiting b
    ∙ ap
    (λ t. left_if (says_bye (cut_from a.open_line (b ∷ [])))
    (client_in config h (record a { state = t; open_line = open_after a.open_line (b ∷ []) }))) (sym state)

pub past-bye : (config : Config) (h : List Arrival) (a n r : SessionValue) (next b : ℕ) (instruction : Instruction)
    → a.state ≡ Transfer next → n ≡ record a { open_line = open_after a.open_line (b ∷ []) }
    → says_bye (cut_from a.open_line (b ∷ [])) ≡ is_leaving instruction → is_leaving instruction ≡ true
    → r ≡ record n { state = Ending }
    → client_in config h r ≡ read_byte (session_view config a) h b (client_in config h a)
past-bye config h a n r next b instruction state line says bye e =
    ap (client_in config h) e
    ∙ ap (λ (x : SessionValue). client_in config h (record x { state = Ending })) line
    ∙ ap (λ t. left_if t (client_in config h (record a { open_line = open_after a.open_line (b ∷ []) })))
    (sym (says ∙ bye))
    ∙ sym (past-line config h a next b state)

pub past-other : (config : Config) (h : List Arrival) (a n : SessionValue) (next b : ℕ) (instruction : Instruction)
    → a.state ≡ Transfer next → n ≡ record a { open_line = open_after a.open_line (b ∷ []) }
    → says_bye (cut_from a.open_line (b ∷ [])) ≡ is_leaving instruction → is_leaving instruction ≡ false
    → client_in config h n ≡ read_byte (session_view config a) h b (client_in config h a)
past-other config h a n next b instruction state line says bye =
    ap (client_in config h) line
    ∙ ap (λ t. left_if t (client_in config h (record a { open_line = open_after a.open_line (b ∷ []) })))
    (sym (says ∙ bye))
    ∙ sym (past-line config h a next b state)

pub ruleset passing_lemmas = (past-bye, past-other)

-- what is asked by the line that a byte ends
pub asked_none : (config : Config) (v : View) (n : Negotiated) (lines : List Line) → [] ≡ lines
    → outcome_of_lines v n lines ≡ outcome_by config v n Nothing
asked_none config v n lines e = ap (outcome_of_lines v n) (sym e)

pub asked_line : (config : Config) (v : View) (n : Negotiated) (lines : List Line) (line : Line)
    (instruction : Instruction) → line ∷ [] ≡ lines
    → outcome_of v n (command_of line) ≡ outcome_by config v n instruction
    → outcome_of_lines v n lines ≡ outcome_by config v n instruction
asked_line config v n lines line instruction e same = ap (outcome_of_lines v n) (sym e) ∙ same

pub says_none : (lines : List Line) → [] ≡ lines → says_bye lines ≡ is_leaving Nothing
says_none lines e = ap says_bye (sym e)

pub says_line : (lines : List Line) (line : Line) (instruction : Instruction) → line ∷ [] ≡ lines
    → is_bye (command_of line) ≡ is_leaving instruction → says_bye lines ≡ is_leaving instruction
says_line lines line instruction e same = ap says_bye (sym e) ∙ same

pub missed_none : (v : View) (lines : List Line) → [] ≡ lines → missed_in v lines ≡ missed_of Nothing
missed_none v lines e = ap (missed_in v) (sym e)

pub missed_line : (v : View) (lines : List Line) (line : Line) (instruction : Instruction) → line ∷ [] ≡ lines
    → missed_by v (command_of line) ≡ missed_of instruction → missed_in v lines ≡ missed_of instruction
missed_line v lines line instruction e same = ap (missed_in v) (sym e) ∙ same

pub ruleset ask_lemmas = (asked_none, asked_line, says_none, says_line, missed_none, missed_line)

pub no_bytes : (ws : List ℕ) → is_nothing ws ≡ true → ws ≡ []
no_bytes [] e = refl
no_bytes (x ∷ ws) e = absurd (grind arith)

pub nothing_drop : (sent : ℕ) (xs : List ℕ) → sent ≤ length xs → nat_eq sent (length xs) ≡ is_nothing (drop sent xs)
nothing_drop sent xs h =
    let same : nat_eq sent (length xs) ≡ nat_eq (length (drop sent xs)) 0 = grind (arith, length-drop sent xs) in
    same ∙ test (drop sent xs)
  where
    test : (ys : List ℕ) → nat_eq (length ys) 0 ≡ is_nothing ys
    test [] = refl
    test (y ∷ ys) = grind arith
