-- What there is to tell, byte by byte.
use Rattle.std.proofs.Common.{◌≡◌, ◌≢◌, ℕ, Bool, true, false, zero, suc, List, []}
use Rattle.std.proofs.Common.{◌∷◌, ◌++◌, length, take, drop, refl, sym}
use Rattle.std.proofs.Common.{ap, ◌∙◌, Option, Some, None, nat_lt, ◌<◌, ◌≤◌, arith}
use Rattle.std.specs.List.{list_any}
use Rattle.std.proofs.lemmas.Bool.{or_parts}
use Rattle.protocol.specs.Catalog.{Config, View}
use Rattle.protocol.specs.Lines.{Line, cut_from, is_line_end, joined, open_after}
use Rattle.protocol.specs.Lines.Line.{Text, TooLong}
use Rattle.protocol.specs.Command.{Command, command_of}
use Rattle.protocol.specs.Command.Command.{Blank, Hello, Cat, Bye, End, Station, Select, Data, Fetch, Time, Bad}
use Rattle.protocol.specs.History.{Arrival}
use Rattle.protocol.specs.Client.{Client, State as ClientState, leave, obey, obey_in, read_byte, reads}
use Rattle.protocol.specs.Client.State.{Negotiating, Listing, Transfer, Ending}
use Rattle.protocol.proofs.FoundLemmas.{both}
use Rattle.protocol.proofs.UnreadLemmas.{read_byte-unread}
use Rattle.session_state.specs.declared.news.News.{News}
use Rattle.session_state.specs.NewsValues.{news_in, news_on}

-- A client's unread bytes do not matter to what it tells of others.
pub news-unread : (v : View) (h : List Arrival) (u bytes : List ℕ) (c : Client) (news : Option News)
    → news_on v h bytes (record c { unread = u }) news ≡ news_on v h bytes c news
news-unread v h u [] c news = refl
news-unread v h u (b ∷ bytes) c news =
    both (reads c.state c.waiting)
    (λ y. rw y (ap (λ x. news_on v h bytes x (news_in v c.state (cut_from c.open_line (b ∷ [])) news))
    (read_byte-unread v h u b c)
    ∙ news-unread v h u bytes (read_byte v h b c) (news_in v c.state (cut_from c.open_line (b ∷ [])) news)))
    (λ n. rw n)

-- A client that may read, and keeps what is left unread, reads on by a step.
pub news-step : (v : View) (h : List Arrival) (b : ℕ) (bytes : List ℕ) (c : Client) (news : Option News)
    → reads c.state c.waiting ≡ true
    → news_on v h bytes (read_byte v h b (record c { unread = bytes }))
    (news_in v c.state (cut_from c.open_line (b ∷ [])) news) ≡ news_on v h (b ∷ bytes) c news
news-step v h b bytes c news may =
    rw may (ap (λ x. news_on v h bytes x (news_in v c.state (cut_from c.open_line (b ∷ [])) news))
    (read_byte-unread v h bytes b c)
    ∙ news-unread v h bytes bytes (read_byte v h b c) (news_in v c.state (cut_from c.open_line (b ∷ [])) news))

-- Where no line ends there is nothing more to tell.
pub news-none : (v : View) (s : ClientState) (news : Option News) → news_in v s [] news ≡ news
news-none v (Negotiating n) news = refl
news-none v (Listing lines n) news = refl
news-none v (Transfer rs q) news = refl
news-none v Ending news = refl

news-joined : (v : View) (s : ClientState) (line : Line) (b : ℕ) (news : Option News) → is_line_end b ≡ false
    → news_in v s (cut_from line (b ∷ [])) news ≡ news
news-joined v s line b news no_end = rw no_end (news-none v s news)

-- bytes of which none ends a line join the open line
pub news-run : (v : View) (h : List Arrival) (k : ℕ) (bytes : List ℕ) (c : Client) (news : Option News)
    → reads c.state c.waiting ≡ true → list_any is_line_end (take k bytes) ≡ false
    → news_on v h (drop k bytes) (record c { open_line = open_after c.open_line (take k bytes) }) news
    ≡ news_on v h bytes c news
news-run v h zero bytes c news may none = refl
news-run v h (suc k) [] c news may none = refl
news-run v h (suc k) (b ∷ bytes) c news may none =
    let parts = or_parts (is_line_end b) (list_any is_line_end (take k bytes)) none in
    rw (may, parts.0)
    (news-run v h k bytes (record c { open_line = joined c.open_line b }) news may parts.1
    ∙ ap (news_on v h bytes (record c { open_line = joined c.open_line b })) (sym (news-none v c.state news)))

-- ---- in a transfer, and after it

-- The client is in a transfer, or in its end.
abbrev pub is_past : ClientState → Bool
is_past (Transfer rs q) = true
is_past Ending = true
is_past _ = false

news-past : (v : View) (s : ClientState) (lines : List Line) (news : Option News) → is_past s ≡ true
    → news_in v s lines news ≡ news
news-past v (Negotiating n) lines news past = absurd (grind arith)
news-past v (Listing ls n) lines news past = absurd (grind arith)
news-past v (Transfer rs q) lines news past = refl
news-past v Ending lines news past = refl

leave-past : (c : Client) (command : Command) → is_past c.state ≡ true → is_past (leave c command).state ≡ true
leave-past c Blank past = past
leave-past c Hello past = past
leave-past c Cat past = past
leave-past c Bye past = refl
leave-past c End past = past
leave-past c (Station code network) past = past
leave-past c (Select text) past = past
leave-past c (Data number begin) past = past
leave-past c (Fetch number begin) past = past
leave-past c (Time begin last) past = past
leave-past c Bad past = past

obey_in-past : (v : View) (h : List Arrival) (line : Line) (c : Client) (s : ClientState) → c.state ≡ s
    → is_past s ≡ true → is_past (obey_in v h line c s).state ≡ true
obey_in-past v h line c (Negotiating n) e past = absurd (grind arith)
obey_in-past v h line c (Listing ls n) e past = absurd (grind arith)
obey_in-past v h line c (Transfer rs q) e past = leave-past c (command_of line) (ap is_past e ∙ past)
obey_in-past v h line c Ending e past = ap is_past e ∙ past

obey-past : (v : View) (h : List Arrival) (line : Line) (c : Client) → is_past c.state ≡ true
    → is_past (obey v h line c).state ≡ true
obey-past v h (Text []) c past = past
obey-past v h (Text (b ∷ bs)) c past = obey_in-past v h (Text (b ∷ bs)) c c.state refl past
obey-past v h TooLong c past = obey_in-past v h TooLong c c.state refl past

read_byte-past : (v : View) (h : List Arrival) (b : ℕ) (c : Client) → is_past c.state ≡ true
    → is_past (read_byte v h b c).state ≡ true
read_byte-past v h b c past =
    both (is_line_end b) (λ y. rw y (obey-past v h c.open_line (record c { open_line = Text [] }) past))
    (λ n. rw n past)

-- There is nothing more to tell in a transfer.
pub past-news : (v : View) (h : List Arrival) (bytes : List ℕ) (c : Client) (news : Option News)
    → is_past c.state ≡ true → news_on v h bytes c news ≡ news
past-news v h [] c news past = refl
past-news v h (b ∷ bytes) c news past =
    both (reads c.state c.waiting)
    (λ y. rw y (past-news v h bytes (read_byte v h b c) (news_in v c.state (cut_from c.open_line (b ∷ [])) news)
    (read_byte-past v h b c past) ∙ news-past v c.state (cut_from c.open_line (b ∷ [])) news past))
    (λ n. rw n)
