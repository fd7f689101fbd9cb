-- What a session does, step by step, is what its client does.
use Rattle.std.proofs.Common.{◌≡◌, ◌≢◌, ℕ, true, false, zero, suc, List, [], ◌∷◌, length, take, drop, refl, sym, ap}
use Rattle.std.proofs.Common.{◌∙◌, arith}
use Rattle.std.proofs.Common.{nat_lt, Option}
use Rattle.std.specs.List.{list_any, before_first, position_or_len}
use Rattle.std.proofs.lemmas.Bool.{or_parts}
use Rattle.protocol.specs.Lines.{cut_from, is_line_end, joined, open_after}
use Rattle.protocol.specs.Catalog.{Config, View}
use Rattle.protocol.specs.History.{Arrival}
use Rattle.protocol.specs.Client.{Client, reads, read_byte, read_on}
use Rattle.protocol.proofs.UnreadLemmas.{read_on-step, read_on-unread}
use Rattle.catalog.specs.Places.{view_in, Seen}
use Rattle.session_state.specs.declared.session.State.{State}
use Rattle.session_state.specs.declared.session.State.TheVariants.{Negotiating, Listing, Starting, Transfer, Ending}
use Rattle.session_state.specs.declared.session.Settled.{Settled}
use Rattle.session_state.specs.declared.session.Settled.TheVariants.{Rest, Start}
use Rattle.session_state.specs.Sessions.{SessionValue, ReadsOnAs, client_in, session_view, kept_unread, Comes}
use Rattle.session_state.specs.Sessions.{KeepsTransfer, text_taken}
use Rattle.session_state.specs.Sessions.{never_starts}
use Rattle.session_state.specs.declared.news.News.{News}
use Rattle.session_state.specs.NewsValues.{news_in, news_on}
use Rattle.session_state.proofs.CursorLemmas.{keeps-apart, keeps-then}
use Rattle.session_state.proofs.NewsLemmas.{is_past, news-run, news-step, news-unread, past-news}

-- a session that has nothing unread, or that may not read
pub read_on-nothing : (config : Config) (v : View) (h : List Arrival) (s : SessionValue)
    → nat_lt 0 (length s.unread) ≡ false
    → client_in config h (record s { unread = kept_unread s.state s.unread })
    ≡ read_on v h s.unread (client_in config h s)
read_on-nothing config v h s e = nothing s.state s.unread e
  where
    nothing : (t : State) (u : List ℕ) → nat_lt 0 (length u) ≡ false
        → client_in config h (record s { state = t; unread = kept_unread t u })
        ≡ read_on v h u (client_in config h (record s { state = t; unread = u }))
    nothing Negotiating [] e = refl
    nothing (Listing n) [] e = refl
    nothing Starting [] e = refl
    nothing (Transfer q) [] e = refl
    nothing Ending [] e = refl
    nothing t (b ∷ u) e = absurd (grind arith)

pub read_on-stopped : (config : Config) (v : View) (h : List Arrival) (s : SessionValue)
    → reads (client_in config h s).state s.waiting ≡ false
    → client_in config h (record s { unread = kept_unread s.state s.unread })
    ≡ read_on v h s.unread (client_in config h s)
read_on-stopped config v h s e = stopped s.state s.unread e
  where
    stopped : (t : State) (u : List ℕ) → reads (client_in config h (record s { state = t })).state s.waiting ≡ false
        → client_in config h (record s { state = t; unread = kept_unread t u })
        ≡ read_on v h u (client_in config h (record s { state = t; unread = u }))
    stopped Negotiating [] e = refl
    stopped (Listing n) [] e = refl
    stopped Starting [] e = refl
    stopped (Transfer q) [] e = refl
    stopped Ending [] e = refl
    stopped Negotiating (b ∷ u) e = rw e
    stopped (Listing n) (b ∷ u) e = refl
    stopped Starting (b ∷ u) e = absurd (grind arith)
    stopped (Transfer q) (b ∷ u) e = absurd (grind arith)
    stopped Ending (b ∷ u) e = refl

three : (f : Seen → List ℕ → Client → Client) (p p' : Seen) (u u' : List ℕ) (c c' : Client) → p ≡ p' → u ≡ u' → c ≡ c'
    → f p u c ≡ f p' u' c'
three f p p' u u' c c' a b d = rw (a, b, d)

four : (f : Seen → List ℕ → Client → Option News → Option News) (p p' : Seen) (u u' : List ℕ) (c c' : Client)
    (x x' : Option News) → p ≡ p' → u ≡ u' → c ≡ c' → x ≡ x' → f p u c x ≡ f p' u' c' x'
four f p p' u u' c c' x x' a b d e = rw (a, b, d, e)

-- one more byte is read
pub settle-step : (config : Config) (a n r : SessionValue) (b : ℕ) → a.unread ≡ b ∷ n.unread
    → n ≡ record a { unread = n.unread }
    → ((h : List Arrival) → client_in config h r ≡ read_byte (session_view config n) h b (client_in config h n))
    → r.places ≡ n.places → r.unread ≡ n.unread → (never_starts n.state ≡ true → never_starts r.state ≡ true)
    → KeepsTransfer n r
    → ((h : List Arrival) → r.news ≡ news_in (session_view config n) (client_in config h n).state
    (cut_from n.open_line (b ∷ [])) n.news) → ((h : List Arrival) → reads (client_in config h a).state a.waiting ≡ true)
    → (first : SessionValue) → ReadsOnAs config a first → ReadsOnAs config r first
settle-step config a n r b byte rest client places unread stays kept told may first so_far =
    record {
      same = λ h.
          three (λ q u c. read_on (view_in config q) h u c) r.places n.places r.unread n.unread (client_in config h r)
          (read_byte (session_view config n) h b (client_in config h n)) places unread (client h)
          ∙ ap
          (λ (s : SessionValue). read_on (session_view config s) h s.unread
          (read_byte (session_view config s) h b (client_in config h s))) rest
          ∙ read_on-step (session_view config a) h b n.unread (client_in config h a) (may h)
          ∙ ap (λ u. read_on (session_view config a) h u (client_in config h a)) (sym byte)
          ∙ so_far.same h;
      places = places ∙ ap (λ (s : SessionValue). s.places) rest ∙ so_far.places;
      stays = λ e. stays (ap (λ (s : SessionValue). never_starts s.state) rest ∙ so_far.stays e);
      kept = keeps-then first a r so_far.kept
          (keeps-then a n r
          (keeps-apart a n (ap (λ (s : SessionValue). s.state) rest) (ap (λ (s : SessionValue). s.mode) rest)
          (ap (λ (s : SessionValue). s.looked) rest)) kept);
      news = λ h.
          four (λ q u c news. news_on (view_in config q) h u c news) r.places n.places r.unread n.unread
          (client_in config h r) (read_byte (session_view config n) h b (client_in config h n)) r.news
          (news_in (session_view config n) (client_in config h n).state (cut_from n.open_line (b ∷ [])) n.news) places
          unread (client h) (told h)
          ∙ ap
          (λ (s : SessionValue). news_on (session_view config s) h s.unread
          (read_byte (session_view config s) h b (client_in config h s))
          (news_in (session_view config s) (client_in config h s).state (cut_from s.open_line (b ∷ [])) s.news)) rest
          ∙ news-step (session_view config a) h b n.unread (client_in config h a) a.news (may h)
          ∙ ap (λ u. news_on (session_view config a) h u (client_in config h a) a.news) (sym byte)
          ∙ so_far.news h;
    }

-- bytes of which none ends a line join the open line
reads_run : (v : View) (h : List Arrival) (k : ℕ) (bytes : List ℕ) (c : Client) → reads c.state c.waiting ≡ true
    → list_any is_line_end (take k bytes) ≡ false
    → read_on v h (drop k bytes) (record c { open_line = open_after c.open_line (take k bytes) }) ≡ read_on v h bytes c
reads_run v h zero bytes c may none = refl
reads_run v h (suc k) [] c may none = refl
reads_run v h (suc k) (b ∷ bytes) c may none =
    let parts = or_parts (is_line_end b) (list_any is_line_end (take k bytes)) none in
    rw (may, parts.0) (reads_run v h k bytes (record c { open_line = joined c.open_line b }) may parts.1)

-- the bytes before the next line end join it
pub settle-text : (config : Config) (a n : SessionValue) → n ≡ text_taken a
    → list_any is_line_end (before_first is_line_end a.unread) ≡ false
    → ((h : List Arrival) → reads (client_in config h a).state a.waiting ≡ true) → ReadsOnAs config n a
settle-text config a n taken none may = record {
  same = λ h.
      let k = position_or_len is_line_end a.unread in
      let v = session_view config a in
      let c = client_in config h a in
      ap (λ (s : SessionValue). read_on (session_view config s) h s.unread (client_in config h s)) taken
      ∙ read_on-unread v h (drop k a.unread) (drop k a.unread)
      (record c { open_line = open_after c.open_line (take k a.unread) })
      ∙ reads_run v h k a.unread c (may h) none;
  places = ap (λ (s : SessionValue). s.places) taken;
  stays = λ e. ap (λ (s : SessionValue). never_starts s.state) taken ∙ e;
  kept =
      keeps-apart a n (ap (λ (s : SessionValue). s.state) taken) (ap (λ (s : SessionValue). s.mode) taken)
      (ap (λ (s : SessionValue). s.looked) taken);
  news = λ h.
      let k = position_or_len is_line_end a.unread in
      let v = session_view config a in
      let c = client_in config h a in
      ap (λ (s : SessionValue). news_on (session_view config s) h s.unread (client_in config h s) s.news) taken
      ∙ news-unread v h (drop k a.unread) (drop k a.unread)
      (record c { open_line = open_after c.open_line (take k a.unread) }) a.news
      ∙ news-run v h k a.unread c a.news (may h) none;
}

-- what a session comes to that read on as one that reads on as the first
pub reads-then : (config : Config) (now between first : SessionValue) → ReadsOnAs config now between
    → ReadsOnAs config between first → ReadsOnAs config now first
reads-then config now between first late early = record {
  same = λ h. late.same h ∙ early.same h;
  places = late.places ∙ early.places;
  stays = λ e. late.stays (early.stays e);
  kept = keeps-then first between now early.kept late.kept;
  news = λ h. late.news h ∙ early.news h;
}

-- what a session comes to that has read what it may
pub settles : (config : Config) (h : List Arrival) (a d first : SessionValue) (settled : Settled)
    → (settled ≡ Start → d.state ≡ Starting) → (settled ≡ Rest → d.state ≢ Starting)
    → d ≡ record a { unread = kept_unread a.state a.unread }
    → (a.state ≢ Starting → client_in config h (record a { unread = kept_unread a.state a.unread })
    ≡ read_on (session_view config a) h a.unread (client_in config h a)) → ReadsOnAs config a first
    → Comes settled config h d (read_on (session_view config first) h first.unread (client_in config h first))
settles config h a d first Rest start rest kept done so_far =
    let here : a.state ≢ Starting = λ e. rest refl (ap (λ (s : SessionValue). s.state) kept ∙ e) in
    ap (client_in config h) kept ∙ done here ∙ so_far.same h
settles config h a d first Start start rest kept done so_far =
    let state : a.state ≡ Starting = sym (ap (λ (s : SessionValue). s.state) kept) ∙ start refl in
    let d_is : d ≡ a = kept ∙ ap (λ t. record a { unread = kept_unread t a.unread }) state in (
      start refl,
      ap (λ (s : SessionValue). read_on (session_view config s) h s.unread (client_in config h s)) d_is
          ∙ so_far.same h,
    )

-- what a session has to tell that has read what it may
pub settles-news : (config : Config) (h : List Arrival) (a d first : SessionValue)
    → d ≡ record a { unread = kept_unread a.state a.unread }
    → (a.state ≢ Starting → news_on (session_view config a) h a.unread (client_in config h a) a.news ≡ a.news)
    → ReadsOnAs config a first
    → d.news ≡ news_on (session_view config first) h first.unread (client_in config h first) first.news
settles-news config h a d first kept done so_far =
    ap (λ (s : SessionValue). s.news) kept ∙ sym (nothing_more a.state refl) ∙ so_far.news h
  where
    nothing_more : (t : State) → a.state ≡ t
        → news_on (session_view config a) h a.unread (client_in config h a) a.news ≡ a.news
    nothing_more Negotiating e = done (λ q. absurd (let x : Negotiating ≡ Starting = sym e ∙ q in cc))
    nothing_more (Listing made) e = done (λ q. absurd (let x : Listing made ≡ Starting = sym e ∙ q in cc))
    nothing_more Starting e =
        past-news (session_view config a) h a.unread (client_in config h a) a.news
        (ap (λ t. is_past (client_in config h (record a { state = t })).state) e)
    nothing_more (Transfer q) e = done (λ p. absurd (let x : Transfer q ≡ Starting = sym e ∙ p in cc))
    nothing_more Ending e = done (λ q. absurd (let x : Ending ≡ Starting = sym e ∙ q in cc))

-- Nothing more is told by a session that has nothing unread, or that may not read.
pub news-nothing : (config : Config) (h : List Arrival) (s : SessionValue) → nat_lt 0 (length s.unread) ≡ false
    → news_on (session_view config s) h s.unread (client_in config h s) s.news ≡ s.news
news-nothing config h s e = nothing s.unread e
  where
    nothing : (u : List ℕ) → nat_lt 0 (length u) ≡ false
        → news_on (session_view config s) h u (client_in config h s) s.news ≡ s.news
    nothing [] e = refl
    nothing (b ∷ u) e = absurd (grind arith)

pub news-stopped : (config : Config) (h : List Arrival) (s : SessionValue)
    → reads (client_in config h s).state s.waiting ≡ false
    → news_on (session_view config s) h s.unread (client_in config h s) s.news ≡ s.news
news-stopped config h s e = stopped s.unread
  where
    stopped : (u : List ℕ) → news_on (session_view config s) h u (client_in config h s) s.news ≡ s.news
    stopped [] = refl
    stopped (b ∷ u) = rw e

pub settles-kept : (config : Config) (a d first : SessionValue) → d ≡ record a { unread = kept_unread a.state a.unread }
    → ReadsOnAs config a first → KeepsTransfer first d
settles-kept config a d first kept so_far =
    keeps-then first a d so_far.kept
    (keeps-apart a d (ap (λ (s : SessionValue). s.state) kept) (ap (λ (s : SessionValue). s.mode) kept)
    (ap (λ (s : SessionValue). s.looked) kept))
