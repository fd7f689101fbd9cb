-- What a session does when bytes are handed, and with the lines of a listing.
use Rattle.std.proofs.Common.{◌≡◌, ℕ, ◌+◌, ◌<◌, ◌≤◌, true, false, List, [], ◌∷◌, ◌++◌, length, take, drop, map, Some}
use Rattle.std.proofs.Common.{None, Option, refl, sym, ap, subst, ◌∙◌, arith, length-append, Bool, nat_lt, zero, suc}
use Rattle.std.proofs.Common.{slice_get, slice_index_or, add-one}
use Rattle.std.specs.Prelude.{is_some}
use Rattle.std.proofs.lemmas.List.{length-map}
use Rattle.protocol.specs.Record.{padded}
use Rattle.protocol.specs.Catalog.{View, Config, Entry, Station, listing, station_line, end_line}
use Rattle.protocol.specs.Lines.{Line}
use Rattle.protocol.specs.History.{Arrival}
use Rattle.protocol.specs.Session.{Negotiated}
use Rattle.protocol.specs.Client.{Client, read_on, is_nothing, filled_in, offered, listed, left_with, after_take}
use Rattle.protocol.specs.Client.State.{Negotiating, Listing}
use Rattle.protocol.proofs.FoundLemmas.{both}
use Rattle.catalog.specs.Places.{view_in, station_at, Seen}
use Rattle.session_state.specs.NamedValues.{ModeValue}
use Rattle.session_state.specs.declared.session.State.{State as SessionState}
use Rattle.session_state.specs.declared.session.State.TheVariants.{Negotiating as Waits, Listing as Lists}
use Rattle.session_state.specs.declared.session.State.TheVariants.{Starting as Begins, Transfer as Transfers}
use Rattle.session_state.specs.declared.session.State.TheVariants.{Ending as Ends}
use Rattle.session_state.specs.declared.session.Settled.{Settled}
use Rattle.session_state.specs.declared.news.News.{News}
use Rattle.session_state.specs.NewsValues.{news_left, news_on, news_taken}
use Rattle.session_state.specs.Choices.{negotiated_in}
use Rattle.session_state.specs.Sessions.{SessionValue, client_in, session_view, listed_in, state_in, with_line}
use Rattle.session_state.specs.Sessions.{line_made, Comes}
use Rattle.session_state.proofs.LineLemmas.{no_bytes}
use Rattle.session_state.proofs.ReceiveLemmas.{comes-to}

is_some_taken : (n : ℕ) (ws : List ℕ) → 0 < n → n ≤ length ws → is_nothing (take n ws) ≡ false
is_some_taken zero ws a b = absurd (omega arith)
is_some_taken (suc n) [] a b = absurd (omega arith)
is_some_taken (suc n) (x ∷ ws) a b = refl

after_take-left : (v : View) (h : List Arrival) (c : Client) (n : ℕ) → 0 < n → n ≤ length c.waiting
    → after_take v h c n ≡ left_with v h c (drop n c.waiting)
after_take-left v h c n a b = rw (is_some_taken n c.waiting a b)

length-listing : (v : View) → length (listing v) ≡ length v.stations + 1
length-listing v = simp (length-append, length-map)

listed-drop : (lines : List (List ℕ)) (last made : ℕ) (n : Negotiated) → length lines ≡ last + 1
    → (nat_lt last made ≡ true → listed (Listing (drop made lines) n) ≡ Negotiating n)
    × (nat_lt last made ≡ false → listed (Listing (drop made lines) n) ≡ Listing (drop made lines) n)
listed-drop [] last made n e = absurd (omega (arith, e))
listed-drop (x ∷ lines) last zero n e = (λ t. absurd (grind arith), λ f. refl)
listed-drop (x ∷ []) last (suc made) n e = (λ t. gone_ made, λ f. absurd (grind arith))
  where
    gone_ : (made : ℕ) → listed (Listing (drop made []) n) ≡ Negotiating n
    gone_ zero = refl
    gone_ (suc made) = refl
listed-drop (x ∷ y ∷ lines) zero (suc made) n e = absurd (omega (arith, e))
listed-drop (x ∷ y ∷ lines) (suc last) (suc made) n e =
    let more = listed-drop (y ∷ lines) last made n (omega (arith, e)) in
    (λ t. more.0 (grind arith), λ f. more.1 (grind arith))

listed-in : (config : Config) (h : List Arrival) (seen : Seen) (mode : ModeValue) (s : SessionState)
    → state_in config h (view_in config seen) mode (listed_in seen s)
    ≡ listed (state_in config h (view_in config seen) mode s)
listed-in config h seen mode Waits = refl
listed-in config h seen mode (Lists made) =
    let both_ways = listed-drop (listing (view_in config seen)) (length seen.places) made (negotiated_in config mode)
    (length-listing (view_in config seen) ∙ ap (λ n. n + 1) (length-map seen.places (station_at config.entries))) in
    both (nat_lt (length seen.places) made) (λ t. rw t (sym (both_ways.0 t))) (λ f. rw f (sym (both_ways.1 f)))
listed-in config h seen mode Begins = refl
listed-in config h seen mode (Transfers next) = refl
listed-in config h seen mode Ends = refl

pub took-settled : (config : Config) (h : List Arrival) (a s e r : SessionValue) (n : ℕ) (settled : Settled) → 0 < n
    → n ≤ length a.waiting → s ≡ record a { waiting = drop n a.waiting } → is_nothing s.waiting ≡ true
    → e ≡ record s { state = listed_in s.places s.state }
    → Comes settled config h r (read_on (session_view config e) h e.unread (client_in config h e))
    → Comes settled config h r (after_take (session_view config a) h (client_in config h a) n)
took-settled config h a s e r n settled some fits skip empty ends comes =
    let none : drop n a.waiting ≡ [] = ap (λ (x : SessionValue). x.waiting) (sym skip) ∙ no_bytes s.waiting empty in
    let s_is : s ≡ record a { waiting = [] } = skip ∙ ap (λ w. record a { waiting = w }) none in
    let e_is : e ≡ record a { state = listed_in a.places a.state; waiting = [] } = ends
    ∙ ap (λ (x : SessionValue). record x { state = listed_in x.places x.state }) s_is in
    comes-to settled config h r _ _
    (ap (λ (x : SessionValue). read_on (session_view config x) h x.unread (client_in config h x)) e_is
    ∙ ap
    (λ t. read_on (session_view config a) h a.unread
    (record { state = t; open_line = a.open_line; unread = a.unread; waiting = [] }))
    (listed-in config h a.places a.mode a.state)
    ∙ ap (left_with (session_view config a) h (client_in config h a)) (sym none)
    ∙ sym (after_take-left (session_view config a) h (client_in config h a) n some fits)) comes

left_waiting : (v : View) (h : List Arrival) (c : Client) (ws : List ℕ) → is_nothing ws ≡ false
    → record c { waiting = ws } ≡ left_with v h c ws
left_waiting v h c [] e = absurd (grind arith)
left_waiting v h c (b ∷ bs) e = refl

pub took-waiting : (config : Config) (h : List Arrival) (a s : SessionValue) (n : ℕ) → 0 < n → n ≤ length a.waiting
    → s ≡ record a { waiting = drop n a.waiting } → is_nothing s.waiting ≡ false
    → client_in config h s ≡ after_take (session_view config a) h (client_in config h a) n
took-waiting config h a s n some fits skip left =
    let still : is_nothing (drop n a.waiting) ≡ false = ap (λ (x : SessionValue). is_nothing x.waiting) (sym skip)
    ∙ left in
    ap (client_in config h) skip ∙ left_waiting (session_view config a) h (client_in config h a)
    (drop n a.waiting) still ∙ sym (after_take-left (session_view config a) h (client_in config h a) n some fits)

-- what there is to tell once bytes that waited were handed
pub took-news : (config : Config) (h : List Arrival) (a s e r : SessionValue) (n : ℕ)
    → s ≡ record a { waiting = drop n a.waiting } → is_nothing s.waiting ≡ true
    → e ≡ record s { state = listed_in s.places s.state }
    → r.news ≡ news_on (session_view config e) h e.unread (client_in config h e) e.news
    → r.news ≡ news_taken (session_view config a) h (client_in config h a) n a.news
took-news config h a s e r n skip empty ends told =
    let none : drop n a.waiting ≡ [] = ap (λ (x : SessionValue). x.waiting) (sym skip) ∙ no_bytes s.waiting empty in
    let s_is : s ≡ record a { waiting = [] } = skip ∙ ap (λ w. record a { waiting = w }) none in
    let e_is : e ≡ record a { state = listed_in a.places a.state; waiting = [] } = ends
    ∙ ap (λ (x : SessionValue). record x { state = listed_in x.places x.state }) s_is in
    told
    ∙ (ap (λ (x : SessionValue). news_on (session_view config x) h x.unread (client_in config h x) x.news) e_is
    ∙ ap
    (λ t. news_on (session_view config a) h a.unread
    (record { state = t; open_line = a.open_line; unread = a.unread; waiting = [] }) a.news)
    (listed-in config h a.places a.mode a.state)
    ∙ ap (λ left. news_left (session_view config a) h (client_in config h a) left a.news) (sym none))

left_news : (v : View) (h : List Arrival) (c : Client) (ws : List ℕ) (news : Option News) → is_nothing ws ≡ false
    → news ≡ news_left v h c ws news
left_news v h c [] news e = absurd (grind arith)
left_news v h c (b ∷ bs) news e = refl

pub waiting-news : (config : Config) (h : List Arrival) (a s : SessionValue) (n : ℕ)
    → s ≡ record a { waiting = drop n a.waiting } → is_nothing s.waiting ≡ false
    → s.news ≡ news_taken (session_view config a) h (client_in config h a) n a.news
waiting-news config h a s n skip left =
    let still : is_nothing (drop n a.waiting) ≡ false = ap (λ (x : SessionValue). is_nothing x.waiting) (sym skip)
    ∙ left in
    ap (λ (x : SessionValue). x.news) skip
    ∙ left_news (session_view config a) h (client_in config h a) (drop n a.waiting) a.news still

-- the next line of a listing
slice_get-end : (xs : List (List ℕ)) (y : List ℕ) → slice_get (xs ++ y ∷ []) (length xs) ≡ Some y
slice_get-end [] y = refl
slice_get-end (x ∷ xs) y = slice_get-end xs y

slice_get-past : (xs : List (List ℕ)) (k : ℕ) → length xs ≤ k → slice_get xs k ≡ None
slice_get-past [] k h = refl
slice_get-past (x ∷ xs) zero h = absurd (omega arith)
slice_get-past (x ∷ xs) (suc k) h = slice_get-past xs k (omega arith)

pub line-end : (config : Config) (seen : Seen) (made : ℕ) → made ≡ length seen.places
    → slice_get (listing (view_in config seen)) made ≡ Some end_line
line-end config seen made e =
    let long : length (map station_line (map (station_at config.entries) seen.places))
    ≡ made = length-map (map (station_at config.entries) seen.places) station_line
    ∙ length-map seen.places (station_at config.entries) ∙ sym e in
    subst (λ k. slice_get (listing (view_in config seen)) k ≡ Some end_line) long
    (slice_get-end (map station_line (map (station_at config.entries) seen.places)) end_line)

pub ruleset took_lemmas = (took-settled, took-waiting, took-news, waiting-news)

station-there : (entries : List Entry) (p : ℕ) (d : Entry) → p < length entries
    → (slice_index_or entries p d).station ≡ station_at entries p
station-there [] p d h = absurd (omega arith)
station-there (x ∷ entries) zero d h = refl
station-there (x ∷ entries) (suc p) d h = station-there entries p d (omega arith)

listing-line : (stations : List Station) (made : ℕ) (d : Station) → made < length stations
    → slice_get (map station_line stations ++ end_line ∷ []) made ≡ Some (station_line (slice_index_or stations made d))
listing-line [] made d h = absurd (omega arith)
listing-line (x ∷ stations) zero d h = refl
listing-line (x ∷ stations) (suc made) d h = listing-line stations made d (omega arith)

place-station : (entries : List Entry) (places : List ℕ) (made d : ℕ) → made < length places
    → slice_index_or (map (station_at entries) places) made (station_at entries d)
    ≡ station_at entries (slice_index_or places made d)
place-station entries [] made d h = absurd (omega arith)
place-station entries (p ∷ places) zero d h = refl
place-station entries (p ∷ places) (suc made) d h = place-station entries places made d (omega arith)

pub line-station : (config : Config) (seen : Seen) (made p d : ℕ) (x e : Entry) → made < length seen.places
    → p ≡ slice_index_or seen.places made d → p < length config.entries → x ≡ slice_index_or config.entries p e
    → slice_get (listing (view_in config seen)) made ≡ Some (station_line x.station)
line-station config seen made p d x e within p_is there x_is =
    let long : made < length (map (station_at config.entries) seen.places) = subst (λ n. made < n)
    (sym (length-map seen.places (station_at config.entries))) within in
    let same : station_at config.entries (slice_index_or seen.places made d)
    ≡ x.station = ap (station_at config.entries) (sym p_is) ∙ sym (station-there config.entries p e there)
    ∙ ap (λ (y : Entry). y.station) (sym x_is) in
    listing-line (map (station_at config.entries) seen.places) made (station_at config.entries d) long
    ∙ ap (λ t. Some (station_line t)) (place-station config.entries seen.places made d within ∙ same)

pub line-past : (config : Config) (seen : Seen) (made : ℕ) → length seen.places < made
    → slice_get (listing (view_in config seen)) made ≡ None
line-past config seen made h =
    slice_get-past (listing (view_in config seen)) made
    (omega (arith, length-listing (view_in config seen), length-map seen.places (station_at config.entries)))

pub made-some : (config : Config) (made : ℕ) (s : SessionValue) (line : List ℕ)
    → slice_get (listing (view_in config s.places)) made ≡ Some line
    → record s { state = Lists (made + 1); waiting = line } ≡ line_made config made s
made-some config made s line e = sym (ap (with_line made s) e)

pub made-none : (config : Config) (made : ℕ) (s : SessionValue)
    → slice_get (listing (view_in config s.places)) made ≡ None → s ≡ line_made config made s
made-none config made s e = sym (ap (with_line made s) e)

-- the client with the next line waiting, of lines of which so many were made to wait
abbrev lined : Negotiated → List (List ℕ) → ℕ → Line → List ℕ → Option (List ℕ) → Client
lined n lines made l u None = record { state = Listing (drop made lines) n; open_line = l; unread = u; waiting = [] }
lined n lines made l u (Some x) =
    record { state = Listing (drop (suc made) lines) n; open_line = l; unread = u; waiting = x }

lines_filled : (n : Negotiated) (h : List Arrival) (lines : List (List ℕ)) (made : ℕ) (l : Line) (u : List ℕ)
    → lined n lines made l u (slice_get lines made)
    ≡ filled_in h (record { state = Listing (drop made lines) n; open_line = l; unread = u; waiting = [] })
    (Listing (drop made lines) n)
lines_filled n h [] zero l u = refl
lines_filled n h [] (suc made) l u = refl
lines_filled n h (x ∷ lines) zero l u = refl
lines_filled n h (x ∷ lines) (suc made) l u = unfold_same (slice_get lines made) ∙ lines_filled n h lines made l u
  where
    unfold_same : (o : Option (List ℕ)) → lined n (x ∷ lines) (suc made) l u o ≡ lined n lines made l u o
    unfold_same None = refl
    unfold_same (Some y) = refl

client-lined : (config : Config) (h : List Arrival) (a : SessionValue) (made : ℕ) (o : Option (List ℕ))
    → client_in config h (with_line made (record a { state = Lists made; waiting = [] }) o)
    ≡ lined (negotiated_in config a.mode) (listing (view_in config a.places)) made a.open_line a.unread o
client-lined config h a made None = refl
client-lined config h a made (Some line) =
    ap
    (λ n. record {
      state = Listing (drop n (listing (view_in config a.places))) (negotiated_in config a.mode);
      open_line = a.open_line;
      unread = a.unread;
      waiting = line;
    }) (add-one made)

pub fill-listing : (config : Config) (h : List Arrival) (a : SessionValue) (made : ℕ) → a.state ≡ Lists made
    → is_nothing a.waiting ≡ true → client_in config h (line_made config made a) ≡ offered h (client_in config h a)
fill-listing config h a made state empty =
    let a_is : a ≡ record a { state = Lists made; waiting = [] } = ap (λ t. record a { state = t }) state
    ∙ ap (λ w. record a { state = Lists made; waiting = w }) (no_bytes a.waiting empty) in
    ap (λ (x : SessionValue). client_in config h (line_made config made x)) a_is
    ∙ client-lined config h a made (slice_get (listing (view_in config a.places)) made)
    ∙ lines_filled (negotiated_in config a.mode) h (listing (view_in config a.places)) made a.open_line a.unread
    ∙ ap (λ (x : SessionValue). offered h (client_in config h x)) (sym a_is)

pub ruleset line_lemmas = (line-end, line-past, line-station, made-some, made-none)

-- ---- a further line

pub same-listing : (a b : ℕ) → Lists a ≡ Lists b → a ≡ b
same-listing a b e = cc

line-there : (xs : List (List ℕ)) (k last : ℕ) → length xs ≡ last + 1 → k ≤ last → is_some (slice_get xs k) ≡ true
line-there [] k last e le = absurd (omega (arith, e))
line-there (x ∷ xs) zero last e le = refl
line-there (x ∷ xs) (suc k) zero e le = absurd (omega (arith, le))
line-there (x ∷ xs) (suc k) (suc last) e le = line-there xs k last (omega (arith, e)) (omega (arith, le))

line-lacks : (xs : List (List ℕ)) (k : ℕ) → length xs ≤ k → is_some (slice_get xs k) ≡ false
line-lacks xs k le = ap is_some (slice_get-past xs k le)

listing-long : (config : Config) (seen : Seen) → length (listing (view_in config seen)) ≡ length seen.places + 1
listing-long config seen = length-listing (view_in config seen)
    ∙ ap (λ n. n + 1) (length-map seen.places (station_at config.entries))

-- A line is there exactly while no more than the stations' were made.
pub line-further : (config : Config) (seen : Seen) (made : ℕ) (t : Bool) → (t ≡ true → made ≤ length seen.places)
    → (t ≡ false → length seen.places < made) → t ≡ is_some (slice_get (listing (view_in config seen)) made)
line-further config seen made true le lt =
    sym (line-there (listing (view_in config seen)) made (length seen.places) (listing-long config seen) (le refl))
line-further config seen made false le lt =
    sym (line-lacks (listing (view_in config seen)) made (omega (arith, listing-long config seen, lt refl)))

-- No line is empty.
ends-in-some : (xs : List ℕ) (y : ℕ) (ys : List ℕ) → is_nothing (xs ++ y ∷ ys) ≡ false
ends-in-some [] y ys = refl
ends-in-some (x ∷ xs) y ys = refl

station-some : (s : Station) → is_nothing (station_line s) ≡ false
station-some s = ends-in-some (padded 2 s.network ++ 32 ∷ padded 5 s.code ++ 32 ∷ s.description) 13 (10 ∷ [])

line-some-in : (stations : List Station) (made : ℕ) (line : List ℕ)
    → slice_get (map station_line stations ++ end_line ∷ []) made ≡ Some line → is_nothing line ≡ false
line-some-in [] zero line e = let q : end_line ≡ line = cc in sym (ap is_nothing q)
line-some-in [] (suc made) line e = absurd cc
line-some-in (s ∷ stations) zero line e = let q : station_line s ≡ line =
    cc in subst (λ l. is_nothing l ≡ false) q (station-some s)
line-some-in (s ∷ stations) (suc made) line e = line-some-in stations made line e

pub line-some : (v : View) (made : ℕ) (line : List ℕ) → slice_get (listing v) made ≡ Some line → is_nothing line ≡ false
line-some v made line e = line-some-in v.stations made line e
