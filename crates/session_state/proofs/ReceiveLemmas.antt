-- What a session does with bytes that come, and when its transfer begins.
use Rattle.std.proofs.Common.{◌≡◌, ℕ, ◌-◌, true, false, List, [], ◌∷◌, ◌++◌, length, map, filter_map, Option, Some}
use Rattle.std.proofs.Common.{None, All, refl, sym, ap, subst, ◌∙◌, nat_lt, ◌≢◌, Bool}
use Rattle.std.proofs.lemmas.Bool.{false≢true}
use Rattle.std.proofs.lemmas.List.Elements.{All-head, All-tail}
use Rattle.protocol.specs.Catalog.{Config}
use Rattle.protocol.specs.History.{Arrival}
use Rattle.protocol.specs.Session.{wish_of}
use Rattle.protocol.specs.Client.{Client, received, read_on, is_ending, request_of}
use Rattle.protocol.specs.Client.State.{Transfer as ClientTransfer}
use Rattle.protocol.proofs.UnreadLemmas.{read_on-unread}
use Rattle.sl_lines.specs.declared.actions.Action.{Action}
use Rattle.session_state.specs.declared.news.News.{News}
use Rattle.session_state.specs.declared.news.News.TheVariants.{Begins}
use Rattle.session_state.specs.NamedValues.{Choice}
use Rattle.session_state.specs.NamedValues.{ModeValue}
use Rattle.session_state.specs.NamedValues.ModeValue.{Uni, Multi}
use Rattle.session_state.specs.declared.session.State.TheVariants.{Starting, Transfer}
use Rattle.session_state.specs.declared.session.Settled.{Settled}
use Rattle.session_state.specs.Choices.{choices_in, chosen_of, request_in}
use Rattle.session_state.specs.Sessions.{SessionValue, client_in, session_view, Comes, HasFirst, HasFirsts}
use Rattle.session_state.specs.NewsValues.{news_on, news_received}
use Rattle.session_state.proofs.NewsLemmas.{news-unread}

pub comes-to : (settled : Settled) (config : Config) (h : List Arrival) (s : SessionValue) (c d : Client) → c ≡ d
    → Comes settled config h s c → Comes settled config h s d
comes-to settled config h s c d e = subst (Comes settled config h s) e

received-open : (config : Config) (h : List Arrival) (bytes : List ℕ) (a : SessionValue)
    → nat_lt (1024 - length a.unread) (length bytes) ≡ false → is_ending (client_in config h a).state ≡ false
    → received (session_view config a) h bytes (client_in config h a)
    ≡ read_on (session_view config a) h (a.unread ++ bytes) (client_in config h a)
received-open config h bytes a fits open_ = rw (fits, open_)

pub received-settled : (config : Config) (h : List Arrival) (bytes : List ℕ) (a n r : SessionValue) (settled : Settled)
    → nat_lt (1024 - length a.unread) (length bytes) ≡ false → is_ending (client_in config h a).state ≡ false
    → n ≡ record a { unread = a.unread ++ bytes }
    → Comes settled config h r (read_on (session_view config n) h n.unread (client_in config h n))
    → Comes settled config h r (received (session_view config a) h bytes (client_in config h a))
received-settled config h bytes a n r settled fits open_ put comes =
    let there : read_on (session_view config n) h n.unread (client_in config h n)
    ≡ read_on (session_view config a) h (a.unread ++ bytes)
    (record (client_in config h a) { unread = a.unread ++ bytes }) =
    ap (λ (s : SessionValue). read_on (session_view config s) h s.unread (client_in config h s)) put in
    comes-to settled config h r _ _
    (there ∙ read_on-unread (session_view config a) h (a.unread ++ bytes) (a.unread ++ bytes) (client_in config h a)
    ∙ sym (received-open config h bytes a fits open_)) comes

pub received-ending : (config : Config) (h : List Arrival) (bytes : List ℕ) (a : SessionValue)
    → nat_lt (1024 - length a.unread) (length bytes) ≡ false → is_ending (client_in config h a).state ≡ true
    → client_in config h a ≡ received (session_view config a) h bytes (client_in config h a)
received-ending config h bytes a fits ends = rw (fits, ends)

pub received-refused : (config : Config) (h : List Arrival) (bytes : List ℕ) (a : SessionValue)
    → nat_lt (1024 - length a.unread) (length bytes) ≡ true
    → client_in config h a ≡ received (session_view config a) h bytes (client_in config h a)
received-refused config h bytes a full = rw full

pub ruleset receive_lemmas = (received-settled, received-ending, received-refused)

-- the requests of a transfer that has begun
requests-begin : (config : Config) (h : List Arrival) (cs : List Choice) → All (HasFirst config h) cs
    → map (request_of h) (filter_map wish_of (choices_in config cs)) ≡ filter_map (request_in config) cs
requests-begin config h [] all = refl
requests-begin config h (c ∷ cs) all =
    step (requests-begin config h cs (All-tail (HasFirst config h) c cs all)) c.action
    (All-head (HasFirst config h) c cs all)
  where
    step : map (request_of h) (filter_map wish_of (choices_in config cs)) ≡ filter_map (request_in config) cs
        → (o : Option Action) → HasFirst config h (record c { action = o })
        → map (request_of h) (filter_map wish_of (choices_in config (record c { action = o } ∷ cs)))
        ≡ filter_map (request_in config) (record c { action = o } ∷ cs)
    step rest None first = rest
    step rest (Some a) first = rw (first a refl, rest) refl

begun-state : (config : Config) (h : List Arrival) (a : SessionValue) (mode : ModeValue)
    → All (HasFirst config h) (chosen_of mode)
    → client_in config h (record a { mode = mode; state = Starting })
    ≡ client_in config h (record a { mode = mode; state = Transfer 0 })
begun-state config h a (Uni ps) all = refl
begun-state config h a (Multi n) all =
    ap (λ rs. record { state = ClientTransfer rs 0; open_line = a.open_line; unread = a.unread; waiting = a.waiting })
    (requests-begin config h n.choices all)

pub starts : (config : Config) (h : List Arrival) (a t : SessionValue) → a.state ≡ Starting
    → t ≡ record a { state = Transfer 0; looked = None; news = Some Begins } → HasFirsts config h a
    → client_in config h t ≡ client_in config h a
starts config h a t state turned firsts =
    ap (client_in config h) turned ∙ sym (begun-state config h a a.mode firsts)
    ∙ ap (λ x. client_in config h (record a { state = x })) (sym state)

pub ruleset start_lemmas = (starts)

-- what there is to tell once bytes came
pub received-news : (config : Config) (h : List Arrival) (bytes : List ℕ) (a n r : SessionValue)
    → is_ending (client_in config h a).state ≡ false → n ≡ record a { unread = a.unread ++ bytes }
    → r.news ≡ news_on (session_view config n) h n.unread (client_in config h n) n.news
    → r.news ≡ news_received (session_view config a) h bytes (client_in config h a) a.news
received-news config h bytes a n r open_ put told =
    told
    ∙ (ap (λ (s : SessionValue). news_on (session_view config s) h s.unread (client_in config h s) s.news) put
    ∙ news-unread (session_view config a) h (a.unread ++ bytes) (a.unread ++ bytes) (client_in config h a) a.news
    ∙ sym (rw open_))

pub ending-news : (config : Config) (h : List Arrival) (bytes : List ℕ) (a : SessionValue)
    → is_ending (client_in config h a).state ≡ true
    → a.news ≡ news_received (session_view config a) h bytes (client_in config h a) a.news
ending-news config h bytes a ends = rw ends

-- A session in its end is not about to start.
pub ending-settled : (config : Config) (a : SessionValue) (ends : Bool) → ends ≡ is_ending (client_in config [] a).state
    → ends ≡ true → a.state ≢ Starting
ending-settled config a ends is says starting =
    let started : is_ending (client_in config [] a).state
    ≡ false = ap (λ t. is_ending (client_in config [] (record a { state = t })).state) starting in
    false≢true (sym started ∙ sym is ∙ says)
