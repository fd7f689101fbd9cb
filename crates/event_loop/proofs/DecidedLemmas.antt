-- Decisions that are said.
use Rattle.std.proofs.Common.{◌≡◌, ℕ, List, [], ◌∷◌, ◌++◌, Option, Some, None, refl}
use Rattle.std.proofs.Common.{sym, ap, ap₂, subst, ◌∙◌, append_assoc}
use Rattle.std.proofs.lemmas.List.{append-nil}
use Rattle.ports.specs.Decisions.{Decides}
use Rattle.ports.specs.declared.decisions.Decision.{Decision}
use Rattle.server_core.specs.ServerValues.{ServerValue}
use Rattle.event_loop.specs.declared.seat.Seat.{Seat}
use Rattle.protocol.specs.Catalog.{Config}
use Rattle.session_state.specs.declared.choices.Entry.{Entry}
use Rattle.event_loop.specs.Decided.{cut_of, cuts_in}
use Rattle.ports.specs.declared.decisions.AskedCodes.{AskedCodes}
use Rattle.ports.specs.declared.decisions.Decision.TheVariants.{Reads}
use Rattle.ports.specs.declared.decisions.Mode.{Mode}
use Rattle.sl_lines.specs.declared.actions.Action.{Action}
use Rattle.event_loop.specs.Telling.{asked_said, mode_of, place_codes, request_said, requests_said}

-- nothing was said
pub decides-none : (d : Option (List (ℕ × Decision))) → Decides d d []
decides-none None = tt
decides-none (Some ds) = sym (append-nil ds)

-- these, and then those
both-said : (a b c : Option (List (ℕ × Decision))) (xs ys : List (ℕ × Decision)) → Decides a b xs → Decides b c ys
    → Decides a c (xs ++ ys)
both-said a b None xs ys first then = tt
both-said (Some a) (Some b) (Some c) xs ys first then = then ∙ (ap (λ l. l ++ ys) first ∙ append_assoc a xs ys)
both-said None (Some b) (Some c) xs ys first then = absurd first
both-said (Some a) None (Some c) xs ys first then = absurd then
both-said None None (Some c) xs ys first then = absurd then

pub decides-then : (a b c : Option (List (ℕ × Decision))) (xs ys all : List (ℕ × Decision)) → Decides a b xs
    → Decides b c ys → all ≡ xs ++ ys → Decides a c all
decides-then a b c xs ys all first then is =
    subst (λ l. Decides a c l) (sym is) (both-said a b c xs ys first then)

-- what is said of a station of which something is asked
pub request-told : (config : Config) (port : ℕ) (e : Entry) (action : Action) (codes : AskedCodes) (m : Mode)
    → Some action ≡ e.action → codes ≡ place_codes config e.station → m ≡ mode_of action
    → (port, Reads codes m) ∷ [] ≡ request_said config port e
request-told config port e action codes m asks is how =
    ap₂ (λ (x : AskedCodes) (y : Mode). (port, Reads x y) ∷ []) is how ∙ ap (asked_said config port e.station) asks

-- what is said of one request more
pub requests-more : (config : Config) (port : ℕ) (es : List Entry) (e : Entry)
    → requests_said config port (es ++ e ∷ []) ≡ requests_said config port es ++ request_said config port e
requests-more config port [] e = append-nil (request_said config port e)
requests-more config port (x ∷ xs) e =
    ap (λ l. request_said config port x ++ l) (requests-more config port xs e)
    ∙ sym (append_assoc (request_said config port x) (requests_said config port xs) (request_said config port e))

-- what is said of one seat more
pub cuts-more : (server : ServerValue) (ss : List Seat) (s : Seat)
    → cuts_in server (ss ++ s ∷ []) ≡ cuts_in server ss ++ cut_of server s
cuts-more server [] s = append-nil (cut_of server s)
cuts-more server (x ∷ xs) s =
    ap (λ l. cut_of server x ++ l) (cuts-more server xs s)
    ∙ sym (append_assoc (cut_of server x) (cuts_in server xs) (cut_of server s))
