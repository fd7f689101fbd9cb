-- An offer, and a Take after it, in the world.
use Rattle.std.proofs.Common.{◌≡◌, ℕ, zero, suc, true, false, Bool, ◌&&◌, List, [], ◌∷◌, length, take, drop, refl, sym}
use Rattle.std.proofs.Common.{ap, ap₂, ◌∙◌, Option, Some, None, option_map, slice_get, if◌then◌else◌}
use Rattle.protocol.specs.Catalog.{Config, View}
use Rattle.protocol.specs.History.{Arrival}
use Rattle.protocol.specs.Client.{Client, Taken, offered, after_take, is_nothing, left_with}
use Rattle.protocol.specs.World.{World, Connection, step, at, changed, client_of, taken_by}
use Rattle.protocol.specs.World.Event.{Take}
use Rattle.protocol.proofs.Connections.{slice_get-at_same}
use Rattle.server_core.specs.declared.client.Offer.{Offer}
use Rattle.server_core.specs.Refusals.{offer_of, offer_when}
use Rattle.server_core.specs.ServerValues.{client_of_open, goes_on, handing, open_client_at, open_client_with, taking}
use Rattle.server_core.specs.Runs.{first_waiting, is_over_by}
use Rattle.server_core.proofs.OfferLemmas.{offered-waiting}

-- what an offer does to a client
abbrev offer : List Arrival → View → Client → Client
offer h v c = after_take v h (offered h c) 0

-- the k-th client is offered something
pub offered-there : (config : Config) (w : World) (k : ℕ)
    → client_of (slice_get (step config w (Take k 0)).connections k)
    ≡ option_map (offered w.history) (client_of (slice_get w.connections k))
offered-there config w k = ap client_of (slice_get-at_same w.connections k (changed (offer w.history)))
    ∙ by (slice_get w.connections k)
  where
    inner : (v : View) (o : Option Client) → option_map (offer w.history v) o ≡ option_map (offered w.history) o
    inner v None = refl
    inner v (Some c) = refl

    by : (o : Option Connection) → client_of (option_map (changed (offer w.history)) o)
        ≡ option_map (offered w.history) (client_of o)
    by None = refl
    by (Some x) = inner x.view x.client

-- Changes that do the same to the k-th client do the same.
at-alike : (cs : List Connection) (k : ℕ) (f g : View → Client → Client)
    → ((x : Connection) (c : Client) → slice_get cs k ≡ Some x → x.client ≡ Some c → f x.view c ≡ g x.view c)
    → at cs k (changed f) ≡ at cs k (changed g)
at-alike [] k f g same = refl
at-alike (x ∷ cs) zero f g same = ap (λ o. record x { client = o } ∷ cs) (by x.client refl)
  where
    by : (o : Option Client) → x.client ≡ o → option_map (f x.view) o ≡ option_map (g x.view) o
    by None e = refl
    by (Some c) e = ap Some (same x c refl e)
at-alike (x ∷ cs) (suc k) f g same = ap (λ ys. x ∷ ys) (at-alike cs k f g same)

-- two changes of one connection
at-twice : (cs : List Connection) (k : ℕ) (f g : View → Client → Client)
    → ((x : Connection) (c : Client) → slice_get cs k ≡ Some x → x.client ≡ Some c → g x.view (f x.view c) ≡ g x.view c)
    → at (at cs k (changed f)) k (changed g) ≡ at cs k (changed g)
at-twice [] k f g same = refl
at-twice (x ∷ cs) zero f g same = ap (λ o. record x { client = o } ∷ cs) (by x.client refl)
  where
    by : (o : Option Client) → x.client ≡ o → option_map (g x.view) (option_map (f x.view) o) ≡ option_map (g x.view) o
    by None e = refl
    by (Some c) e = ap Some (same x c refl e)
at-twice (x ∷ cs) (suc k) f g same = ap (λ ys. x ∷ ys) (at-twice cs k f g same)

-- a Take after an offer that found something is that Take alone
pub offer-then-take : (config : Config) (w : World) (k n : ℕ)
    → ((c : Client) → client_of (slice_get w.connections k) ≡ Some c → is_nothing (offered w.history c).waiting ≡ false)
    → step config (step config w (Take k 0)) (Take k n) ≡ step config w (Take k n)
offer-then-take config w k n some =
    ap (λ cs. record w { connections = cs })
    (at-twice w.connections k (offer w.history) (λ v c. after_take v w.history (offered w.history c) n)
    (λ x c there client. ap (λ y. after_take x.view w.history y n)
    (sym (offered-waiting w.history (offered w.history c) (some c (ap client_of there ∙ client))))))

-- two changes of one connection, as one
pub at-composed : (cs : List Connection) (k : ℕ) (f g : View → Client → Client)
    → at (at cs k (changed f)) k (changed g) ≡ at cs k (changed (λ v c. g v (f v c)))
at-composed [] k f g = refl
at-composed (x ∷ cs) zero f g = ap (λ o. record x { client = o } ∷ cs) (by x.client)
  where
    by : (o : Option Client) → option_map (g x.view) (option_map (f x.view) o)
        ≡ option_map (λ c. g x.view (f x.view c)) o
    by None = refl
    by (Some c) = refl
at-composed (x ∷ cs) (suc k) f g = ap (λ ys. x ∷ ys) (at-composed cs k f g)

-- a Take, and an offer after it
pub take-then-offer : (config : Config) (w : World) (k n : ℕ)
    → record w { connections = at w.connections k (changed (handing w.history n)) }
    ≡ step config (step config w (Take k n)) (Take k 0)
unfolding taking
take-then-offer config w k n =
    ap (λ cs. record w { connections = cs })
    (sym (at-composed w.connections k (λ v c. after_take v w.history (offered w.history c) n) (offer w.history)))

-- the client after a Take
pub taken-there : (config : Config) (w : World) (k n : ℕ)
    → client_of (slice_get (step config w (Take k n)).connections k)
    ≡ client_of_open (goes_on (taking w.history n) (open_client_at (slice_get w.connections k)))
unfolding taking
taken-there config w k n =
    ap client_of (slice_get-at_same w.connections k (changed (λ v c. after_take v w.history (offered w.history c) n)))
    ∙ by (slice_get w.connections k)
  where
    inner : (v : View) (o : Option Client)
        → option_map (λ c. after_take v w.history (offered w.history c) n) o
        ≡ client_of_open (goes_on (λ u c. after_take u w.history (offered w.history c) n) (open_client_with v o))
    inner v None = refl
    inner v (Some c) = refl

    by : (o : Option Connection)
        → client_of (option_map (changed (λ v c. after_take v w.history (offered w.history c) n)) o)
        ≡ client_of_open (goes_on (λ u c. after_take u w.history (offered w.history c) n) (open_client_at o))
    by None = refl
    by (Some x) = inner x.view x.client

-- A client that is not there is not there after it went on.
pub gone-still : (f : View → Client → Client) (x : Option Connection) → None ≡ client_of x
    → None ≡ client_of_open (goes_on f (open_client_at x))
gone-still f None e = refl
gone-still f (Some x) e = by x.client e
  where
    by : (o : Option Client) → None ≡ o → None ≡ client_of_open (goes_on f (open_client_with x.view o))
    by None e = refl
    by (Some c) e = absurd cc

-- What changes the k-th client in nothing changes nothing.
pub same-at : (cs : List Connection) (k : ℕ) (f : View → Client → Client)
    → ((x : Connection) (c : Client) → slice_get cs k ≡ Some x → x.client ≡ Some c → f x.view c ≡ c)
    → at cs k (changed f) ≡ cs
same-at [] k f same = refl
same-at (x ∷ cs) zero f same = ap (λ y. y ∷ cs) (ap (λ o. record x { client = o }) (by x.client refl))
  where
    by : (o : Option Client) → x.client ≡ o → option_map (f x.view) o ≡ x.client
    by None e = sym e
    by (Some c) e = ap Some (same x c refl e) ∙ sym e
same-at (x ∷ cs) (suc k) f same = ap (λ ys. x ∷ ys) (same-at cs k f same)

-- Where an offer changes the client in nothing, it changes nothing.
pub idle-offer : (config : Config) (w : World) (k : ℕ)
    → ((c : Client) → client_of (slice_get w.connections k) ≡ Some c → offered w.history c ≡ c)
    → step config w (Take k 0) ≡ w
idle-offer config w k same = ap (λ cs. record w { connections = cs })
    (same-at w.connections k (offer w.history) (λ x c there client. same c (ap client_of there ∙ client)))

-- ---- so many bytes, or all that wait

taken-length : (n : ℕ) (xs : List ℕ) → take (length (take n xs)) xs ≡ take n xs
taken-length zero xs = refl
taken-length (suc n) [] = refl
taken-length (suc n) (x ∷ xs) = ap (λ ys. x ∷ ys) (taken-length n xs)

dropped-length : (n : ℕ) (xs : List ℕ) → drop (length (take n xs)) xs ≡ drop n xs
dropped-length zero xs = refl
dropped-length (suc n) [] = refl
dropped-length (suc n) (x ∷ xs) = dropped-length n xs

nothing-taken : (n : ℕ) (xs : List ℕ) → is_nothing (take n xs) ≡ false → is_nothing xs ≡ false
nothing-taken zero [] e = absurd cc
nothing-taken (suc n) [] e = absurd cc
nothing-taken n (x ∷ xs) e = refl

-- the bytes of a client that is offered something
first-offered : (config : Config) (w : World) (k n : ℕ) (bytes : List ℕ)
    → bytes ≡ first_waiting n (client_of (slice_get (step config w (Take k 0)).connections k)) → (c : Client)
    → client_of (slice_get w.connections k) ≡ Some c → bytes ≡ take n (offered w.history c).waiting
first-offered config w k n bytes is c there =
    is ∙ ap (first_waiting n) (offered-there config w k ∙ ap (option_map (offered w.history)) there)

-- What was offered and then taken as far as it was copied is what a Take takes.
pub some-taken : (config : Config) (w : World) (k n : ℕ) (bytes : List ℕ)
    → bytes ≡ first_waiting n (client_of (slice_get (step config w (Take k 0)).connections k))
    → is_nothing bytes ≡ false → step config (step config w (Take k 0)) (Take k (length bytes))
    ≡ step config w (Take k n)
some-taken config w k n bytes is some =
    offer-then-take config w k (length bytes)
    (λ c there. nothing-taken n (offered w.history c).waiting
    (sym (ap is_nothing (first-offered config w k n bytes is c there)) ∙ some))
    ∙ ap (λ cs. record w { connections = cs })
    (at-alike w.connections k (λ v c. after_take v w.history (offered w.history c) (length bytes))
    (λ v c. after_take v w.history (offered w.history c) n)
    (λ x c there client.
    let d : Client = offered w.history c in
    let e = first-offered config w k n bytes is c (ap client_of there ∙ client) in
    ap (λ m. after_take x.view w.history d m) (ap length e)
    ∙ ap₂ (λ (a b : List ℕ). if is_nothing a then d else left_with x.view w.history d b) (taken-length n d.waiting)
    (dropped-length n d.waiting)))

-- Where nothing was offered, a Take is an offer.
pub none-taken : (config : Config) (w : World) (k n : ℕ) (bytes : List ℕ)
    → bytes ≡ first_waiting n (client_of (slice_get (step config w (Take k 0)).connections k)) → is_nothing bytes ≡ true
    → step config w (Take k 0) ≡ step config w (Take k n)
none-taken config w k n bytes is none =
    ap (λ cs. record w { connections = cs })
    (at-alike w.connections k (offer w.history) (λ v c. after_take v w.history (offered w.history c) n)
    (λ x c there client.
    let d : Client = offered w.history c in
    let e = first-offered config w k n bytes is c (ap client_of there ∙ client) in
    ap (λ (b : Bool). if b then d else left_with x.view w.history d (drop n d.waiting)) (sym none ∙ ap is_nothing e)))

-- ---- what is handed

over-when : (a b : Bool) → is_over_by (Some (offer_when a b)) ≡ (a && b)
over-when true true = refl
over-when true false = refl
over-when false b = refl

pub taken-told : (config : Config) (w : World) (k n : ℕ) (bytes : List ℕ) (found : Option Offer)
    → bytes ≡ first_waiting n (client_of (slice_get (step config w (Take k 0)).connections k))
    → found ≡ option_map (λ c. offer_of (offered w.history c)) (client_of (slice_get w.connections k))
    → record { bytes = bytes; ended = is_over_by found } ≡ taken_by w.history (client_of (slice_get w.connections k)) n
taken-told config w k n bytes found is finds =
    by (client_of (slice_get w.connections k)) (is ∙ ap (first_waiting n) (offered-there config w k)) finds
  where
    by : (o : Option Client) → bytes ≡ first_waiting n (option_map (offered w.history) o)
        → found ≡ option_map (λ c. offer_of (offered w.history c)) o
        → record { bytes = bytes; ended = is_over_by found } ≡ taken_by w.history o n
    by None b f =
        ap₂ (λ (x : List ℕ) (y : Option Offer). let t : Taken = record { bytes = x; ended = is_over_by y } in t) b f
    by (Some c) b f =
        ap₂ (λ (x : List ℕ) (y : Option Offer). let t : Taken = record { bytes = x; ended = is_over_by y } in t) b f
        ∙ ap (λ y. let t : Taken = record { bytes = take n (offered w.history c).waiting; ended = y } in t)
        (over-when _ _)
