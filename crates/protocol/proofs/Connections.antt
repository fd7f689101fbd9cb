-- Connections by their numbers, and events one after the other.
use Rattle.std.proofs.Common.{◌≡◌, ℕ, zero, suc, ◌<◌, ◌≤◌, ◌==◌, nat_lt, is_some, true, List, [], ◌∷◌, ◌++◌, length}
use Rattle.std.proofs.Common.{map, Some, None, option_map, slice_get, refl, sym, ap, ◌∙◌, subst, eqb-true, arith}
use Rattle.std.proofs.lemmas.Bool.{ltb-true, ltb-false}
use Rattle.protocol.specs.Catalog.{Config}
use Rattle.protocol.proofs.Places.{slice_get-seam}
use Rattle.protocol.proofs.FoundLemmas.{both}
use Rattle.protocol.specs.World.{World, Event, Connection, at, config_by, config_after, step, world_from, handed_from}
use Rattle.protocol.specs.World.{told, taken_by, client_of}
use Rattle.protocol.specs.World.Event.{Open, Bytes, Take, Close, Arrive, Reload}

-- ---- connections by their numbers
pub length-at : (cs : List Connection) (j : ℕ) (f : Connection → Connection) → length (at cs j f) ≡ length cs
length-at [] j f = refl
length-at (c ∷ cs) zero f = refl
length-at (c ∷ cs) (suc j) f = ap suc (length-at cs j f)

pub slice_get-at_same : (cs : List Connection) (k : ℕ) (f : Connection → Connection)
    → slice_get (at cs k f) k ≡ option_map f (slice_get cs k)
slice_get-at_same [] k f = refl
slice_get-at_same (c ∷ cs) zero f = refl
slice_get-at_same (c ∷ cs) (suc k) f = slice_get-at_same cs k f

pub slice_get-at_apart : (cs : List Connection) (j k : ℕ) (f : Connection → Connection) → (j ≡ k → ⊥)
    → slice_get (at cs j f) k ≡ slice_get cs k
slice_get-at_apart [] j k f apart = refl
slice_get-at_apart (c ∷ cs) zero zero f apart = absurd (apart refl)
slice_get-at_apart (c ∷ cs) zero (suc k) f apart = refl
slice_get-at_apart (c ∷ cs) (suc j) zero f apart = refl
slice_get-at_apart (c ∷ cs) (suc j) (suc k) f apart = slice_get-at_apart cs j k f (λ e. apart (ap suc e))

pub slice_get-at_here : (cs : List Connection) (j k : ℕ) (f : Connection → Connection) → (j == k) ≡ true
    → slice_get (at cs j f) k ≡ option_map f (slice_get cs k)
slice_get-at_here cs j k f e =
    subst (λ i. slice_get (at cs i f) k ≡ option_map f (slice_get cs k)) (sym (eqb-true j k e))
    (slice_get-at_same cs k f)

pub slice_get-push_last : (cs : List Connection) (x : Connection) → slice_get (cs ++ x ∷ []) (length cs) ≡ Some x
slice_get-push_last cs x = slice_get-seam cs x []

pub slice_get-push_here : (cs : List Connection) (x : Connection) (k : ℕ) → (length cs == k) ≡ true
    → slice_get (cs ++ x ∷ []) k ≡ Some x
slice_get-push_here cs x k e =
    subst (λ i. slice_get (cs ++ x ∷ []) i ≡ Some x) (eqb-true _ _ e) (slice_get-push_last cs x)

pub slice_get-length : (cs : List Connection) → slice_get cs (length cs) ≡ None
slice_get-length [] = refl
slice_get-length (c ∷ cs) = slice_get-length cs

pub slice_get-push_apart : (cs : List Connection) (x : Connection) (k : ℕ) → (length cs ≡ k → ⊥)
    → slice_get (cs ++ x ∷ []) k ≡ slice_get cs k
slice_get-push_apart [] x zero apart = absurd (apart refl)
slice_get-push_apart [] x (suc k) apart = refl
slice_get-push_apart (c ∷ cs) x zero apart = refl
slice_get-push_apart (c ∷ cs) x (suc k) apart = slice_get-push_apart cs x k (λ e. apart (ap suc e))

pub at_past_the_end : (cs : List Connection) (k : ℕ) (f : Connection → Connection) → length cs ≤ k → at cs k f ≡ cs
at_past_the_end [] k f past = refl
at_past_the_end (c ∷ cs) zero f past = absurd (omega arith)
at_past_the_end (c ∷ cs) (suc k) f past = ap (λ xs. c ∷ xs) (at_past_the_end cs k f (omega arith))

pub none_past_the_end : (cs : List Connection) (k : ℕ) → length cs ≤ k → slice_get cs k ≡ None
none_past_the_end [] k past = refl
none_past_the_end (c ∷ cs) zero past = absurd (omega arith)
none_past_the_end (c ∷ cs) (suc k) past = none_past_the_end cs k (omega arith)

pub slice_get-each : (cs : List Connection) (k : ℕ) (f : Connection → Connection)
    → slice_get (map f cs) k ≡ option_map f (slice_get cs k)
slice_get-each [] k f = refl
slice_get-each (c ∷ cs) zero f = refl
slice_get-each (c ∷ cs) (suc k) f = slice_get-each cs k f

pub length-each : (cs : List Connection) (f : Connection → Connection) → length (map f cs) ≡ length cs
length-each [] f = refl
length-each (c ∷ cs) f = ap suc (length-each cs f)

some_below : (cs : List Connection) (k : ℕ) → k < length cs → is_some (slice_get cs k) ≡ true
some_below [] k below = absurd (omega arith)
some_below (c ∷ cs) zero below = refl
some_below (c ∷ cs) (suc k) below = some_below cs k (omega arith)

-- those that were opened are there
pub there_below : (cs : List Connection) (k : ℕ) → nat_lt k (length cs) ≡ is_some (slice_get cs k)
there_below cs k =
    both (nat_lt k (length cs))
    (λ y. y ∙ sym (some_below cs k (ltb-true k (length cs) y)))
    (λ n. n ∙ sym (ap is_some (none_past_the_end cs k (ltb-false k (length cs) n))))

-- ---- events one after the other
pub config_after-append : (config : Config) (es more : List Event)
    → config_after config (es ++ more) ≡ config_after (config_after config es) more
config_after-append config [] more = refl
config_after-append config (e ∷ es) more = config_after-append (config_by config e) es more

pub world_from-append : (config : Config) (w : World) (es more : List Event)
    → world_from config w (es ++ more) ≡ world_from (config_after config es) (world_from config w es) more
world_from-append config w [] more = refl
world_from-append config w (e ∷ es) more = world_from-append (config_by config e) (step config w e) es more

pub handed_from-append : (config : Config) (w : World) (es more : List Event)
    → handed_from config w (es ++ more)
    ≡ handed_from config w es ++ handed_from (config_after config es) (world_from config w es) more
handed_from-append config w [] more = refl
handed_from-append config w (Open a ∷ es) more = handed_from-append config (step config w (Open a)) es more
handed_from-append config w (Bytes k bytes ∷ es) more =
    handed_from-append config (step config w (Bytes k bytes)) es more
handed_from-append config w (Take k n ∷ es) more =
    ap (λ l. told k (taken_by w.history (client_of (slice_get w.connections k)) n) ∷ l)
    (handed_from-append config (step config w (Take k n)) es more)
handed_from-append config w (Close k ∷ es) more = handed_from-append config (step config w (Close k)) es more
handed_from-append config w (Arrive r ∷ es) more = handed_from-append config (step config w (Arrive r)) es more
handed_from-append config w (Reload new ∷ es) more =
    handed_from-append (config_by config (Reload new)) (step config w (Reload new)) es more
