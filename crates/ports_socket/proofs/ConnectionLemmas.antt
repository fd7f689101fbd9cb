-- What each connection holds after a change of one of them.
use Rattle.std.proofs.Common.{◌≡◌, ◌≢◌, ℕ, zero, suc, ◌<◌, ◌==◌, not, Bool, true, false}
use Rattle.std.proofs.Common.{List, [], ◌∷◌, get_or, set, length, if◌then◌else◌}
use Rattle.std.proofs.Common.{Result, refl, sym, ap, subst, ◌∙◌, arith}
use Rattle.std.specs.List.{Contains, remove}
use Rattle.std.proofs.lemmas.Bool.Decides.{nat_tests}
use Rattle.ports.specs.declared.answers.Got.{Got}
use Rattle.ports.specs.declared.answers.PortFault.{PortFault}
use Rattle.ports.specs.declared.answers.Put.{Put}
use Rattle.ports_socket.specs.declared.connection.Connection.{Connection}
use Rattle.ports_socket.specs.Connections.{ConnectionValue, OnlySends, ReadsFrom, WritesTo, ahead_at, ahead_in, all_but}
use Rattle.ports_socket.specs.Connections.{held_at, numbers, socket_of, sockets_of, value_of, values, waiting_at}
use Rattle.ports_socket.specs.Places.{AreAbove, AreOthers, IsPlaceOf, Rise}
use Rattle.ports_socket.specs.Reads.{GivesInOrder}
use Rattle.ports_socket.specs.Waiting.{HaveGone, TakesInOrder, waiting_in}
use Rattle.ports_socket.proofs.PlaceLemmas.{above-at}
use Rattle.ports_socket.proofs.TableLemmas.{numbers_in}
use Rattle.ports_socket.proofs.WaitingLemmas.{gone_none}

-- ---- whose number it is

pub is-same : (a b : ℕ) → a ≡ b → (a == b) ≡ true
is-same a b e = grind (arith, nat_tests)

pub is-other : (a b : ℕ) → a ≢ b → (a == b) ≡ false
is-other a b ne = grind (arith, nat_tests)

abbrev kept : ConnectionValue → List ConnectionValue → Bool → List ConnectionValue
kept c cs same = if not same then c ∷ cs else cs

-- where none has the number none goes
pub all_but-none : (n : ℕ) (cs : List Connection) → AreOthers n (numbers_in cs)
    → all_but n (values cs) ≡ values cs
all_but-none n [] h = refl
all_but-none n (c ∷ cs) h =
    ap (kept (value_of c) (all_but n (values cs))) (is-other c.number n (h 0 (omega arith)))
    ∙ ap (λ l. value_of c ∷ l) (all_but-none n cs (λ j lt. h (suc j) (omega (arith, lt))))

all_but-above : (n : ℕ) (cs : List Connection) → AreAbove n (numbers_in cs) → all_but n (values cs) ≡ values cs
all_but-above n cs h =
    all_but-none n cs (λ j lt same. absurd (omega (arith, above-at n (numbers_in cs) h j lt, same)))

-- the one that is found goes
pub all_but-found : (n : ℕ) (cs : List Connection) (at : ℕ) → Rise (numbers_in cs) → IsPlaceOf n (numbers_in cs) at
    → values (remove cs at) ≡ all_but n (values cs)
all_but-found n [] at h is = absurd (omega (arith, is.inside))
all_but-found n (c ∷ cs) zero h is =
    let same : c.number ≡ n = is.has_number in
    sym (ap (kept (value_of c) (all_but n (values cs))) (is-same c.number n same)
    ∙ all_but-above n cs (subst (λ m. AreAbove m (numbers_in cs)) same h.0))
all_but-found n (c ∷ cs) (suc at) h is =
    let inside : at < length (numbers_in cs) = omega (arith, is.inside) in
    let here : get_or (numbers_in cs) at 0 ≡ n = is.has_number in
    let lower : c.number < n = subst (λ m. c.number < m) here (above-at c.number (numbers_in cs) h.0 at inside) in
    let other : c.number ≢ n = omega (arith, lower) in
    ap (λ l. value_of c ∷ l) (all_but-found n cs at h.1 (record { inside = inside; has_number = here }))
    ∙ sym (ap (kept (value_of c) (all_but n (values cs))) (is-other c.number n other))

pub contains-at : (n : ℕ) (cs : List Connection) (at : ℕ) → IsPlaceOf n (numbers_in cs) at
    → Contains (numbers (values cs)) n
contains-at n [] at is = absurd (omega (arith, is.inside))
contains-at n (c ∷ cs) zero is = (0, omega arith, is.has_number)
contains-at n (c ∷ cs) (suc at) is =
    let rest = contains-at n cs at (record { inside = omega (arith, is.inside); has_number = is.has_number }) in
    (suc rest.0, omega (arith, rest.1), rest.2)

-- ---- what is held after a change of one connection

-- one connection was changed, and keeps its number and socket
pub record IsChanged (n : ℕ) (cs : List Connection) (at : ℕ) (c new : Connection) : Type 0 where
  pub rise : Rise (numbers_in cs)
  pub place : IsPlaceOf n (numbers_in cs) at
  pub read : c ≡ get_or cs at c
  pub socket : socket_of new ≡ socket_of c

held-here : (held : ConnectionValue → List ℕ) (n : ℕ) (c : Connection) (cs : List Connection) → c.number ≡ n
    → held_at held n (values (c ∷ cs)) ≡ held (value_of c)
held-here held n c cs same =
    ap (λ b. if b then held (value_of c) else held_at held n (values cs)) (is-same c.number n same)

held-past : (held : ConnectionValue → List ℕ) (n : ℕ) (c : Connection) (cs : List Connection) → c.number ≢ n
    → held_at held n (values (c ∷ cs)) ≡ held_at held n (values cs)
held-past held n c cs other =
    ap (λ b. if b then held (value_of c) else held_at held n (values cs)) (is-other c.number n other)

held-at : (held : ConnectionValue → List ℕ) (n : ℕ) (cs : List Connection) (at : ℕ) (c : Connection)
    → Rise (numbers_in cs) → IsPlaceOf n (numbers_in cs) at → c ≡ get_or cs at c
    → held_at held n (values cs) ≡ held (value_of c)
held-at held n [] at c rise is read = absurd (omega (arith, is.inside))
held-at held n (x ∷ xs) zero c rise is read =
    held-here held n x xs is.has_number ∙ ap (λ (y : Connection). held (value_of y)) (sym read)
held-at held n (x ∷ xs) (suc at) c rise is read =
    let inside : at < length (numbers_in xs) = omega (arith, is.inside) in
    let here : get_or (numbers_in xs) at 0 ≡ n = is.has_number in
    let lower : x.number < n = subst (λ m. x.number < m) here (above-at x.number (numbers_in xs) rise.0 at inside) in
    let other : x.number ≢ n = omega (arith, lower) in
    held-past held n x xs other ∙ held-at held n xs at c rise.1 (record { inside = inside; has_number = here }) read

number-at : (n : ℕ) (cs : List Connection) (at : ℕ) (c : Connection) → IsPlaceOf n (numbers_in cs) at
    → c ≡ get_or cs at c → c.number ≡ n
number-at n [] at c is read = absurd (omega (arith, is.inside))
number-at n (x ∷ xs) zero c is read = ap (λ (y : Connection). y.number) read ∙ is.has_number
number-at n (x ∷ xs) (suc at) c is read =
    number-at n xs at c (record { inside = omega (arith, is.inside); has_number = is.has_number }) read

number-of : (n : ℕ) (cs : List Connection) (at : ℕ) (c new : Connection) → IsChanged n cs at c new → c.number ≡ n
number-of n cs at c new h = number-at n cs at c h.place h.read

pub number-of-new : (n : ℕ) (cs : List Connection) (at : ℕ) (c new : Connection) → IsChanged n cs at c new
    → new.number ≡ n
number-of-new n cs at c new h = ap (λ s. s.0) h.socket ∙ number-of n cs at c new h

above-set : (n : ℕ) (cs : List Connection) (at : ℕ) (c : Connection) → AreAbove n (numbers_in cs)
    → c.number ≡ get_or (numbers_in cs) at 0 → AreAbove n (numbers_in (set cs at c))
above-set n [] at c h e = tt
above-set n (x ∷ xs) zero c h e = (subst (λ m. n < m) (sym e) h.0, h.1)
above-set n (x ∷ xs) (suc at) c h e = (h.0, above-set n xs at c h.1 e)

rise-set-at : (cs : List Connection) (at : ℕ) (c : Connection) → Rise (numbers_in cs)
    → c.number ≡ get_or (numbers_in cs) at 0 → Rise (numbers_in (set cs at c))
rise-set-at [] at c h e = tt
rise-set-at (x ∷ xs) zero c h e = (subst (λ m. AreAbove m (numbers_in xs)) (sym e) h.0, h.1)
rise-set-at (x ∷ xs) (suc at) c h e = (above-set x.number xs at c h.0 e, rise-set-at xs at c h.1 e)

pub rise-set : (n : ℕ) (cs : List Connection) (at : ℕ) (c new : Connection) → IsChanged n cs at c new
    → Rise (numbers_in (set cs at new))
rise-set n cs at c new h = rise-set-at cs at new h.rise (number-of-new n cs at c new h ∙ sym h.place.has_number)

pub place-set : (n : ℕ) (cs : List Connection) (at : ℕ) (new : Connection) → IsPlaceOf n (numbers_in cs) at
    → new.number ≡ n
    → IsPlaceOf n (numbers_in (set cs at new)) at × (new ≡ get_or (set cs at new) at new)
place-set n [] at new is e = absurd (omega (arith, is.inside))
place-set n (x ∷ xs) zero new is e = (record { inside = omega arith; has_number = e }, refl)
place-set n (x ∷ xs) (suc at) new is e =
    let rest = place-set n xs at new (record { inside = omega (arith, is.inside); has_number = is.has_number }) e in
    (record { inside = omega (arith, rest.0.inside); has_number = rest.0.has_number }, rest.1)

-- the connection itself
held-new : (held : ConnectionValue → List ℕ) (n : ℕ) (cs : List Connection) (at : ℕ) (c new : Connection)
    → IsChanged n cs at c new → held_at held n (values (set cs at new)) ≡ held (value_of new)
held-new held n cs at c new h =
    let there = place-set n cs at new h.place (number-of-new n cs at c new h) in
    held-at held n (set cs at new) at new (rise-set n cs at c new h) there.0 there.1

held-old : (held : ConnectionValue → List ℕ) (n : ℕ) (cs : List Connection) (at : ℕ) (c new : Connection)
    → IsChanged n cs at c new → held_at held n (values cs) ≡ held (value_of c)
held-old held n cs at c new h = held-at held n cs at c h.rise h.place h.read

-- all others
held-other-at : (held : ConnectionValue → List ℕ) (n m : ℕ) (cs : List Connection) (at : ℕ) (new : Connection)
    → IsPlaceOf n (numbers_in cs) at → new.number ≡ n → m ≢ n
    → held_at held m (values (set cs at new)) ≡ held_at held m (values cs)
held-other-at held n m [] at new is e other = refl
held-other-at held n m (x ∷ xs) zero new is e other =
    held-past held m new xs (λ same. other (sym same ∙ e))
    ∙ sym (held-past held m x xs (λ same. other (sym same ∙ is.has_number)))
held-other-at held n m (x ∷ xs) (suc at) new is e other =
    ap (λ l. if (x.number == m) then held (value_of x) else l)
    (held-other-at held n m xs at new (record { inside = omega (arith, is.inside); has_number = is.has_number }) e
    other)

held-other : (held : ConnectionValue → List ℕ) (n m : ℕ) (cs : List Connection) (at : ℕ) (c new : Connection)
    → IsChanged n cs at c new → m ≢ n → held_at held m (values (set cs at new)) ≡ held_at held m (values cs)
held-other held n m cs at c new h other =
    held-other-at held n m cs at new h.place (number-of-new n cs at c new h) other

-- what did not change is held as before, by all
held-same-at : (held : ConnectionValue → List ℕ) (m : ℕ) (cs : List Connection) (at : ℕ) (c new : Connection)
    → c ≡ get_or cs at c → new.number ≡ c.number → held (value_of new) ≡ held (value_of c)
    → held_at held m (values (set cs at new)) ≡ held_at held m (values cs)
held-same-at held m [] at c new read e same = refl
held-same-at held m (x ∷ xs) zero c new read e same =
    let rest : List ℕ = held_at held m (values xs) in
    ap (λ k. if (k == m) then held (value_of new) else rest) (e ∙ ap (λ (y : Connection). y.number) read)
    ∙ ap (λ l. if (x.number == m) then l else rest) (same ∙ ap (λ (y : Connection). held (value_of y)) read)
held-same-at held m (x ∷ xs) (suc at) c new read e same =
    ap (λ l. if (x.number == m) then held (value_of x) else l) (held-same-at held m xs at c new read e same)

held-same : (held : ConnectionValue → List ℕ) (n m : ℕ) (cs : List Connection) (at : ℕ) (c new : Connection)
    → IsChanged n cs at c new → held (value_of new) ≡ held (value_of c)
    → held_at held m (values (set cs at new)) ≡ held_at held m (values cs)
held-same held n m cs at c new h same = held-same-at held m cs at c new h.read (ap (λ s. s.0) h.socket) same

gone-if : (b : Bool) (waiting left rest : List ℕ) → HaveGone waiting left
    → HaveGone (if b then waiting else rest) (if b then left else rest)
gone-if true waiting left rest h = h
gone-if false waiting left rest h = gone_none rest rest refl

gone-else : (b : Bool) (waiting rest left : List ℕ) → HaveGone rest left
    → HaveGone (if b then waiting else rest) (if b then waiting else left)
gone-else true waiting rest left h = gone_none waiting waiting refl
gone-else false waiting rest left h = h

-- bytes that went from one connection
gone-at : (m : ℕ) (cs : List Connection) (at : ℕ) (c new : Connection) → c ≡ get_or cs at c → new.number ≡ c.number
    → HaveGone (waiting_in c.unsent) (waiting_in new.unsent)
    → HaveGone (waiting_at m (values cs)) (waiting_at m (values (set cs at new)))
gone-at m [] at c new read e h = gone_none [] [] refl
gone-at m (x ∷ xs) zero c new read e h =
    let rest : List ℕ = waiting_at m (values xs) in
    let at_x : HaveGone (waiting_in x.unsent) (waiting_in new.unsent) =
    subst (λ (y : Connection). HaveGone (waiting_in y.unsent) (waiting_in new.unsent)) read h in
    let number : x.number ≡ new.number = sym (e ∙ ap (λ (y : Connection). y.number) read) in
    subst (λ k. HaveGone (if (x.number == m) then waiting_in x.unsent else rest)
    (if (k == m) then waiting_in new.unsent else rest)) number
    (gone-if (x.number == m) (waiting_in x.unsent) (waiting_in new.unsent) rest at_x)
gone-at m (x ∷ xs) (suc at) c new read e h =
    gone-else (x.number == m) (waiting_in x.unsent) (waiting_at m (values xs))
    (waiting_at m (values (set xs at new))) (gone-at m xs at c new read e h)

sockets-at : (cs : List Connection) (at : ℕ) (c new : Connection) → c ≡ get_or cs at c → socket_of new ≡ socket_of c
    → sockets_of (values (set cs at new)) ≡ sockets_of (values cs)
sockets-at [] at c new read e = refl
sockets-at (x ∷ xs) zero c new read e =
    ap (λ s. s ∷ sockets_of (values xs)) (e ∙ ap (λ (y : Connection). socket_of y) read)
sockets-at (x ∷ xs) (suc at) c new read e = ap (λ l. socket_of x ∷ l) (sockets-at xs at c new read e)

values-at : (cs : List Connection) (at : ℕ) (c new : Connection) → c ≡ get_or cs at c → value_of new ≡ value_of c
    → values (set cs at new) ≡ values cs
values-at [] at c new read e = refl
values-at (x ∷ xs) zero c new read e =
    ap (λ v. v ∷ values xs) (e ∙ ap (λ (y : Connection). value_of y) read)
values-at (x ∷ xs) (suc at) c new read e = ap (λ l. value_of x ∷ l) (values-at xs at c new read e)

-- ---- the calls on one connection

pub sockets-set : (n : ℕ) (cs : List Connection) (at : ℕ) (c new : Connection) → IsChanged n cs at c new
    → sockets_of (values (set cs at new)) ≡ sockets_of (values cs)
sockets-set n cs at c new h = sockets-at cs at c new h.read h.socket

pub values-set : (n : ℕ) (cs : List Connection) (at : ℕ) (c new : Connection) → IsChanged n cs at c new
    → value_of new ≡ value_of c → values (set cs at new) ≡ values cs
values-set n cs at c new h same = values-at cs at c new h.read same

pub sends-set : (n : ℕ) (cs : List Connection) (at : ℕ) (c new : Connection) → IsChanged n cs at c new
    → HaveGone (waiting_in c.unsent) (waiting_in new.unsent) → new.ahead ≡ c.ahead
    → OnlySends (values cs) (values (set cs at new))
sends-set n cs at c new h gone ahead = record {
  waiting = λ m. gone-at m cs at c new h.read (ap (λ s. s.0) h.socket) gone;
  ahead = λ m. held-same (λ v. v.ahead) n m cs at c new h (ap ahead_in ahead);
}

pub writes-set : (n : ℕ) (cs : List Connection) (at : ℕ) (c new : Connection) (bytes : List ℕ)
    (answer : Result Put PortFault) → IsChanged n cs at c new
    → TakesInOrder (waiting_in c.unsent) bytes answer (waiting_in new.unsent) → new.ahead ≡ c.ahead
    → WritesTo n bytes answer (values cs) (values (set cs at new))
writes-set n cs at c new bytes answer h takes ahead = record {
  takes =
      let before = held-old (λ v. v.waiting) n cs at c new h in
      let after = held-new (λ v. v.waiting) n cs at c new h in
      subst (λ l. TakesInOrder l bytes answer (waiting_at n (values (set cs at new)))) (sym before)
      (subst (λ l. TakesInOrder (waiting_in c.unsent) bytes answer l) (sym after) takes);
  others = λ m other. gone_none _ _ (held-other (λ v. v.waiting) n m cs at c new h other);
  ahead = λ m. held-same (λ v. v.ahead) n m cs at c new h (ap ahead_in ahead);
  closed = λ none. absurd (none (contains-at n cs at h.place));
}

pub reads-set : (n : ℕ) (cs : List Connection) (at : ℕ) (c new : Connection) (answer : Result Got PortFault)
    (given : List ℕ) → IsChanged n cs at c new → GivesInOrder (ahead_in c.ahead) given (ahead_in new.ahead)
    → new.unsent ≡ c.unsent → ReadsFrom n answer given (values cs) (values (set cs at new))
reads-set n cs at c new answer given h gives unsent = record {
  gives =
      let before = held-old (λ v. v.ahead) n cs at c new h in
      let after = held-new (λ v. v.ahead) n cs at c new h in
      subst (λ l. GivesInOrder l given (ahead_at n (values (set cs at new)))) (sym before)
      (subst (λ l. GivesInOrder (ahead_in c.ahead) given l) (sym after) gives);
  others = λ m other. held-other (λ v. v.ahead) n m cs at c new h other;
  waiting = λ m. gone_none _ _ (held-same (λ v. v.waiting) n m cs at c new h (ap waiting_in unsent));
  closed = λ none. absurd (none (contains-at n cs at h.place));
}
