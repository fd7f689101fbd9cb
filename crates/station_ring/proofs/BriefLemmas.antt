-- Records and their briefs, side by side.
use Rattle.std.proofs.Common.{◌≡◌, ℕ, ◌+◌, ◌-◌, ◌<◌, ◌≤◌, zero, suc, inl, inr, ◌⊎◌, List, [], ◌∷◌, ◌++◌, length, take}
use Rattle.std.proofs.Common.{drop}
use Rattle.std.proofs.Common.{refl, sym, ap, ◌∙◌, subst, arith, Some, None, Option, slice_get, length-append}
use Rattle.std.proofs.Common.{length-drop}
use Rattle.std.proofs.lemmas.List.{drop-append-le, take_all}
use Rattle.std.specs.Prelude.{IfSome}
use Rattle.station_ring.specs.declared.held.Brief.{Brief}
use Rattle.station_ring.specs.declared.held.Held.{Held}
use Rattle.station_ring.specs.declared.held.Stream.{Stream}
use Rattle.station_ring.specs.Rings.{RingValue, first_place}
use Rattle.station_ring.proofs.GrowthLemmas.{held_at-low}
use Rattle.station_ring.specs.Blocks.{keep_last}
use Rattle.station_ring.specs.Briefs.{AreBriefs, Tells, TellFrom, stream_of}

-- ---- lists

module _ {A : Type 0} where
  pub get-within : (xs : List A) (k : ℕ) (x : A) → slice_get xs k ≡ Some x → k < length xs
  get-within [] k x e = absurd cc
  get-within (y ∷ xs) zero x e = omega arith
  get-within (y ∷ xs) (suc k) x e = let more = get-within xs k x e in omega arith

  pub get-drop : (n k : ℕ) (xs : List A) → slice_get (drop n xs) k ≡ slice_get xs (n + k)
  get-drop zero k xs = ap (slice_get xs) (omega arith)
  get-drop (suc n) k [] = refl
  get-drop (suc n) k (x ∷ xs) = let e : suc n + k ≡ suc (n + k) = omega arith in rw e (get-drop n k xs)

  -- what stands in a list with one more at its end
  pub get-more : (xs : List A) (y z : A) (k : ℕ) → slice_get (xs ++ y ∷ []) k ≡ Some z
      → (slice_get xs k ≡ Some z) ⊎ ((k ≡ length xs) × (y ≡ z))
  get-more [] y z zero e = inr (refl, cc)
  get-more [] y z (suc k) e = absurd cc
  get-more (x ∷ xs) y z zero e = inl e
  get-more (x ∷ xs) y z (suc k) e = elim (get-more xs y z k e) [
    | inl before ↦ inl before
    | inr last ↦ inr (ap suc last.0, last.1)
  ]

  -- what is dropped of two lists one after the other
  pub drop-over : (n : ℕ) (xs ys : List A) → length xs ≤ n → drop n (xs ++ ys) ≡ drop (n - length xs) ys
  drop-over n [] ys low = ap (λ k. drop k ys) (omega arith)
  drop-over zero (x ∷ xs) ys low = absurd (omega arith)
  drop-over (suc n) (x ∷ xs) ys low =
      let e : suc n - length (x ∷ xs) ≡ n - length xs = omega arith in
      rw e (drop-over n xs ys (omega arith))

-- ---- briefs

pub briefs-none : (streams : List Stream) → AreBriefs streams [] []
briefs-none streams = record { count = refl; tell = λ k x b e. absurd cc }

-- Streams keep their numbers.
pub briefs-streams : (before after : List Stream) (held : List Held) (briefs : List Brief)
    → ((k : ℕ) (s : Stream) → slice_get before k ≡ Some s → slice_get after k ≡ Some s)
    → length before ≤ length after → AreBriefs before held briefs → AreBriefs after held briefs
briefs-streams before after held briefs keeps grows are = record {
  count = are.count;
  tell = λ k x b there at.
      let told = are.tell k x b there at in
      record {
        start = told.start;
        stop = told.stop;
        stream = λ number e. keeps number _ (told.stream number e);
        numbered = λ few none. told.numbered (omega (arith, grows, few)) none;
      };
}

-- one record more
pub briefs-more : (streams : List Stream) (held : List Held) (briefs : List Brief) (x : Held) (b : Brief)
    → Tells streams x b → AreBriefs streams held briefs → AreBriefs streams (held ++ x ∷ []) (briefs ++ b ∷ [])
briefs-more streams held briefs x b told are = record {
  count = let c = are.count in simp length-append (omega arith);
  tell = λ k y d there at.
      elim (get-more held x y k there) [
        | inl before ↦ elim (get-more briefs b d k at) [
          | inl early ↦ are.tell k y d before early
          | inr last ↦ absurd (let low = get-within held k y before in let c = are.count in omega (arith, low, last.0))
        ]
        | inr here ↦ elim (get-more briefs b d k at) [
          | inl early ↦ absurd (
              let low = get-within briefs k d early in
              let c = are.count in omega (arith, low, here.0))
          | inr last ↦ subst (λ (z : Held). Tells streams z d) here.1
              (subst (λ (e : Brief). Tells streams x e) last.1 told)
        ]
      ];
}

pub briefs-drop : (streams : List Stream) (held : List Held) (briefs : List Brief) (n : ℕ)
    → AreBriefs streams held briefs → AreBriefs streams (drop n held) (drop n briefs)
briefs-drop streams held briefs n are = record {
  count = length-drop n briefs ∙ ap (λ k. k - n) are.count ∙ sym (length-drop n held);
  tell = λ k x b there at. are.tell (n + k) x b (sym (get-drop n k held) ∙ there) (sym (get-drop n k briefs) ∙ at);
}

-- one record more, and the oldest let go if there is no room for it
pub briefs-push : (before after : List Stream) (held : List Held) (briefs : List Brief) (capacity : ℕ) (x : Held)
    (b : Brief) → ((k : ℕ) (s : Stream) → slice_get before k ≡ Some s → slice_get after k ≡ Some s)
    → length before ≤ length after → Tells after x b → AreBriefs before held briefs
    → AreBriefs after (keep_last capacity (held ++ x ∷ [])) (keep_last capacity (briefs ++ b ∷ []))
briefs-push before after held briefs capacity x b keeps grows told are =
    let more = briefs-more after held briefs x b told (briefs-streams before after held briefs keeps grows are) in
    subst (λ n. AreBriefs after (keep_last capacity (held ++ x ∷ [])) (drop (n - capacity) (briefs ++ b ∷ [])))
    (sym more.count)
    (briefs-drop after (held ++ x ∷ []) (briefs ++ b ∷ []) (length (held ++ x ∷ []) - capacity) more)

-- the same by what each list became
pub briefs-put : (before after : List Stream) (held held' : List Held) (briefs briefs' : List Brief) (capacity : ℕ)
    (x : Held) (b : Brief) → held' ≡ keep_last capacity (held ++ x ∷ [])
    → briefs' ≡ keep_last capacity (briefs ++ b ∷ [])
    → ((k : ℕ) (s : Stream) → slice_get before k ≡ Some s → slice_get after k ≡ Some s)
    → length before ≤ length after → Tells after x b → AreBriefs before held briefs → AreBriefs after held' briefs'
briefs-put before after held held' briefs briefs' capacity x b eh eb keeps grows told are =
    rw (eh, eb) (briefs-push before after held briefs capacity x b keeps grows told are)

-- a brief that was made of a record's summary
pub tells-made : (streams : List Stream) (x : Held) (b : Brief) (stream : Stream) → b.start ≡ x.summary.start
    → b.stop ≡ x.summary.stop → stream ≡ stream_of x.summary
    → IfSome b.stream (λ k. slice_get streams k ≡ Some stream) → (b.stream ≡ None → 64 ≤ length streams)
    → Tells streams x b
tells-made streams x b stream start stop is there full = record {
  start = start;
  stop = stop;
  stream = λ number e. by number b.stream e there;
  numbered = λ few none. let many = full none in omega (arith, few, many);
}
  where
    by : (number : ℕ) (o : Option ℕ) → o ≡ Some number → IfSome o (λ k. slice_get streams k ≡ Some stream)
        → slice_get streams number ≡ Some (stream_of x.summary)
    by number None e t = absurd cc
    by number (Some k) e t =
        let same : k ≡ number = cc in
        subst (λ n. slice_get streams n ≡ Some (stream_of x.summary)) same (t ∙ ap (λ (s : Stream). Some s) is)

-- the briefs from an index on, in two pieces
pub briefs-older : (streams : List Stream) (held : List Held) (older newer : List Brief) (n : ℕ) → n ≤ length older
    → AreBriefs streams held (older ++ newer)
    → AreBriefs streams (drop n held) (take (length older - n) (drop n older) ++ newer)
briefs-older streams held older newer n low are =
    let whole : take (length older - n) (drop n older) ≡ drop n older =
    take_all (length older - n) (drop n older) (let e = length-drop n older in omega (arith, e)) in
    subst (λ bs. AreBriefs streams (drop n held) bs)
    (drop-append-le n older newer low ∙ ap (λ bs. bs ++ newer) (sym whole))
    (briefs-drop streams held (older ++ newer) n are)

pub briefs-newer : (streams : List Stream) (held : List Held) (older newer : List Brief) (n : ℕ) → length older ≤ n
    → AreBriefs streams held (older ++ newer)
    → AreBriefs streams (drop n held) (take (length newer - (n - length older)) (drop (n - length older) newer))
briefs-newer streams held older newer n high are =
    let k : ℕ = n - length older in
    let whole : take (length newer - k) (drop k newer) ≡ drop k newer =
    take_all (length newer - k) (drop k newer) (let e = length-drop k newer in omega (arith, e)) in
    subst (λ bs. AreBriefs streams (drop n held) bs)
    (drop-over n older newer high ∙ sym whole)
    (briefs-drop streams held (older ++ newer) n are)

-- the briefs of what a ring holds from a place on
pub tell-from : (r : RingValue) (place first : ℕ) (streams : List Stream) (briefs : List Brief)
    → first ≡ first_place r → first_place r ≤ place → place ≤ r.pushes → first + length r.held ≡ r.pushes
    → AreBriefs streams (drop (place - first) r.held) briefs → TellFrom r place streams briefs
tell-from r place first streams briefs is low high together are = record {
  count = let e = length-drop (place - first) r.held in let c = are.count in omega (arith, e, c);
  tell = λ k x b there at.
      let index : first_place r ≤ place + k = omega arith in
      let held = held_at-low r (place + k) x there in
      let same : place + k - first_place r ≡ (place - first) + k = omega arith in
      are.tell k x b (get-drop (place - first) k r.held ∙ ap (slice_get r.held) (sym same) ∙ held.1) at;
}
