-- What a filter makes of a record.
use Rattle.std.proofs.Common.{◌≡◌, ℕ, ℤ, true, false, Bool, ◌&&◌, nat_le, List, slice_get, Option}
use Rattle.std.proofs.Common.{Some, None, refl, sym, ap, ◌∙◌, subst, inl, inr, ◌⊎◌, [], ◌∷◌, zero, suc}
use Rattle.std.specs.Prelude.{slice_set, if◌then◌else◌, IfSome, replicate}
use Rattle.protocol.specs.Pattern.{passes}
use Rattle.station_ring.specs.declared.held.Brief.{Brief}
use Rattle.station_ring.specs.declared.held.Held.{Held}
use Rattle.station_ring.specs.declared.held.Stream.{Stream}
use Rattle.station_ring.specs.declared.held.Summary.{Summary}
use Rattle.station_ring.specs.Briefs.{Tells, stream_of}
use Rattle.sl_lines.specs.declared.actions.Action.{Action}
use Rattle.sl_lines.specs.declared.actions.Action.TheVariants.{Data, Fetch, Time}
use Rattle.session_state.specs.KeptActions.{begin_of, end_of}
use Rattle.session_state.specs.NamedValues.{Choice}
use Rattle.transfer.specs.declared.filters.Filter.{Filter}
use Rattle.transfer.specs.declared.filters.Sight.TheVariants.{AfterEnd as SeenAfterEnd, Unwanted as SeenUnwanted, Open}
use Rattle.transfer.specs.declared.wanting.Found.{Found}
use Rattle.transfer.specs.declared.wanting.Found.TheVariants.{AfterEnd, Unwanted}
use Rattle.transfer.specs.Wanting.{facts_of, is_in_window_of, wants_held}
use Rattle.transfer.specs.Cursors.{is_after_end, is_late}
use Rattle.transfer.specs.Filters.{IsFilter, IsSight, IsWindow, is_early}
use Rattle.transfer.specs.Founds.{found_of}

-- ---- windows

window-none : IsWindow (record { begin = None; last = None }) None
window-none = record {
  after = λ x. refl;
  late = λ x e. refl;
  early = λ x e. refl;
}

outside : (begin : Option ℤ) (x : Held) → is_early begin x.summary.stop ≡ true
    → is_in_window_of (Some (Data None begin)) (facts_of x.summary) ≡ false
outside None x e = absurd cc
outside (Some begin) x e = rw e

window-data : (number : Option ℕ) (begin : Option ℤ)
    → IsWindow (record { begin = begin; last = None }) (Some (Data number begin))
window-data number begin = record {
  after = λ x. refl;
  late = λ x e. absurd cc;
  early = λ x e. outside begin x e;
}

window-fetch : (number : Option ℕ) (begin : Option ℤ)
    → IsWindow (record { begin = begin; last = None }) (Some (Fetch number begin))
window-fetch number begin = record {
  after = λ x. refl;
  late = λ x e. absurd cc;
  early = λ x e. outside begin x e;
}

none-late : (b : Bool) → (b && false) ≡ false
none-late true = refl
none-late false = refl

outside-late : (begin last : Option ℤ) (x : Held) → is_late last x.summary.start ≡ true
    → is_in_window_of (Some (Time begin last)) (facts_of x.summary) ≡ false
outside-late begin None x e = absurd cc
outside-late None (Some last) x e = rw e
outside-late (Some begin) (Some last) x e = rw e (none-late _)

outside-early : (begin last : Option ℤ) (x : Held) → is_early begin x.summary.stop ≡ true
    → is_in_window_of (Some (Time begin last)) (facts_of x.summary) ≡ false
outside-early None last x e = absurd cc
outside-early (Some begin) last x e = rw e

window-time : (begin last : Option ℤ) → IsWindow (record { begin = begin; last = last }) (Some (Time begin last))
window-time begin last = record {
  after = λ x. refl;
  late = λ x e. outside-late begin last x e;
  early = λ x e. outside-early begin last x e;
}

window-at : (a : Option Action) → IsWindow (record { begin = begin_of a; last = end_of a }) a
window-at None = window-none
window-at (Some (Data number begin)) = window-data number begin
window-at (Some (Fetch number begin)) = window-fetch number begin
window-at (Some (Time begin last)) = window-time begin last

pub window-of : (begin last : Option ℤ) (a : Option Action) → begin ≡ begin_of a → last ≡ end_of a
    → IsWindow (record { begin = begin; last = last }) a
window-of begin last a begins ends = rw begins (rw ends (window-at a))

pub ruleset window_lemmas = (window-of)

-- ---- what is seen

and-none : (a b d : Bool) → d ≡ false → (a && (b && d)) ≡ false
and-none true true d e = e
and-none true false d e = refl
and-none false b d e = refl

and-last : (a b : Bool) → b ≡ false → (a && b) ≡ false
and-last true b e = e
and-last false b e = refl

-- A record that is not within the window, or that the patterns refuse, is not wanted.
outside-unwanted : (c : Choice) (next : ℕ) (x : Held) → is_in_window_of c.action (facts_of x.summary) ≡ false
    → wants_held c next x ≡ false
outside-unwanted c next x e =
    and-none (nat_le next x.stamp) (nat_le c.first x.stamp) _ (and-last (passes c.patterns (facts_of x.summary)) _ e)

pub refused-unwanted : (c : Choice) (next : ℕ) (x : Held) → passes c.patterns (facts_of x.summary) ≡ false
    → wants_held c next x ≡ false
refused-unwanted c next x e =
    and-none (nat_le next x.stamp) (nat_le c.first x.stamp) _
    (ap (λ b. b && is_in_window_of c.action (facts_of x.summary)) e)

unwanted-found : (c : Choice) (next : ℕ) (x : Held) (after : Bool) → wants_held c next x ≡ false
    → is_after_end c.action x ≡ after → found_of c next x ≡ (if after then AfterEnd else Unwanted)
unwanted-found c next x after never e = rw never (ap (λ b. let f : Found = if b then AfterEnd else Unwanted in f) e)

pub sight-after : (f : Filter) (streams : List Stream) (c : Choice) (b : Brief) (x : Held) → IsFilter f streams c
    → Tells streams x b → is_late f.window.last b.start ≡ true → IsSight c x SeenAfterEnd
sight-after f streams c b x is tells late =
    let here : is_late f.window.last x.summary.start ≡ true = ap (is_late f.window.last) (sym tells.start) ∙ late in
    record {
      after = λ e next. unwanted-found c next x true (outside-unwanted c next x (is.window.late x here))
          (is.window.after x ∙ here);
      unwanted = λ e. absurd cc;
    }

seen-unwanted : (f : Filter) (streams : List Stream) (c : Choice) (b : Brief) (x : Held) → IsFilter f streams c
    → Tells streams x b → is_late f.window.last b.start ≡ false → ((next : ℕ) → wants_held c next x ≡ false)
    → IsSight c x SeenUnwanted
seen-unwanted f streams c b x is tells late never =
    let here : is_late f.window.last x.summary.start ≡ false = ap (is_late f.window.last) (sym tells.start) ∙ late in
    record {
      after = λ e. absurd cc;
      unwanted = λ e next. unwanted-found c next x false (never next) (is.window.after x ∙ here);
    }

pub sight-early : (f : Filter) (streams : List Stream) (c : Choice) (b : Brief) (x : Held) → IsFilter f streams c
    → Tells streams x b → is_late f.window.last b.start ≡ false → is_early f.window.begin b.stop ≡ true
    → IsSight c x SeenUnwanted
sight-early f streams c b x is tells late early =
    seen-unwanted f streams c b x is tells late (λ next. outside-unwanted c next x (is.window.early x
    (ap (is_early f.window.begin) (sym tells.stop) ∙ early)))

pub sight-refused : (f : Filter) (streams : List Stream) (c : Choice) (b : Brief) (x : Held) (number : ℕ)
    → IsFilter f streams c → Tells streams x b → is_late f.window.last b.start ≡ false → b.stream ≡ Some number
    → slice_get f.refused number ≡ Some true → IsSight c x SeenUnwanted
sight-refused f streams c b x number is tells late at refused =
    seen-unwanted f streams c b x is tells late (λ next. refused-unwanted c next x
    ((is.refused number (stream_of x.summary) refused (tells.stream number at)).refuses x.summary refl))

-- what is known of the stream of a brief
pub sight-known : (f : Filter) (streams : List Stream) (c : Choice) (b : Brief) (x : Held) (known : Bool)
    → IsFilter f streams c → Tells streams x b → is_late f.window.last b.start ≡ false
    → IfSome b.stream (λ k. slice_get f.refused k ≡ Some known) → (b.stream ≡ None → known ≡ false) → known ≡ true
    → IsSight c x SeenUnwanted
sight-known f streams c b x known is tells late some none refused = by b.stream refl some none
  where
    by : (o : Option ℕ) → b.stream ≡ o → IfSome o (λ k. slice_get f.refused k ≡ Some known)
        → (o ≡ None → known ≡ false) → IsSight c x SeenUnwanted
    by None e t n = absurd (let wrong : false ≡ true = sym (n refl) ∙ refused in cc)
    by (Some k) e t n = sight-refused f streams c b x k is tells late e (t ∙ ap (λ (q : Bool). Some q) refused)

pub sight-open : (c : Choice) (x : Held) → IsSight c x Open
sight-open c x = record { after = λ e. absurd cc; unwanted = λ e. absurd cc }

-- ---- what is known of streams

-- at first nothing is known
pub none-known : (n k : ℕ) → slice_get (replicate n false) k ≡ Some true → ⊥
none-known zero k e = absurd cc
none-known (suc n) zero e = absurd cc
none-known (suc n) (suc k) e = none-known n k e

-- what is known once one more is
get-set : {A : Type 0} (xs : List A) (n k : ℕ) (v w : A) → slice_get (slice_set xs n v) k ≡ Some w
    → (k ≡ n) ⊎ (slice_get xs k ≡ Some w)
get-set [] n k v w e = inr e
get-set (x ∷ xs) zero zero v w e = inl refl
get-set (x ∷ xs) zero (suc k) v w e = inr e
get-set (x ∷ xs) (suc n) zero v w e = inr e
get-set (x ∷ xs) (suc n) (suc k) v w e = elim (get-set xs n k v w e) [
  | inl same ↦ inl (ap suc same)
  | inr other ↦ inr other
]

pub filter-refuses : (f g : Filter) (streams : List Stream) (c : Choice) (number : ℕ) (one : Stream)
    → g ≡ record f { refused = slice_set f.refused number true } → slice_get streams number ≡ Some one
    → ((y : Summary) → stream_of y ≡ one → passes c.patterns (facts_of y) ≡ false) → IsFilter f streams c
    → IsFilter g streams c
filter-refuses f g streams c number one made there never is = subst (λ (h : Filter). IsFilter h streams c) (sym made)
    (record {
      window = is.window;
      refused = λ k s known at. elim (get-set f.refused number k true true known) [
        | inl same ↦ record {
          refuses = λ y e.
              let here : Some s ≡ Some one = sym at ∙ ap (slice_get streams) same ∙ there in
              let it : s ≡ one = cc in
              never y (e ∙ it);
        }
        | inr before ↦ is.refused k s before at
      ];
    })
