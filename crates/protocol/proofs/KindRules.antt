-- The kind that is read is the one that a record has.
use Rattle.std.proofs.Common.{ltb-true, eqb-true, ne_eqb, lt-ltb, ◌≡◌, ℕ, nat_lt, ◌==◌, List, [], ◌∷◌, ◌++◌, Option}
use Rattle.std.proofs.Common.{Some, None, unwrap_or, refl, ap, subst, inl, inr, arith}
use Rattle.std.specs.Prelude.{All}
use Rattle.std.proofs.lemmas.List.Elements.{All-nil, All-cons, All-head, All-tail}
use Rattle.std.proofs.lemmas.Bool.Decides.{nat_tests}
use Rattle.protocol.specs.declared.record.ByteOrder.{ByteOrder}
use Rattle.protocol.specs.declared.record.Kind.{Kind}
use Rattle.protocol.specs.Record.{word, kind_of_type, first_kind, kind_of}
use Rattle.protocol.specs.declared.record.Kind.TheVariants.{D, E, C, O, T, L}
use Rattle.protocol.specs.Reading.{Not, Gives, GivesKind, IsGivenKind, IsKind}
use Rattle.protocol.proofs.FoundLemmas.{both}
use Rattle.std.proofs.lemmas.Bool.{ltb-false, eqb-false}

-- the table
pub gives : (n : ℕ) (k : Kind) → kind_of_type n ≡ Some k → Gives n k
gives n D e = grind (arith, nat_tests)
gives n E e = grind (arith, nat_tests)
gives n C e = grind (arith, nat_tests)
gives n O e = grind (arith, nat_tests)
gives n T e = grind (arith, nat_tests)
gives n L e = grind (arith, nat_tests)

pub given : (n : ℕ) (k : Kind) → Gives n k → kind_of_type n ≡ Some k
given n D h = absurd h
given n E h = grind (arith, nat_tests)
given n C h = grind (arith, nat_tests)
given n O h = grind (arith, nat_tests)
given n T h = grind (arith, nat_tests)
given n L h = absurd h

module _ (o : ByteOrder) (r : List ℕ) where
  none_given_by : (at : ℕ) → kind_of_type (word o r at) ≡ None → Not (GivesKind o r at)
  none_given_by at e g = let some = given (word o r at) g.0 g.1 in absurd cc

  none_by_given : (at : ℕ) (found : Option Kind) → kind_of_type (word o r at) ≡ found → Not (GivesKind o r at)
      → found ≡ None
  none_by_given at None e none = refl
  none_by_given at (Some k) e none = absurd (none (k, gives (word o r at) k e))

  -- the kind that the blockettes give
  later_given : (at : ℕ) (offsets : List ℕ) (k : Kind) → Not (GivesKind o r at) → IsGivenKind o r offsets k
      → IsGivenKind o r (at ∷ offsets) k
  later_given at offsets k none (inl found) =
      inl (
        found.0,
        record {
          before = at ∷ found.1.before;
          after = found.1.after;
          whole = ap (λ l. at ∷ l) found.1.whole;
          here = found.1.here;
          not_before = All-cons (λ other. Not (GivesKind o r other)) at found.1.before none found.1.not_before;
        },
        found.2,
      )
  later_given at offsets k none (inr all) =
      inr (All-cons (λ other. Not (GivesKind o r other)) at offsets none all.0, all.1)

  given_at : (at : ℕ) (offsets : List ℕ) (later : Kind) (found : Option Kind) → kind_of_type (word o r at) ≡ found
      → IsGivenKind o r offsets later → IsGivenKind o r (at ∷ offsets) (unwrap_or found later)
  given_at at offsets later None e rest = later_given at offsets later (none_given_by at e) rest
  given_at at offsets later (Some k) e rest =
      let g = gives (word o r at) k e in
      inl (
        at,
        record {
          before = [];
          after = offsets;
          whole = refl;
          here = (k, g);
          not_before = All-nil (λ other. Not (GivesKind o r other));
        },
        g,
      )

  first_kind-given : (offsets : List ℕ) → IsGivenKind o r offsets (first_kind o r offsets)
  first_kind-given [] = inr (All-nil (λ other. Not (GivesKind o r other)), refl)
  first_kind-given (at ∷ offsets) =
      given_at at offsets (first_kind o r offsets) (kind_of_type (word o r at)) refl (first_kind-given offsets)

  first_kind_behind : (before after : List ℕ) (at : ℕ) (k : Kind) → All (λ other. Not (GivesKind o r other)) before
      → Gives (word o r at) k → first_kind o r (before ++ at ∷ after) ≡ k
  first_kind_behind [] after at k none g = rw (given (word o r at) k g)
  first_kind_behind (x ∷ before) after at k none g =
      rw
      (none_by_given x (kind_of_type (word o r x)) refl
      (All-head (λ other. Not (GivesKind o r other)) x before none))
      (first_kind_behind before after at k (All-tail (λ other. Not (GivesKind o r other)) x before none) g)

  first_kind_none : (offsets : List ℕ) → All (λ other. Not (GivesKind o r other)) offsets → first_kind o r offsets ≡ D
  first_kind_none [] none = refl
  first_kind_none (x ∷ offsets) none =
      rw
      (none_by_given x (kind_of_type (word o r x)) refl
      (All-head (λ other. Not (GivesKind o r other)) x offsets none))
      (first_kind_none offsets (All-tail (λ other. Not (GivesKind o r other)) x offsets none))

  given-first_kind : (offsets : List ℕ) (k : Kind) → IsGivenKind o r offsets k → first_kind o r offsets ≡ k
  given-first_kind offsets k (inl found) =
      subst (λ l. first_kind o r l ≡ k) found.1.whole
      (first_kind_behind found.1.before found.1.after found.0 k found.1.not_before found.2)
  given-first_kind offsets k (inr all) = rw all.1 (first_kind_none offsets all.0)

  -- the record's kind
  pub kind_is : (offsets : List ℕ) → IsKind o r offsets (kind_of o r offsets)
  kind_is offsets =
      both (nat_lt 0 (word o r 30))
      (λ y. both (word o r 32 == 0)
      (λ z. inr (inl (ltb-true 0 (word o r 30) y, eqb-true (word o r 32) 0 z, rw (y, z))))
      (λ n. inl (ltb-true 0 (word o r 30) y, eqb-false (word o r 32) 0 n, rw (y, n))))
      (λ f. inr (inr (
        let none : word o r 30 ≡ 0 = omega (arith, ltb-false 0 (word o r 30) f) in none,
        rw f (first_kind-given offsets),
      )))

  pub is_kind : (offsets : List ℕ) (k : Kind) → IsKind o r offsets k → kind_of o r offsets ≡ k
  is_kind offsets k (inl h) = rw (lt-ltb 0 (word o r 30) h.0, ne_eqb (word o r 32) 0 h.1, h.2)
  is_kind offsets k (inr (inl h)) = rw (lt-ltb 0 (word o r 30) h.0, h.1, h.2)
  is_kind offsets k (inr (inr h)) = rw h.0 (given-first_kind offsets k h.1)
