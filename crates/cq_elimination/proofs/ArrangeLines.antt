-- What a printed line says is a multiple of its row, and which of two lines comes first.
use Rattle.std.proofs.Common.{◌≡◌, ◌≢◌, inl, inr, ℕ, ◌<◌, List, [], ◌∷◌, Bool, true, false, pos, zero, suc, refl, ap, ap₂, sym, subst, ◌∙◌}
use Rattle.std.specs.Prelude.{MatchBool}
use Rattle.std.specs.List.{AllByRecursion}
use Rattle.std.specs.declared.cmp.Ordering.{Ordering}
use Rattle.std.specs.declared.cmp.Ordering.TheVariants.{Less, Equal, Greater}
use Rattle.std.specs.Ordering.{MatchOrdering, ordering_then, nat_cmp}
use Rattle.std.specs.Cmp.{ranks}
use Rattle.spec_numbers.specs.Rational.{ℚ, 0ℚ, ◌+ℚ◌, ◌*ℚ◌, ◌/ℚ◌, neg_ℚ, inv_ℚ, IsPositive, ◌<ℚ◌}
use Rattle.spec_numbers.specs.Order.{cmp_ℚ}
use Rattle.spec_numbers.specs.Sums.{Monomial, Mentions, factor_of, when, sum_at, unit, negated_products}
use Rattle.spec_numbers.proofs.Ring.{var, int, ◌⊕◌, ◌⊗◌, minus}
use Rattle.spec_numbers.proofs.RationalLemmas.{ring}
use Rattle.spec_numbers.proofs.Order.{cmp_ℚ-matches}
use Rattle.spec_numbers.proofs.Sign.{times_inverse, inverse_not_zero, inv_pos}
use Rattle.spec_numbers.proofs.Sums.{sum_at-negated_products, factor_of-is}
use Rattle.spec_linear.specs.declared.Relation.{Relation}
use Rattle.spec_linear.specs.declared.Relation.TheVariants.{Eq, Gt, Ge, Ne}
use Rattle.spec_linear.specs.Solution.{Constraint, Has}
use Rattle.spec_linear.proofs.Ordered.{factor_of-rest}
use Rattle.spec_linear.specs.Echelon.{AreDistinct, InOrder, variables}
use Rattle.spec_linear.proofs.Orders.{in_order-once, in_order-rest, mentions-has}
use Rattle.spec_numbers.proofs.Tests.{nat_eq-self}
use Rattle.spec_projection.specs.Elimination.{IsInequality}
use Rattle.spec_projection.specs.Strict.{AreMultiples, IsMultiple}
use Rattle.spec_projection.specs.Arranged.{HasNoIdleVariable}
use Rattle.spec_projection.proofs.Mentions.{unmentioned_factor}
use Rattle.spec_answers.specs.Forms.{Before}
use Rattle.cq_elimination.specs.declared.arrange.Comparison.{Comparison}
use Rattle.cq_elimination.specs.declared.arrange.Comparison.TheVariants.{AtLeast, Above, AtMost, Below, Unequal}
use Rattle.cq_elimination.specs.Lines.{Line, said, said_by, comparison_by, rank_of}
use Rattle.cq_elimination.specs.Arranging.{IsLine, LineBefore}

-- ---- multiples

inverse-negative : (k : ℚ) → k ≢ 0ℚ → inv_ℚ (neg_ℚ k) ≡ neg_ℚ (inv_ℚ k)
inverse-negative k n =
    let m : neg_ℚ k ≢ 0ℚ = λ e. n (ring (k ∷ []) (var 0) (minus (minus (var 0))) refl ∙ ap neg_ℚ e ∙ ring [] (minus (int (pos 0))) (int (pos 0)) refl) in
    ring (inv_ℚ (neg_ℚ k) ∷ []) (var 0) (var 0 ⊗ int (pos 1)) refl
    ∙ ap (λ w. inv_ℚ (neg_ℚ k) *ℚ w) (sym (times_inverse k n))
    ∙ ring (inv_ℚ (neg_ℚ k) ∷ k ∷ inv_ℚ k ∷ []) (var 0 ⊗ (var 1 ⊗ var 2)) (minus ((minus (var 1) ⊗ var 0) ⊗ var 2)) refl
    ∙ ap (λ w. neg_ℚ (w *ℚ inv_ℚ k)) (times_inverse (neg_ℚ k) m)
    ∙ ring (inv_ℚ k ∷ []) (minus (int (pos 1) ⊗ var 0)) (minus (var 0)) refl

module _ (c : Constraint) (s : List Monomial) (q k : ℚ) (nonzero : k ≢ 0ℚ) (sums : (a : ℕ → ℚ) → sum_at a s ≡ inv_ℚ k *ℚ sum_at a c.form.products)
    (bound : q ≡ neg_ℚ (c.form.constant /ℚ k)) where
  abbrev up : AreMultiples c.form (record { products = s; constant = neg_ℚ q })
  up = record {
    factor = inv_ℚ k;
    nonzero = inverse_not_zero k nonzero;
    same = λ a.
        ap₂ (λ v w. neg_ℚ v +ℚ w) bound (sums a)
        ∙ ring (c.form.constant ∷ inv_ℚ k ∷ sum_at a c.form.products ∷ []) (minus (minus (var 0 ⊗ var 1)) ⊕ var 1 ⊗ var 2) (var 1 ⊗ (var 0 ⊕ var 2)) refl;
  }

  down_nonzero : neg_ℚ (inv_ℚ k) ≢ 0ℚ
  down_nonzero e =
      inverse_not_zero k nonzero (ring (inv_ℚ k ∷ []) (var 0) (minus (minus (var 0))) refl ∙ ap neg_ℚ e ∙ ring [] (minus (int (pos 0))) (int (pos 0)) refl)

  abbrev down : AreMultiples c.form (record { products = negated_products s; constant = q })
  down = record {
    factor = neg_ℚ (inv_ℚ k);
    nonzero = down_nonzero;
    same = λ a.
        ap₂ (λ v w. v +ℚ w) bound (sum_at-negated_products a s ∙ ap neg_ℚ (sums a))
        ∙ ring (c.form.constant ∷ inv_ℚ k ∷ sum_at a c.form.products ∷ []) (minus (var 0 ⊗ var 1) ⊕ minus (var 1 ⊗ var 2)) (minus (var 1) ⊗ (var 0 ⊕ var 2)) refl;
  }

  down_positive : IsPositive (neg_ℚ k) → IsPositive (neg_ℚ (inv_ℚ k))
  down_positive p = subst IsPositive (inverse-negative k nonzero) (inv_pos p)

  pub line_multiple : (b : Bool) → c.relation ≢ Eq → MatchBool b (IsPositive k) (IsPositive (neg_ℚ k)) → IsMultiple c (said_by s (comparison_by c.relation b) q)
  line_multiple b n h = go c.relation refl b h
    where
      go : (r : Relation) → c.relation ≡ r → (b : Bool) → MatchBool b (IsPositive k) (IsPositive (neg_ℚ k)) → IsMultiple c (said_by s (comparison_by r b) q)
      go Eq e b h = absurd (n e)
      go Gt e true h = record { relation = sym e; forms = up; turned = λ i. inv_pos h }
      go Gt e false h = record { relation = sym e; forms = down; turned = λ i. down_positive h }
      go Ge e true h = record { relation = sym e; forms = up; turned = λ i. inv_pos h }
      go Ge e false h = record { relation = sym e; forms = down; turned = λ i. down_positive h }
      go Ne e b h = record { relation = sym e; forms = up; turned = λ i. absurd (unequal e i) }
        where
          unequal : c.relation ≡ Ne → IsInequality c.relation → ⊥
          unequal e i = subst IsInequality e i

-- ---- no idle variable

own_factor : (m : Monomial) (s : List Monomial) → (Mentions m.variable s → ⊥) → factor_of m.variable (m ∷ s) ≡ m.factor
own_factor m s n =
    ap₂ (λ b w. when b m.factor +ℚ w) (nat_eq-self m.variable) (unmentioned_factor m.variable s n) ∙ ring (m.factor ∷ []) (var 0 ⊕ int (pos 0)) (var 0) refl

module _ (order : List ℕ) (distinct : AreDistinct order) (x : ℕ) where
  counts : (s : List Monomial) → InOrder order (variables s) → AllByRecursion (λ m. m.factor ≢ 0ℚ) s → Mentions x s → factor_of x s ≢ 0ℚ
  counts [] o n h z = absurd h
  counts (m ∷ s) o n (inl e) z =
      n.0 (sym (own_factor m s (λ k. in_order-once order m.variable (variables s) distinct o (mentions-has m.variable s k))) ∙ ap (λ y. factor_of y (m ∷ s)) (sym e) ∙ z)
  counts (m ∷ s) o n (inr k) z =
      let other : x ≢ m.variable = λ e. in_order-once order m.variable (variables s) distinct o (subst (λ y. Has y (variables s)) e (mentions-has x s k)) in
      counts s (in_order-rest order m.variable (variables s) o) n.1 k (sym (factor_of-rest x m s other) ∙ z)

  negated_mentions : (s : List Monomial) → Mentions x (negated_products s) → Mentions x s
  negated_mentions [] h = h
  negated_mentions (m ∷ s) (inl e) = inl e
  negated_mentions (m ∷ s) (inr h) = inr (negated_mentions s h)

  counts_negated : (s : List Monomial) → InOrder order (variables s) → AllByRecursion (λ m. m.factor ≢ 0ℚ) s → Mentions x (negated_products s) → factor_of x (negated_products s) ≢ 0ℚ
  counts_negated s o n h z =
      counts s o n (negated_mentions s h) (
      factor_of-is x s ∙ ring (sum_at (unit x) s ∷ []) (var 0) (minus (minus (var 0))) refl
      ∙ ap neg_ℚ (sym (sum_at-negated_products (unit x) s) ∙ sym (factor_of-is x (negated_products s)) ∙ z) ∙ ring [] (minus (int (pos 0))) (int (pos 0)) refl)

pub said_counts : (order : List ℕ) (l : Line) → AreDistinct order → IsLine order l → HasNoIdleVariable (said l).form
said_counts order l d p = go l.comparison
  where
    go : (c : Comparison) → HasNoIdleVariable (said_by l.products c l.bound).form
    go AtLeast x h = counts order d x l.products p.ordered p.nonzero h
    go Above x h = counts order d x l.products p.ordered p.nonzero h
    go AtMost x h = counts_negated order d x l.products p.ordered p.nonzero h
    go Below x h = counts_negated order d x l.products p.ordered p.nonzero h
    go Unequal x h = counts order d x l.products p.ordered p.nonzero h

-- ---- order

pub before_tie : {P Q : Type 0} (order : List ℕ) (s t : List Monomial) → (P → Q) → Before order s t P → Before order s t Q
before_tie [] s t f h = f h
before_tie (x ∷ order) s t f (inl h) = inl h
before_tie (x ∷ order) s t f (inr h) = inr (h.0, before_tie order s t f h.1)

before_same : {P : Type 0} (order : List ℕ) (s t : List Monomial) → s ≡ t → P → Before order s t P
before_same [] s t e p = p
before_same (x ∷ order) s t e p = inr (ap (factor_of x) e, before_same order s t e p)

abbrev comparison_at : ℕ → Comparison
comparison_at zero = AtLeast
comparison_at (suc zero) = Above
comparison_at (suc (suc zero)) = AtMost
comparison_at (suc (suc (suc zero))) = Below
comparison_at (suc (suc (suc (suc n)))) = Unequal

at_rank : (c : Comparison) → comparison_at (rank_of c) ≡ c
at_rank AtLeast = refl
at_rank Above = refl
at_rank AtMost = refl
at_rank Below = refl
at_rank Unequal = refl

one_rank : (c d : Comparison) → rank_of c ≡ rank_of d → c ≡ d
one_rank c d e = sym (at_rank c) ∙ ap comparison_at e ∙ at_rank d

line_same : (k l : Line) → k.products ≡ l.products → k.comparison ≡ l.comparison → k.bound ≡ l.bound → k ≡ l
line_same k l e f g =
    ap (λ s. record { products = s; comparison = k.comparison; bound = k.bound }) e
    ∙ ap₂ (λ (c : Comparison) q. let m : Line = record { products = l.products; comparison = c; bound = q } in m) f g

module _ (order : List ℕ) (k l : Line) where
  abbrev pub Compared : Ordering → Type 0
  Compared o = MatchOrdering o (LineBefore order k l) (k ≡ l) (LineBefore order l k)

  by_bounds : k.products ≡ l.products → k.comparison ≡ l.comparison → (o : Ordering) → MatchOrdering o (k.bound <ℚ l.bound) (k.bound ≡ l.bound) (l.bound <ℚ k.bound) → Compared o
  by_bounds e f Less h = before_same order k.products l.products e (inr (f, h))
  by_bounds e f Equal h = line_same k l e f h
  by_bounds e f Greater h = before_same order l.products k.products (sym e) (inr (sym f, h))

  by_rank : k.products ≡ l.products → (o : Ordering) → MatchOrdering o (rank_of k.comparison < rank_of l.comparison) (rank_of k.comparison ≡ rank_of l.comparison) (rank_of l.comparison < rank_of k.comparison)
      → Compared (ordering_then o (cmp_ℚ k.bound l.bound))
  by_rank e Less h = before_same order k.products l.products e (inl h)
  by_rank e Equal h = by_bounds e (one_rank k.comparison l.comparison h) (cmp_ℚ k.bound l.bound) (cmp_ℚ-matches k.bound l.bound)
  by_rank e Greater h = before_same order l.products k.products (sym e) (inl h)

  pub compared_lines : (o p : Ordering) → MatchOrdering o (Before order k.products l.products ⊥) (k.products ≡ l.products) (Before order l.products k.products ⊥)
      → p ≡ ordering_then (nat_cmp (rank_of k.comparison) (rank_of l.comparison)) (cmp_ℚ k.bound l.bound) → Compared (ordering_then o p)
  compared_lines Less p h e = before_tie order k.products l.products (λ n. absurd n) h
  compared_lines Equal p h e = subst Compared (sym e) (by_rank h (nat_cmp (rank_of k.comparison) (rank_of l.comparison)) (ranks (rank_of k.comparison) (rank_of l.comparison)))
  compared_lines Greater p h e = before_tie order l.products k.products (λ n. absurd n) h
