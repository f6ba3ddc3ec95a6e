-- The rows of a tableau make certificates.
use Rattle.std.proofs.Common.{◌≡◌, ℕ, List, [], ◌∷◌, ◌++◌, Option, None, Some, ◌⊎◌, inl, inr, pos, refl, ap, ap₂, sym, subst, ◌∙◌}
use Rattle.std.specs.Prelude.{IsSomeAnd}
use Rattle.std.specs.List.{AllByRecursion}
use Rattle.spec_numbers.specs.Rational.{ℚ, 0ℚ, 1ℚ, ◌+ℚ◌, ◌*ℚ◌, neg_ℚ, ◌<ℚ◌, ◌≤ℚ◌, IsPositive}
use Rattle.spec_numbers.specs.Sums.{Monomial, sum_at}
use Rattle.spec_numbers.proofs.Ring.{int, ◌⊕◌, ◌⊗◌, minus}
use Rattle.spec_numbers.proofs.RationalLemmas.{ring}
use Rattle.spec_numbers.proofs.Sign.{pos_nonneg, pos_one}
use Rattle.spec_numbers.proofs.Order.{le_refl, pos_to_lt}
use Rattle.spec_linear.specs.declared.Relation.{Relation}
use Rattle.spec_linear.specs.declared.Relation.TheVariants.{Eq, Gt, Ge, Ne}
use Rattle.spec_linear.specs.Form.{Linear, value_at, negated_form, scaled_form}
use Rattle.spec_linear.specs.Solution.{Constraint, equal_zero}
use Rattle.spec_linear.proofs.Values.{value_at-constant_form, value_at-sum_form, value_at-scaled_form, value_at-negated_form}
use Rattle.spec_linear.specs.Weak.{above_zero, not_zero}
use Rattle.spec_linear.specs.Certificate.{member, form_or_zero, weighted_sum, Allows, IsAllowed, SomeStrict, IsFalseRun, IsFalseBehind, Refutes}
use Rattle.spec_linear.proofs.NoVariable.{same_number_everywhere}
use Rattle.spec_simplex.specs.Tableau.{Tableau, numbers, IsWritten, Place}
use Rattle.spec_simplex.specs.Entries.{entries, row_entries, AllNumbered, IsNumbered}
use Rattle.spec_simplex.proofs.Standing.{x0, x1, x2}

member_form : (o : Option Constraint) (g : Linear) (P : Constraint → Type 0) → IsSomeAnd o (λ c. (c.form ≡ g) × P c) → form_or_zero o ≡ g
member_form None g P h = absurd h
member_form (Some c) g P h = h.0

member_part : (o : Option Constraint) (P Q : Constraint → Type 0) → IsSomeAnd o (λ c. P c × Q c) → IsSomeAnd o Q
member_part None P Q h = absurd h
member_part (Some c) P Q h = h.1

one_allowed : (r : Relation) → (r ≡ Ne → ⊥) → Allows r 1ℚ
one_allowed Eq h = tt
one_allowed Gt h = pos_nonneg pos_one
one_allowed Ge h = pos_nonneg pos_one
one_allowed Ne h = h refl

module _ (l : List Constraint) where
  -- ---- the value of a run
  run_first : (v : ℕ → ℚ) (e : ℕ × ℚ) (run : List (ℕ × ℚ)) →
      value_at v (weighted_sum l (e ∷ run)) ≡ e.1 *ℚ value_at v (form_or_zero (member l e.0)) +ℚ value_at v (weighted_sum l run)
  run_first v e run =
      let f : Linear = form_or_zero (member l e.0) in
      value_at-sum_form v (scaled_form e.1 f) (weighted_sum l run) ∙ ap (λ w. w +ℚ value_at v (weighted_sum l run)) (value_at-scaled_form v e.1 f)

  run_append : (v : ℕ → ℚ) (a b : List (ℕ × ℚ)) → value_at v (weighted_sum l (a ++ b)) ≡ value_at v (weighted_sum l a) +ℚ value_at v (weighted_sum l b)
  run_append v [] b =
      ring (value_at v (weighted_sum l b) ∷ []) x0 (int (pos 0) ⊕ x0) refl
      ∙ ap (λ w. w +ℚ value_at v (weighted_sum l b)) (sym (value_at-constant_form v 0ℚ))
  run_append v (e ∷ a) b =
      run_first v e (a ++ b) ∙ ap (λ w. e.1 *ℚ value_at v (form_or_zero (member l e.0)) +ℚ w) (run_append v a b)
      ∙ ring ((e.1 *ℚ value_at v (form_or_zero (member l e.0))) ∷ value_at v (weighted_sum l a) ∷ value_at v (weighted_sum l b) ∷ []) (x0 ⊕ (x1 ⊕ x2))
      (x0 ⊕ x1 ⊕ x2) refl
      ∙ ap (λ w. w +ℚ value_at v (weighted_sum l b)) (sym (run_first v e a))

  allowed_append : (a b : List (ℕ × ℚ)) → AllByRecursion (IsAllowed l) a → AllByRecursion (IsAllowed l) b → AllByRecursion (IsAllowed l) (a ++ b)
  allowed_append [] b h k = k
  allowed_append (e ∷ a) b h k = (h.0, allowed_append a b h.1 k)

  strict_append : (a b : List (ℕ × ℚ)) → SomeStrict l a → SomeStrict l (a ++ b)
  strict_append [] b h = absurd h
  strict_append (e ∷ a) b (inl h) = inl h
  strict_append (e ∷ a) b (inr h) = inr (strict_append a b h)

  -- ---- a run whose value is one number
  false_run : (run : List (ℕ × ℚ)) (q : ℚ) → AllByRecursion (IsAllowed l) run → ((v : ℕ → ℚ) → value_at v (weighted_sum l run) ≡ q) →
      (q <ℚ 0ℚ) ⊎ ((q ≡ 0ℚ) × SomeStrict l run) → IsFalseRun l run
  false_run run q a h w =
      let n = same_number_everywhere (weighted_sum l run) q h in
      record { allowed = a; no_variable = n.0; wrong = subst (λ k. (k <ℚ 0ℚ) ⊎ ((k ≡ 0ℚ) × SomeStrict l run)) (sym n.1) w }

  false_behind : (e : ℕ × ℚ) (run : List (ℕ × ℚ)) → AllByRecursion (IsAllowed l) run → ((v : ℕ → ℚ) → value_at v (weighted_sum l (e ∷ run)) ≡ 0ℚ) →
      IsFalseBehind l e run
  false_behind e run a h =
      let n = same_number_everywhere (weighted_sum l (e ∷ run)) 0ℚ h in
      record { allowed = a; no_variable = n.0; wrong = subst (λ k. k ≤ℚ 0ℚ) (sym n.1) (le_refl 0ℚ) }

  -- a member's number with a multiplier, in front of a run
  first_value : (v : ℕ → ℚ) (n : ℕ) (c : Constraint) → member l n ≡ Some c → (t : ℚ) (run : List (ℕ × ℚ)) →
      value_at v (weighted_sum l ((n, t) ∷ run)) ≡ t *ℚ value_at v c.form +ℚ value_at v (weighted_sum l run)
  first_value v n c e t run = run_first v (n, t) run ∙ ap (λ o. t *ℚ value_at v (form_or_zero o) +ℚ value_at v (weighted_sum l run)) e

  first_allowed : (n : ℕ) (c : Constraint) → member l n ≡ Some c → (t : ℚ) → Allows c.relation t → IsAllowed l (n, t)
  first_allowed n c e t h = subst (λ o. IsSomeAnd o (λ k. Allows k.relation t)) (sym e) h

  module _ (d : Tableau) (number : ℕ → ℕ) where
    entries_value : (v : ℕ → ℚ) (s : List Monomial) → AllNumbered d l number s → value_at v (weighted_sum l (entries number s)) ≡ neg_ℚ (sum_at (numbers d v) s)
    entries_value v [] a = value_at-constant_form v 0ℚ ∙ ring [] (int (pos 0)) (minus (int (pos 0))) refl
    entries_value v (m ∷ s) a =
        run_first v (number m.variable, neg_ℚ m.factor) (entries number s)
        ∙ ap₂ (λ g r. neg_ℚ m.factor *ℚ value_at v g +ℚ r)
        (member_form (member l (number m.variable)) (d.form m.variable) (λ c. Allows c.relation (neg_ℚ m.factor)) a.0) (entries_value v s a.1)
        ∙ ring (m.factor ∷ numbers d v m.variable ∷ sum_at (numbers d v) s ∷ []) (minus x0 ⊗ x1 ⊕ minus x2) (minus (x0 ⊗ x1 ⊕ x2)) refl

    entries_allowed : (s : List Monomial) → AllNumbered d l number s → AllByRecursion (IsAllowed l) (entries number s)
    entries_allowed [] a = tt
    entries_allowed (m ∷ s) a =
        (member_part (member l (number m.variable)) (λ c. c.form ≡ d.form m.variable) (λ c. Allows c.relation (neg_ℚ m.factor)) a.0, entries_allowed s a.1)

    module _ (w : IsWritten d) (f : Linear) (p : Place d f) (a : IsNumbered d l number p.quantity) where
      row_allowed : AllByRecursion (IsAllowed l) (row_entries number (d.row p.quantity))
      row_allowed =
          allowed_append (entries number (d.row p.quantity).live) (entries number (d.row p.quantity).dropped) (entries_allowed (d.row p.quantity).live a.live)
          (entries_allowed (d.row p.quantity).dropped a.dropped)

      -- the form and the row's run together are the row's constant
      row_value : (v : ℕ → ℚ) → value_at v f +ℚ value_at v (weighted_sum l (row_entries number (d.row p.quantity))) ≡ (d.row p.quantity).constant
      row_value v =
          ap₂ (λ s r. s +ℚ r) (ap (value_at v) (sym p.form_is) ∙ w.rows p.quantity p.made v)
          (run_append v (entries number (d.row p.quantity).live) (entries number (d.row p.quantity).dropped)
          ∙ ap₂ (λ s r. s +ℚ r) (entries_value v (d.row p.quantity).live a.live) (entries_value v (d.row p.quantity).dropped a.dropped))
          ∙ ring ((d.row p.quantity).constant ∷ sum_at (numbers d v) (d.row p.quantity).live ∷ sum_at (numbers d v) (d.row p.quantity).dropped ∷ [])
          (x0 ⊕ (x1 ⊕ x2) ⊕ (minus x1 ⊕ minus x2)) x0 refl

      once_value : (n : ℕ) (c : Constraint) → member l n ≡ Some c → c.form ≡ f → (v : ℕ → ℚ) →
          value_at v (weighted_sum l ((n, 1ℚ) ∷ row_entries number (d.row p.quantity))) ≡ (d.row p.quantity).constant
      once_value n c e g v =
          let r : ℚ = value_at v (weighted_sum l (row_entries number (d.row p.quantity))) in
          first_value v n c e 1ℚ (row_entries number (d.row p.quantity)) ∙ ap (λ h. 1ℚ *ℚ value_at v h +ℚ r) g
          ∙ ring (value_at v f ∷ r ∷ []) (int (pos 1) ⊗ x0 ⊕ x1) (x0 ⊕ x1) refl ∙ row_value v

      -- a member whose form's row has a constant below zero, or the constant zero and a strict member in the run
      pub once_refutes : (n : ℕ) (c : Constraint) → member l n ≡ Some c → c.form ≡ f → (c.relation ≡ Ne → ⊥) →
          ((d.row p.quantity).constant <ℚ 0ℚ) ⊎ (((d.row p.quantity).constant ≡ 0ℚ) × SomeStrict l ((n, 1ℚ) ∷ row_entries number (d.row p.quantity))) →
          Refutes ((n, 1ℚ) ∷ row_entries number (d.row p.quantity)) l
      once_refutes n c e g r x =
          inl (false_run ((n, 1ℚ) ∷ row_entries number (d.row p.quantity)) (d.row p.quantity).constant
          (first_allowed n c e 1ℚ (one_allowed c.relation r), row_allowed) (once_value n c e g) x)

      -- a strict member whose form's row has the constant zero
      pub strict_refutes : (n : ℕ) → member l n ≡ Some (above_zero f) → (d.row p.quantity).constant ≡ 0ℚ →
          Refutes ((n, 1ℚ) ∷ row_entries number (d.row p.quantity)) l
      strict_refutes n e z =
          once_refutes n (above_zero f) e refl gt_not_ne
          (inr (z, inl (subst (λ o. IsSomeAnd o (λ c. (c.relation ≡ Gt) × IsPositive 1ℚ)) (sym e) (refl, pos_one))))
        where
          gt_not_ne : Gt ≡ Ne → ⊥
          gt_not_ne e = cc

      strict_in_live : (e : ℕ × ℚ) → SomeStrict l (entries number (d.row p.quantity).live) → SomeStrict l (e ∷ row_entries number (d.row p.quantity))
      strict_in_live e h = inr (strict_append (entries number (d.row p.quantity).live) (entries number (d.row p.quantity).dropped) h)

      -- a member whose form's row has the constant zero and a strict member's column
      pub face_refutes : (n : ℕ) (c : Constraint) → member l n ≡ Some c → c.form ≡ f → (c.relation ≡ Ne → ⊥) → (d.row p.quantity).constant ≡ 0ℚ →
          SomeStrict l (entries number (d.row p.quantity).live) → Refutes ((n, 1ℚ) ∷ row_entries number (d.row p.quantity)) l
      face_refutes n c e g r z s = once_refutes n c e g r (inr (z, strict_in_live (n, 1ℚ) s))

    -- the negative of a form
    module _ (w : IsWritten d) (f : Linear) (p : Place d (negated_form f)) (a : IsNumbered d l number p.quantity) where
      against_value : (n : ℕ) (c : Constraint) → member l n ≡ Some c → c.form ≡ f → (v : ℕ → ℚ) →
          value_at v (weighted_sum l ((n, neg_ℚ 1ℚ) ∷ row_entries number (d.row p.quantity))) ≡ (d.row p.quantity).constant
      against_value n c e g v =
          let r : ℚ = value_at v (weighted_sum l (row_entries number (d.row p.quantity))) in
          first_value v n c e (neg_ℚ 1ℚ) (row_entries number (d.row p.quantity)) ∙ ap (λ h. neg_ℚ 1ℚ *ℚ value_at v h +ℚ r) g
          ∙ ring (value_at v f ∷ r ∷ []) (minus (int (pos 1)) ⊗ x0 ⊕ x1) (minus x0 ⊕ x1) refl
          ∙ ap (λ b. b +ℚ r) (sym (value_at-negated_form v f)) ∙ row_value w (negated_form f) p a v

      pub equation_refutes : (n : ℕ) → member l n ≡ Some (equal_zero f) →
          ((d.row p.quantity).constant <ℚ 0ℚ) ⊎ (((d.row p.quantity).constant ≡ 0ℚ) × SomeStrict l (entries number (d.row p.quantity).live)) →
          Refutes ((n, neg_ℚ 1ℚ) ∷ row_entries number (d.row p.quantity)) l
      equation_refutes n e x =
          inl (false_run ((n, neg_ℚ 1ℚ) ∷ row_entries number (d.row p.quantity)) (d.row p.quantity).constant
          (first_allowed n (equal_zero f) e (neg_ℚ 1ℚ) tt, row_allowed w (negated_form f) p a) (against_value n (equal_zero f) e refl) (wrong x))
        where
          wrong : ((d.row p.quantity).constant <ℚ 0ℚ) ⊎ (((d.row p.quantity).constant ≡ 0ℚ) × SomeStrict l (entries number (d.row p.quantity).live)) →
              ((d.row p.quantity).constant <ℚ 0ℚ) ⊎ (((d.row p.quantity).constant ≡ 0ℚ) × SomeStrict l ((n, neg_ℚ 1ℚ) ∷ row_entries number (d.row p.quantity)))
          wrong (inl h) = inl h
          wrong (inr h) = inr (h.0, strict_in_live w (negated_form f) p a (n, neg_ℚ 1ℚ) h.1)

-- a disequation, where the rows of its form and of its negative have the constant zero
pub apart_refutes : (d e : Tableau) (l : List Constraint) (number : ℕ → ℕ) (w : IsWritten d) (x : IsWritten e) (f : Linear) (p : Place d f)
    (q : Place e (negated_form f)) (n : ℕ) → member l n ≡ Some (not_zero f) →
    IsNumbered d l number p.quantity → (d.row p.quantity).constant ≡ 0ℚ → IsNumbered e l number q.quantity → (e.row q.quantity).constant ≡ 0ℚ →
    Refutes ((n, 1ℚ) ∷ row_entries number (d.row p.quantity) ++ (n, neg_ℚ 1ℚ) ∷ row_entries number (e.row q.quantity)) l
apart_refutes d e l number w x f p q n h a z b y =
    inr (record {
      number = n;
      disequation = subst (λ o. IsSomeAnd o (λ c. c.relation ≡ Ne)) (sym h) refl;
      up = 1ℚ;
      down = neg_ℚ 1ℚ;
      up_is_positive = pos_to_lt pos_one;
      down_is_negative = record { gap = subst IsPositive (ring [] (int (pos 1)) (int (pos 0) ⊕ minus (minus (int (pos 1)))) refl) pos_one };
      first = row_entries number (d.row p.quantity);
      second = row_entries number (e.row q.quantity);
      parts = refl;
      not_above =
          false_behind l (n, 1ℚ) (row_entries number (d.row p.quantity)) (row_allowed l d number w f p a)
          (λ v. once_value l d number w f p a n (not_zero f) h refl v ∙ z);
      not_below =
          false_behind l (n, neg_ℚ 1ℚ) (row_entries number (e.row q.quantity)) (row_allowed l e number x (negated_form f) q b)
          (λ v. against_value l e number x f q b n (not_zero f) h refl v ∙ y);
    })
