-- The rows of a copy are of numeric variables.
use Rattle.std.proofs.Common.{◌≡◌, ◌≢◌, inl, inr, ℕ, List, [], ◌∷◌, ◌++◌, Bool, true, false, cond, pos, refl, sym, ap, subst, ◌∙◌}
use Rattle.std.specs.Prelude.{filter}
use Rattle.spec_numbers.specs.Rational.{ℚ, 0ℚ, 1ℚ, ◌+ℚ◌, ◌-ℚ◌, ◌*ℚ◌, inv_ℚ, neg_ℚ, IsNotNegative}
use Rattle.spec_numbers.specs.Sums.{factor_of}
use Rattle.spec_numbers.proofs.Ring.{var, int, ◌⊕◌, ◌⊗◌, minus}
use Rattle.spec_numbers.proofs.RationalLemmas.{ring}
use Rattle.spec_numbers.proofs.Sign.{pos_one, not_pos_zero, not_both, one_not_zero, times_inverse}
use Rattle.spec_numbers.proofs.Tests.{nat_eq-apart}
use Rattle.spec_linear.specs.declared.Relation.{Relation}
use Rattle.spec_linear.specs.declared.Relation.TheVariants.{Eq, Gt, Ge, Ne}
use Rattle.spec_linear.specs.Form.{Linear, value_at, changed_at, without, constant_form, scaled_form}
use Rattle.spec_linear.specs.Solution.{Constraint, Meets, Has, SomeMentions, Solvable, Satisfies}
use Rattle.spec_linear.proofs.Values.{value_at-constant_form, value_at-sum_form, value_at-scaled_form, value_at-substituted_form}
use Rattle.spec_linear.proofs.Denominators.{satisfies_agrees, solvable_same, extends}
use Rattle.spec_linear.proofs.Far.{member_satisfied}
use Rattle.spec_projection.proofs.Members.{has_passed}
use Rattle.spec_projection.proofs.Mentions.{factor_mentioned, some_mentions}
use Rattle.spec_syntax.specs.Trees.{Tree}
use Rattle.spec_branch.specs.Branch.{State, Copied}
use Rattle.spec_copies.specs.Copies.{reach, IsCopy}
use Rattle.spec_copies.specs.Alike.{MentionsNumeric}

-- ---- a form takes every value where one of its variables does

module _ (a : ℕ → ℚ) (v : ℕ) (f : Linear) (nonzero : factor_of v f.products ≢ 0ℚ) where
  abbrev k : ℚ
  k = factor_of v f.products

  -- the value of the other products
  abbrev rest : ℚ
  rest = value_at a (record { products = without v f.products; constant = f.constant })

  at : (q : ℚ) → value_at (changed_at v q a) f ≡ rest +ℚ k *ℚ q
  at q =
      ap (λ (z : ℚ). value_at (changed_at v z a) f) (sym (value_at-constant_form a q))
      ∙ sym (value_at-substituted_form a v (constant_form q) f)
      ∙ value_at-sum_form a (record { products = without v f.products; constant = f.constant }) (scaled_form k (constant_form q))
      ∙ ap (λ (z : ℚ). rest +ℚ z) (value_at-scaled_form a k (constant_form q) ∙ ap (λ (z : ℚ). k *ℚ z) (value_at-constant_form a q))

  abbrev place : ℚ → ℚ
  place w = (w -ℚ rest) *ℚ inv_ℚ k

  pub takes : (w : ℚ) → value_at (changed_at v (place w) a) f ≡ w
  takes w =
      at (place w)
      ∙ ring (rest ∷ k ∷ w ∷ inv_ℚ k ∷ []) (var 0 ⊕ var 1 ⊗ ((var 2 ⊕ minus (var 0)) ⊗ var 3)) (var 0 ⊕ (var 2 ⊕ minus (var 0)) ⊗ (var 1 ⊗ var 3)) refl
      ∙ ap (λ (z : ℚ). rest +ℚ (w -ℚ rest) *ℚ z) (times_inverse k nonzero)
      ∙ ring (rest ∷ w ∷ []) (var 0 ⊕ (var 1 ⊕ minus (var 0)) ⊗ int (pos 1)) (var 1) refl

-- no relation to zero is met by all numbers
never_all : (r : Relation) → ((w : ℚ) → Meets r w) → ⊥
never_all Eq h = one_not_zero (h 1ℚ)
never_all Gt h = not_pos_zero (h 0ℚ)
never_all Ge h = not_both pos_one (h (neg_ℚ 1ℚ))
never_all Ne h = h 0ℚ refl

module _ (st : State) (t : Tree) (c : Copied) (numeric : MentionsNumeric st) (solvable : Solvable st.linear) (copy : IsCopy st t c) (row : Constraint)
    (among : Has row c.rows) (v : ℕ) (nonzero : factor_of v row.form.products ≢ 0ℚ) where
  abbrev vs : List ℕ
  vs = reach st t copy.rest ++ copy.kept

  there : Has v vs
  there = copy.rows_say.mentions v (some_mentions v c.rows row among (factor_mentioned v row.form.products nonzero))

  solution : (a : ℕ → ℚ) × Satisfies a st.linear
  solution = (solvable_same st.linear).0 solvable

  -- where the list does not mention the variable, its value is free
  free : (SomeMentions v st.linear → ⊥) → (q : ℚ) → Satisfies (changed_at v q solution.0) st.linear
  free n q =
      satisfies_agrees solution.0 (changed_at v q solution.0) st.linear
      (λ x m. sym (ap (λ (b : Bool). cond b q (solution.0 x)) (nat_eq-apart v x (λ e. n (subst (λ (y : ℕ). SomeMentions y st.linear) (sym e) m)))))
      solution.1

  row_holds : (SomeMentions v st.linear → ⊥) → (w : ℚ) → Meets row.relation w
  row_holds n w =
      let a : ℕ → ℚ = changed_at v (place solution.0 v row.form nonzero w) solution.0 in
      let rows : Satisfies a c.rows = (copy.rows_say.same a).1 (extends vs a st.linear (free n (place solution.0 v row.form nonzero w))) in
      subst (λ (z : ℚ). Meets row.relation z) (takes solution.0 v row.form nonzero w) (member_satisfied a c.rows row among rows)

  by_test : (b : Bool) → st.numeric v ≡ b → Has v c.numeric
  by_test true e = subst (λ (ns : List ℕ). Has v ns) (sym copy.numeric_are) (has_passed st.numeric v vs there e)
  by_test false e = absurd (never_all row.relation (row_holds (λ m. (let d : st.numeric v ≡ true = numeric v m in cc))))

  pub numeric_row : Has v c.numeric
  numeric_row = by_test (st.numeric v) refl
