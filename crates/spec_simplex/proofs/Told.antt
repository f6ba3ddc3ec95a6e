-- The variables that a told constraint fixes, from the invariants before and after.
use Rattle.std.proofs.Common.{◌≡◌, ℕ, List, [], ◌∷◌, ◌++◌, inl, inr, ap, sym, ◌∙◌}
use Rattle.spec_numbers.specs.Rational.{ℚ, 0ℚ}
use Rattle.spec_linear.specs.Solution.{Constraint, Fixed, Satisfies}
use Rattle.spec_linear.proofs.Lists.{alike_fixed, fixed_same}
use Rattle.spec_linear.proofs.Values.{value_at-variable_form}
use Rattle.spec_linear.proofs.Far.{weak_satisfied}
use Rattle.spec_linear.proofs.NoVariable.{number_everywhere}
use Rattle.spec_numbers.proofs.Sign.{zero_or_not}
use Rattle.spec_numbers.specs.Sums.{factor_of}
use Rattle.spec_linear.specs.Form.{value_at, variable_form}
use Rattle.spec_simplex.specs.Tableau.{Tableau, numbers, Within, Place, Invariant}
use Rattle.spec_simplex.specs.Fixing.{NewlyFixed, BecomesFixed, StaysAsItIs, was_fixed, is_free, is_unmentioned}
use Rattle.spec_simplex.proofs.Members.{alike, turned, told_last, unmentioned_free}
use Rattle.spec_simplex.proofs.TableauWritten.{fixed, not_fixed, within_is, solvable_of}

module _ (d e : Tableau) (l : List Constraint) (c : Constraint) (i : Invariant d l) (j : Invariant e (c ∷ l)) (x : ℕ) where
  last_there : (q : ℚ) → Fixed (c ∷ l) x q → Fixed (l ++ c ∷ []) x q
  last_there q f = alike_fixed (c ∷ l) (l ++ c ∷ []) x q (alike (c ∷ l) (l ++ c ∷ []) (told_last l c)) f

  last_back : (q : ℚ) → Fixed (l ++ c ∷ []) x q → Fixed (c ∷ l) x q
  last_back q f = alike_fixed (l ++ c ∷ []) (c ∷ l) x q (alike (l ++ c ∷ []) (c ∷ l) (turned (c ∷ l) (l ++ c ∷ []) (told_last l c))) f

  pub newly : BecomesFixed d e x → NewlyFixed l (l ++ c ∷ []) x
  newly b = record {
    value = (e.row b.after.quantity).constant;
    fixed = last_there (e.row b.after.quantity).constant (fixed e (c ∷ l) j x b.after b.no_entry);
    not_before = not_fixed d l i x b.before b.column b.entry;
  }

  pub not_newly : StaysAsItIs d e l c x → NewlyFixed l (l ++ c ∷ []) x → ⊥
  not_newly (was_fixed p h) n = n.not_before (d.row p.quantity).constant (fixed d l i x p h)
  not_newly (is_free p k h) n = not_fixed e (c ∷ l) j x p k h n.value (last_back n.value n.fixed)
  not_newly (is_unmentioned u) n = unmentioned_free (c ∷ l) x u n.value (last_back n.value n.fixed)

  -- where no column is dropped, no variable becomes fixed
  pub none_newly : ((v : ℕ → ℚ) → Within d v → Within e v) → Place e (variable_form x) → NewlyFixed l (l ++ c ∷ []) x → ⊥
  none_newly w p n = n.not_before (e.row p.quantity).constant ((fixed_same l x (e.row p.quantity).constant).1 (solvable_of d l i, always))
    where
      none : (k : ℕ) → factor_of k (e.row p.quantity).live ≡ 0ℚ
      none k = elim (zero_or_not (factor_of k (e.row p.quantity).live)) [
        | inl z ↦ z
        | inr m ↦ absurd (not_fixed e (c ∷ l) j x p k m n.value (last_back n.value n.fixed))
      ]

      always : (a : ℕ → ℚ) → Satisfies a l → a x ≡ (e.row p.quantity).constant
      always a s =
          sym (value_at-variable_form a x) ∙ ap (value_at a) (sym p.form_is)
          ∙ within_is e j.sound.written p.quantity p.made a (w a (i.sound.inside a (weak_satisfied a l s)))
          ∙ number_everywhere (record { products = (e.row p.quantity).live; constant = (e.row p.quantity).constant }) none (numbers e a)
