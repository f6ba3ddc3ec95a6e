-- The answer of X>0.
use Rattle.std.proofs.Common.{◌≡◌, ◌↔◌, ℕ, List, [], ◌∷◌, ◌++◌, pos, inl, inr, codes, refl, sym, ap, ap₂, ◌∙◌, subst}
use Rattle.spec_numbers.specs.Gcd.{gcd}
use Rattle.spec_numbers.specs.Rational.{ℚ, 0ℚ, 1ℚ, ratio, int_ℚ, neg_ℚ, ◌+ℚ◌, ◌-ℚ◌, ◌*ℚ◌, IsPositive}
use Rattle.spec_numbers.specs.Sums.{Monomial, sum_at}
use Rattle.spec_numbers.proofs.Ring.{var, int, ◌⊕◌, ◌⊗◌, minus}
use Rattle.spec_numbers.proofs.RationalLemmas.{ring}
use Rattle.spec_numbers.proofs.Sums.{sum_at-agrees, sum_at-times}
use Rattle.spec_numbers.proofs.Sign.{pos_one, pos_add, pos_nonneg, not_pos_zero, one_not_zero}
use Rattle.spec_numbers.proofs.Places.{nothing_within}
use Rattle.spec_linear.specs.declared.Relation.TheVariants.{Gt, Ge}
use Rattle.spec_linear.specs.Form.{Linear, value_at, constant_form, variable_form, difference_form}
use Rattle.spec_linear.specs.Solution.{Constraint, Entails, Satisfies, Extends, Same, Has, SomeMentions, MentionsOnly, number, equal_zero}
use Rattle.spec_linear.proofs.Values.{value_at-constant_form, value_at-variable_form, value_at-difference_form}
use Rattle.spec_linear.proofs.Points.{holds_same, solves_same}
use Rattle.spec_linear.proofs.Denominators.{extends}
use Rattle.spec_linear.proofs.Lists.{entails_same}
use Rattle.spec_linear.specs.Echelon.{IsEchelon, IsOver}
use Rattle.spec_syntax.specs.Standard.{standard}
use Rattle.spec_projection.specs.Others.{AreOthers}
use Rattle.spec_projection.specs.Printed.{Above}
use Rattle.spec_projection.specs.Strict.{HasForm}
use Rattle.spec_answers.specs.Rows.{Inequality, Rows, inequality}
use Rattle.spec_answers.specs.Forms.{IsScaled}
use Rattle.spec_answers.specs.Answer.{AnswerForm}
use Rattle.spec_answers.specs.Samples.{named, above_zero}
use Rattle.spec_answers.proofs.Plain.{keeps_nothing}

abbrev row : Constraint
row = record { relation = Gt; form = difference_form (variable_form 0) (constant_form 0ℚ) }

abbrev list : List Constraint
list = row ∷ []

abbrev x : Monomial
x = record { variable = 0; factor = 1ℚ }

abbrev printed : Inequality
printed = record { products = x ∷ []; comparison = Above; bound = 0ℚ }

abbrev rows : Rows
rows = record { equations = []; inequalities = printed ∷ []; disequations = [] }

-- ---- both say that X is positive

row_value : (a : ℕ → ℚ) → value_at a row.form ≡ a 0
row_value a =
    value_at-difference_form a (variable_form 0) (constant_form 0ℚ)
    ∙ ap₂ (λ p q. p -ℚ q) (value_at-variable_form a 0) (value_at-constant_form a 0ℚ)
    ∙ ring (a 0 ∷ []) (var 0 ⊕ minus (int (pos 0))) (var 0) refl

printed_value : (a : ℕ → ℚ) → value_at a (inequality printed).form ≡ a 0
printed_value a = ring (a 0 ∷ []) (minus (int (pos 0)) ⊕ (int (pos 1) ⊗ var 0 ⊕ int (pos 0))) (var 0) refl

satisfied : (a : ℕ → ℚ) → Satisfies a list ↔ IsPositive (a 0)
satisfied a = (λ h. subst IsPositive (row_value a) h.0, λ h. (subst IsPositive (sym (row_value a)) h, tt))

printed_satisfied : (a : ℕ → ℚ) → Satisfies a (inequality printed ∷ []) ↔ IsPositive (a 0)
printed_satisfied a = (λ h. subst IsPositive (printed_value a) h.0, λ h. (subst IsPositive (sym (printed_value a)) h, tt))

-- ---- no equation is entailed

two : ℚ
two = 1ℚ +ℚ 1ℚ

two_positive : IsPositive two
unfolding two
two_positive = pos_add pos_one (pos_nonneg pos_one)

over_value : (f : Linear) → IsOver (0 ∷ []) f → (a : ℕ → ℚ) → value_at a f ≡ f.constant +ℚ a 0 *ℚ sum_at (λ y. 1ℚ) f.products
over_value f over a =
    ap (λ q. f.constant +ℚ q) (sum_at-agrees a (λ y. a 0 *ℚ 1ℚ) f.products (λ y m. only y (over y m)) ∙ sum_at-times (a 0) (λ y. 1ℚ) f.products)
  where
    only : (y : ℕ) → Has y (0 ∷ []) → a y ≡ a 0 *ℚ 1ℚ
    only y (inl e) = ap a e ∙ ring (a 0 ∷ []) (var 0) (var 0 ⊗ int (pos 1)) refl
    only y (inr never) = elim never [ ]

module _ (f : Linear) (over : IsOver (0 ∷ []) f) (entailed : Entails list (equal_zero f)) where
  abbrev slope : ℚ
  slope = sum_at (λ y. 1ℚ) f.products

  zero_at : (q : ℚ) → IsPositive q → f.constant +ℚ q *ℚ slope ≡ 0ℚ
  zero_at q h = sym (over_value f over (λ y. q)) ∙ (entails_same list (equal_zero f)).0 entailed (λ y. q) ((satisfied (λ y. q)).1 h)

  no_slope : slope ≡ 0ℚ
  unfolding two
  no_slope =
      ring (f.constant ∷ slope ∷ []) (var 1) ((var 0 ⊕ (int (pos 1) ⊕ int (pos 1)) ⊗ var 1) ⊕ minus (var 0 ⊕ int (pos 1) ⊗ var 1)) refl
      ∙ ap₂ (λ p q. p -ℚ q) (zero_at two two_positive) (zero_at 1ℚ pos_one)
      ∙ ring [] (int (pos 0) ⊕ minus (int (pos 0))) (int (pos 0)) refl

  no_constant : f.constant ≡ 0ℚ
  no_constant =
      ring (f.constant ∷ slope ∷ []) (var 0) ((var 0 ⊕ int (pos 1) ⊗ var 1) ⊕ minus (var 1)) refl
      ∙ ap₂ (λ p q. p -ℚ q) (zero_at 1ℚ pos_one) no_slope
      ∙ ring [] (int (pos 0) ⊕ minus (int (pos 0))) (int (pos 0)) refl

  follows : Entails [] (equal_zero f)
  follows p h =
      (holds_same p (equal_zero f)).1 (
      over_value f over (number p)
      ∙ ap₂ (λ c s. c +ℚ number p 0 *ℚ s) no_constant no_slope
      ∙ ring (number p 0 ∷ []) (int (pos 0) ⊕ var 0 ⊗ int (pos 0)) (int (pos 0)) refl)

no_equations : IsEchelon (0 ∷ []) list []
no_equations = record { first = tt; sorted = tt; reduced = tt; entailed = tt; complete = follows }

-- ---- the other conditions

needed : (k m : List Constraint) (c : Constraint) → inequality printed ∷ [] ≡ k ++ c ∷ m → Entails (k ++ m) c → ⊥
needed [] m c e follows =
    let one : inequality printed ≡ c = cc in
    let none : [] ≡ m = cc in
    let h : IsPositive (value_at (λ y. 0ℚ) (inequality printed).form) =
    (entails_same [] (inequality printed)).0 (subst (λ l. Entails l (inequality printed)) (sym none) (subst (Entails m) (sym one) follows)) (λ y. 0ℚ) tt in
    not_pos_zero (subst IsPositive (printed_value (λ y. 0ℚ)) h)
needed (d ∷ k) m c e follows = nothing_within k m c (tail_is e)
  where
    tail_is : inequality printed ∷ [] ≡ d ∷ (k ++ c ∷ m) → [] ≡ k ++ c ∷ m
    tail_is e = cc

same : Same (0 ∷ []) (inequality printed ∷ []) list
same = record { mentions = mentions; same = λ a. (forth a, back a) }
  where
    mentions : MentionsOnly (0 ∷ []) (inequality printed ∷ [])
    mentions y (inl (inl e)) = inl e
    mentions y (inl (inr never)) = elim never [ ]
    mentions y (inr never) = elim never [ ]

    forth : (a : ℕ → ℚ) → Satisfies a (inequality printed ∷ []) → Extends (0 ∷ []) a list
    forth a h = extends (0 ∷ []) a list ((satisfied a).1 ((printed_satisfied a).0 h))

    back : (a : ℕ → ℚ) → Extends (0 ∷ []) a list → Satisfies a (inequality printed ∷ [])
    back a e = (printed_satisfied a).1 (subst IsPositive e.1.0 ((satisfied (number e.0)).0 ((solves_same e.0 list).0 e.2)))

scaled : IsScaled (0 ∷ []) (x ∷ [])
scaled = record { ordered = inl (refl, tt); nonzero = (one_not_zero, tt); first = x; rest = []; leads = refl; one = refl }

no_others : AreOthers (0 ∷ []) list []
unfolding ratio int_ℚ neg_ℚ gcd
no_others = record { youngest_first = tt; others = λ y. (λ h. absurd h, λ h. absurd (h.1 (mentioned y h.0))) }
  where
    mentioned : (y : ℕ) → SomeMentions y list → Has y (0 ∷ [])
    mentioned y (inl (inl e)) = inl e
    mentioned y (inl (inr never)) = absurd never
    mentioned y (inr never) = absurd never

pub positive_answer : AnswerForm standard (named (codes "X") 0 ∷ []) above_zero (codes "{X>0}\n")
unfolding ratio int_ℚ neg_ℚ gcd
positive_answer = record {
  front = [];
  others = no_others;
  kept = [];
  older_first = tt;
  rows = rows;
  keeps = keeps_nothing [] (0 ∷ []) list [] [] refl no_equations (λ y h. absurd h) (λ y h. absurd h);
  form = record {
    projected = record {
      echelon = no_equations;
      unsolved = λ c h. tt;
      irredundant = needed;
      strict = only_strict;
      same = same;
    };
    scaled_inequalities = (scaled, tt);
    scaled_disequations = tt;
    sorted_inequalities = tt;
    sorted_disequations = tt;
  };
  lines = refl;
}
  where
    only_strict : (c : Constraint) → Has c (inequality printed ∷ []) → c.relation ≡ Ge → HasForm c.form (inequality printed ∷ []) → ⊥
    only_strict c (inl e) weak h = let strict : c.relation ≡ Gt = ap (λ (d : Constraint). d.relation) e in let never : Gt ≡ Ge = sym strict ∙ weak in cc
    only_strict c (inr never) weak h = absurd never
