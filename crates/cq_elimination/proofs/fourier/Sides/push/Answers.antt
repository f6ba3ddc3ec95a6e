use Rattle.std.proofs.Common.{rules, ◌≡◌, inl, [], ◌∷◌, ◌++◌, Err, refl, ap, subst, ◌∙◌}
use Rattle.spec_numbers.specs.Rational.{neg_ℚ, IsPositive}
use Rattle.spec_numbers.proofs.Sign.{not_pos_zero}
use Rattle.spec_linear.specs.Form.{is_zero}
use Rattle.spec_projection.specs.Elimination.{coefficient, is_positive}
use Rattle.spec_projection.proofs.Mentions.{unmentioned_factor}
use Rattle.cq_elimination.specs.FourierSides.{over_number, over_coefficient}
use Rattle.cq_frac.proofs.Exits.{refusal_told}
use Rattle.cq_elimination.proofs.Bounds.{negative_not_zero, tests_lower, tests_upper, tests_other, passes, fails, passes_itself, fails_itself}
use Rattle.cq_elimination.proofs.Quotients.{divides_by}
use Rattle.cq_elimination.proofs.fourier.Sides.push.Goals as goal
use Rattle.cq_elimination.proofs.fourier.Sides.push.Goals.{in-Other+in_ok-copy-in-Other+in_ok-push-in-Other, in-Lower+in_ok-bound-in-Lower+in_ok-push-in-Lower, in-Upper+in_ok-bound-in-Upper+in_ok-push-in-Upper}

pub divided_row-requires : goal.divided_row-requires
divided_row-requires c = record { nonzero = λ z. not_pos_zero (subst IsPositive z c.in-Lower.ensures.1) }

pub returns-in_err-bound-in-Lower-clause-overflow : goal.returns-in_err-bound-in-Lower-clause-overflow
returns-in_err-bound-in-Lower-clause-overflow c = λ pair e.
    divides_by c.args.variable.0 c.args.row.now c.in-Lower.factor (c.args.row.now ∷ []) pair c.in-Lower.ensures.0 (λ z. not_pos_zero (subst IsPositive z c.in-Lower.ensures.1)) (inl refl)
    (c.in_err-bound-in-Lower.ensures.overflow pair (ap Err (refusal_told _ _ pair c.from_residual-in_err-bound-in-Lower.ensures.1 e)))

pub divided_row-requires-in-Upper : goal.divided_row-requires-in-Upper
divided_row-requires-in-Upper c = record { nonzero = negative_not_zero c.in-Upper.factor c.in-Upper.ensures.1 }

pub returns-in_err-bound-in-Upper-clause-overflow : goal.returns-in_err-bound-in-Upper-clause-overflow
returns-in_err-bound-in-Upper-clause-overflow c = λ pair e.
    divides_by c.args.variable.0 c.args.row.now c.in-Upper.factor (c.args.row.now ∷ []) pair c.in-Upper.ensures.0 (negative_not_zero c.in-Upper.factor c.in-Upper.ensures.1) (inl refl)
    (c.in_err-bound-in-Upper.ensures.overflow pair (ap Err (refusal_told _ _ pair c.from_residual-in_err-bound-in-Upper.ensures.1 e)))

pub returns-clause-others : goal.returns-clause-others
returns-clause-others c =
    elim c.match-side_of.branch [
      | in-Other+in_ok-copy-in-Other+in_ok-push-in-Other w ↦
          let more : c.match-side_of.self.others.items ≡ c.args.self.now.others.items ++ c.args.row.now ∷ [] = search rules in
          passes_itself (is_zero (coefficient c.args.variable.0 c.args.row.now)) c.args.row.now c.args.self.now.others.items c.match-side_of.self.others.items
          (tests_other (coefficient c.args.variable.0 c.args.row.now) (unmentioned_factor c.args.variable.0 c.args.row.now.form.products w.in-Other.ensures)).other_is more
      | in-Lower+in_ok-bound-in-Lower+in_ok-push-in-Lower w ↦
          let same : c.match-side_of.self.others.items ≡ c.args.self.now.others.items = search rules in
          fails_itself (is_zero (coefficient c.args.variable.0 c.args.row.now)) c.args.row.now c.args.self.now.others.items c.match-side_of.self.others.items
          (tests_lower (coefficient c.args.variable.0 c.args.row.now) (subst IsPositive w.in-Lower.ensures.0 w.in-Lower.ensures.1)).other_is same
      | in-Upper+in_ok-bound-in-Upper+in_ok-push-in-Upper w ↦
          let same : c.match-side_of.self.others.items ≡ c.args.self.now.others.items = search rules in
          fails_itself (is_zero (coefficient c.args.variable.0 c.args.row.now)) c.args.row.now c.args.self.now.others.items c.match-side_of.self.others.items
          (tests_upper (coefficient c.args.variable.0 c.args.row.now) (subst (λ k. IsPositive (neg_ℚ k)) w.in-Upper.ensures.0 w.in-Upper.ensures.1)).other_is same
    ]

pub returns-clause-lower : goal.returns-clause-lower
returns-clause-lower c =
    elim c.match-side_of.branch [
      | in-Other+in_ok-copy-in-Other+in_ok-push-in-Other w ↦
          let same : c.match-side_of.self.lower.items ≡ c.args.self.now.lower.items = search rules in
          fails (over_coefficient c.args.variable.0) (is_positive (coefficient c.args.variable.0 c.args.row.now)) c.args.row.now c.args.self.now.lower.items c.match-side_of.self.lower.items
          (tests_other (coefficient c.args.variable.0 c.args.row.now) (unmentioned_factor c.args.variable.0 c.args.row.now.form.products w.in-Other.ensures)).lower_is same
      | in-Lower+in_ok-bound-in-Lower+in_ok-push-in-Lower w ↦
          let more : c.match-side_of.self.lower.items ≡ c.args.self.now.lower.items ++ over_number w.in-Lower.factor c.args.row.now ∷ [] = search rules in
          passes (over_coefficient c.args.variable.0) (is_positive (coefficient c.args.variable.0 c.args.row.now)) c.args.row.now c.args.self.now.lower.items c.match-side_of.self.lower.items
          (tests_lower (coefficient c.args.variable.0 c.args.row.now) (subst IsPositive w.in-Lower.ensures.0 w.in-Lower.ensures.1)).lower_is
          (more ∙ ap (λ k. c.args.self.now.lower.items ++ over_number k c.args.row.now ∷ []) w.in-Lower.ensures.0)
      | in-Upper+in_ok-bound-in-Upper+in_ok-push-in-Upper w ↦
          let same : c.match-side_of.self.lower.items ≡ c.args.self.now.lower.items = search rules in
          fails (over_coefficient c.args.variable.0) (is_positive (coefficient c.args.variable.0 c.args.row.now)) c.args.row.now c.args.self.now.lower.items c.match-side_of.self.lower.items
          (tests_upper (coefficient c.args.variable.0 c.args.row.now) (subst (λ k. IsPositive (neg_ℚ k)) w.in-Upper.ensures.0 w.in-Upper.ensures.1)).lower_is same
    ]

pub returns-clause-upper : goal.returns-clause-upper
returns-clause-upper c =
    elim c.match-side_of.branch [
      | in-Other+in_ok-copy-in-Other+in_ok-push-in-Other w ↦
          let same : c.match-side_of.self.upper.items ≡ c.args.self.now.upper.items = search rules in
          fails (over_coefficient c.args.variable.0) (is_positive (neg_ℚ (coefficient c.args.variable.0 c.args.row.now))) c.args.row.now c.args.self.now.upper.items c.match-side_of.self.upper.items
          (tests_other (coefficient c.args.variable.0 c.args.row.now) (unmentioned_factor c.args.variable.0 c.args.row.now.form.products w.in-Other.ensures)).upper_is same
      | in-Lower+in_ok-bound-in-Lower+in_ok-push-in-Lower w ↦
          let same : c.match-side_of.self.upper.items ≡ c.args.self.now.upper.items = search rules in
          fails (over_coefficient c.args.variable.0) (is_positive (neg_ℚ (coefficient c.args.variable.0 c.args.row.now))) c.args.row.now c.args.self.now.upper.items c.match-side_of.self.upper.items
          (tests_lower (coefficient c.args.variable.0 c.args.row.now) (subst IsPositive w.in-Lower.ensures.0 w.in-Lower.ensures.1)).upper_is same
      | in-Upper+in_ok-bound-in-Upper+in_ok-push-in-Upper w ↦
          let more : c.match-side_of.self.upper.items ≡ c.args.self.now.upper.items ++ over_number w.in-Upper.factor c.args.row.now ∷ [] = search rules in
          passes (over_coefficient c.args.variable.0) (is_positive (neg_ℚ (coefficient c.args.variable.0 c.args.row.now))) c.args.row.now c.args.self.now.upper.items c.match-side_of.self.upper.items
          (tests_upper (coefficient c.args.variable.0 c.args.row.now) (subst (λ k. IsPositive (neg_ℚ k)) w.in-Upper.ensures.0 w.in-Upper.ensures.1)).upper_is
          (more ∙ ap (λ k. c.args.self.now.upper.items ++ over_number k c.args.row.now ∷ []) w.in-Upper.ensures.0)
    ]
