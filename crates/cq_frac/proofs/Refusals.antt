-- An operation takes two numbers or refuses them, and never both.
use Rattle.std.proofs.Common.{◌≤◌, ◌<◌, ℕ, ◌⊎◌, inl, inr, nat_abs, ◌+ℤ◌}
use Rattle.std.proofs.lemmas.Bool.{cases_lt}
use Rattle.spec_numbers.specs.Rational.{ℚ, denominator, neg_ℚ, ◌*ℚ◌, ◌/ℚ◌}
use Rattle.cq_frac.specs.declared.Operation.{Operation}
use Rattle.cq_frac.specs.declared.Operation.TheVariants.{Sum, Difference, Product, Quotient}
use Rattle.cq_frac.specs.Fits.{Fits, Exceeds, SumAccepted, SumRefused, limit, left_term, right_term, common_den}
use Rattle.cq_frac.specs.Refused.{Accepts, Refuses, AcceptsOrRefuses, NeverBoth}
use Rattle.cq_frac.proofs.Parts.{fits_not_exceeds}
use Rattle.cq_frac.proofs.Sums.{accepted_not_refused}

pub never_both : NeverBoth
never_both Sum p q a r = accepted_not_refused p q a r
never_both Difference p q a r = accepted_not_refused p (neg_ℚ q) a r
never_both Product p q a r = fits_not_exceeds (p *ℚ q) a r
never_both Quotient p q a r = fits_not_exceeds (p /ℚ q) a r

fits_or_exceeds : (q : ℚ) → Fits q ⊎ Exceeds q
fits_or_exceeds q = go (cases_lt (nat_abs q.numerator) limit) (cases_lt (denominator q) limit)
  where
    go : (nat_abs q.numerator < limit) ⊎ (limit ≤ nat_abs q.numerator) → (denominator q < limit) ⊎ (limit ≤ denominator q) → Fits q ⊎ Exceeds q
    go (inl n) (inl d) = inl (record { num_fits = n; den_fits = d })
    go (inl n) (inr d) = inr (inr d)
    go (inr n) d = inr (inl n)

abbrev IsDecided : ℕ → Type 0
IsDecided n = (n < limit) ⊎ (limit ≤ n)

sum_or_refused : (p q : ℚ) → SumAccepted p q ⊎ SumRefused p q
sum_or_refused p q =
    go (cases_lt (nat_abs (left_term p q)) limit) (cases_lt (nat_abs (right_term p q)) limit) (cases_lt (nat_abs (left_term p q +ℤ right_term p q)) limit) (cases_lt (common_den p q) limit)
  where
    go : IsDecided (nat_abs (left_term p q)) → IsDecided (nat_abs (right_term p q)) → IsDecided (nat_abs (left_term p q +ℤ right_term p q)) → IsDecided (common_den p q) → SumAccepted p q ⊎ SumRefused p q
    go (inl a) (inl b) (inl c) (inl d) = inl (record { left_fits = a; right_fits = b; sum_fits = c; den_fits = d })
    go (inl a) (inl b) (inl c) (inr d) = inr (inr (inr (inr d)))
    go (inl a) (inl b) (inr c) d = inr (inr (inr (inl c)))
    go (inl a) (inr b) c d = inr (inr (inl b))
    go (inr a) b c d = inr (inl a)

pub accepts_or_refuses : AcceptsOrRefuses
accepts_or_refuses Sum p q = sum_or_refused p q
accepts_or_refuses Difference p q = sum_or_refused p (neg_ℚ q)
accepts_or_refuses Product p q = fits_or_exceeds (p *ℚ q)
accepts_or_refuses Quotient p q = fits_or_exceeds (p /ℚ q)

-- what is not refused is taken
pub accepted : (o : Operation) (p q : ℚ) → (Refuses o p q → ⊥) → Accepts o p q
accepted o p q n = elim (accepts_or_refuses o p q) [ inl a ↦ a | inr r ↦ absurd (n r) ]
