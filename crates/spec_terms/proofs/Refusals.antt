-- The test of a refusal tells what the fractions take and refuse.
use Rattle.std.proofs.Common.{◌≡◌, ℕ, ◌≤◌, Bool, true, false, ◌⊎◌, inl, inr, nat_le, nat_abs, ◌+ℤ◌, ◌||◌}
use Rattle.spec_numbers.specs.Rational.{ℚ, denominator, neg_ℚ, ◌*ℚ◌, ◌/ℚ◌}
use Rattle.cq_frac.specs.Fits.{Fits, Exceeds, SumAccepted, SumRefused, limit, left_term, right_term, common_den}
use Rattle.cq_frac.specs.Refused.{Refuses, Accepts}
use Rattle.cq_frac.specs.declared.Operation.{Operation}
use Rattle.cq_frac.specs.declared.Operation.TheVariants.{Sum, Difference, Product, Quotient}
use Rattle.spec_terms.specs.Operations.{refuses, refuses_sum, exceeds}
use Rattle.spec_numbers.proofs.Tests.{le_false, le_true, neither, one_is, or_left, or_right, true_le}

exceeds_true : (q : ℚ) → Exceeds q → exceeds q ≡ true
exceeds_true q (inl h) = or_left (nat_le limit (nat_abs q.numerator)) (nat_le limit (denominator q)) (le_true limit (nat_abs q.numerator) h)
exceeds_true q (inr h) = or_right (nat_le limit (nat_abs q.numerator)) (nat_le limit (denominator q)) (le_true limit (denominator q) h)

exceeds_false : (q : ℚ) → Fits q → exceeds q ≡ false
exceeds_false q h = neither _ _ (le_false _ _ h.num_fits) (le_false _ _ h.den_fits)

one_of_four : (a b c d : Bool) → (a ≡ true) ⊎ ((b ≡ true) ⊎ ((c ≡ true) ⊎ (d ≡ true))) → (a || (b || (c || d))) ≡ true
one_of_four a b c d (inl e) = or_left a (b || (c || d)) e
one_of_four a b c d (inr (inl e)) = or_right a (b || (c || d)) (or_left b (c || d) e)
one_of_four a b c d (inr (inr (inl e))) = or_right a (b || (c || d)) (or_right b (c || d) (or_left c d e))
one_of_four a b c d (inr (inr (inr e))) = or_right a (b || (c || d)) (or_right b (c || d) (or_right c d e))

four_of : (p q : ℚ) → (nat_le limit (nat_abs (left_term p q)) ≡ true) ⊎ ((nat_le limit (nat_abs (right_term p q)) ≡ true) ⊎ ((nat_le limit (nat_abs (left_term p q +ℤ right_term p q)) ≡ true) ⊎ (nat_le limit (common_den p q) ≡ true))) → refuses_sum p q ≡ true
four_of p q = one_of_four (nat_le limit (nat_abs (left_term p q))) (nat_le limit (nat_abs (right_term p q))) (nat_le limit (nat_abs (left_term p q +ℤ right_term p q))) (nat_le limit (common_den p q))

sum_true : (p q : ℚ) → SumRefused p q → refuses_sum p q ≡ true
sum_true p q (inl h) = four_of p q (inl (le_true _ _ h))
sum_true p q (inr (inl h)) = four_of p q (inr (inl (le_true _ _ h)))
sum_true p q (inr (inr (inl h))) = four_of p q (inr (inr (inl (le_true _ _ h))))
sum_true p q (inr (inr (inr h))) = four_of p q (inr (inr (inr (le_true _ _ h))))

sum_false : (p q : ℚ) → SumAccepted p q → refuses_sum p q ≡ false
sum_false p q h =
    neither _ _ (le_false _ _ h.left_fits)
    (neither _ _ (le_false _ _ h.right_fits) (neither _ _ (le_false _ _ h.sum_fits) (le_false _ _ h.den_fits)))

pub refuses_true : (o : Operation) (p q : ℚ) → Refuses o p q → refuses o p q ≡ true
refuses_true Sum p q h = sum_true p q h
refuses_true Difference p q h = sum_true p (neg_ℚ q) h
refuses_true Product p q h = exceeds_true (p *ℚ q) h
refuses_true Quotient p q h = exceeds_true (p /ℚ q) h

pub refuses_false : (o : Operation) (p q : ℚ) → Accepts o p q → refuses o p q ≡ false
refuses_false Sum p q h = sum_false p q h
refuses_false Difference p q h = sum_false p (neg_ℚ q) h
refuses_false Product p q h = exceeds_false (p *ℚ q) h
refuses_false Quotient p q h = exceeds_false (p /ℚ q) h

-- ---- and back
exceeds_back : (q : ℚ) → exceeds q ≡ true → Exceeds q
exceeds_back q e = go (one_is (nat_le limit (nat_abs q.numerator)) (nat_le limit (denominator q)) e)
  where
    go : (nat_le limit (nat_abs q.numerator) ≡ true) ⊎ (nat_le limit (denominator q) ≡ true) → Exceeds q
    go (inl d) = inl (true_le limit (nat_abs q.numerator) d)
    go (inr d) = inr (true_le limit (denominator q) d)

module _ (a b c d : ℕ) where
  of_four : (nat_le limit a || (nat_le limit b || (nat_le limit c || nat_le limit d))) ≡ true → (limit ≤ a) ⊎ ((limit ≤ b) ⊎ ((limit ≤ c) ⊎ (limit ≤ d)))
  of_four e = first (one_is (nat_le limit a) (nat_le limit b || (nat_le limit c || nat_le limit d)) e)
    where
      third : (nat_le limit c ≡ true) ⊎ (nat_le limit d ≡ true) → (limit ≤ c) ⊎ (limit ≤ d)
      third (inl h) = inl (true_le limit c h)
      third (inr h) = inr (true_le limit d h)

      second : (nat_le limit b ≡ true) ⊎ ((nat_le limit c || nat_le limit d) ≡ true) → (limit ≤ b) ⊎ ((limit ≤ c) ⊎ (limit ≤ d))
      second (inl h) = inl (true_le limit b h)
      second (inr h) = inr (third (one_is (nat_le limit c) (nat_le limit d) h))

      first : (nat_le limit a ≡ true) ⊎ ((nat_le limit b || (nat_le limit c || nat_le limit d)) ≡ true) → (limit ≤ a) ⊎ ((limit ≤ b) ⊎ ((limit ≤ c) ⊎ (limit ≤ d)))
      first (inl h) = inl (true_le limit a h)
      first (inr h) = inr (second (one_is (nat_le limit b) (nat_le limit c || nat_le limit d) h))

sum_back : (p q : ℚ) → refuses_sum p q ≡ true → SumRefused p q
sum_back p q e = of_four (nat_abs (left_term p q)) (nat_abs (right_term p q)) (nat_abs (left_term p q +ℤ right_term p q)) (common_den p q) e

pub true_refuses : (o : Operation) (p q : ℚ) → refuses o p q ≡ true → Refuses o p q
true_refuses Sum p q e = sum_back p q e
true_refuses Difference p q e = sum_back p (neg_ℚ q) e
true_refuses Product p q e = exceeds_back (p *ℚ q) e
true_refuses Quotient p q e = exceeds_back (p /ℚ q) e
