use Rattle.spec_numbers.proofs.rational.total_order.Goals as goal
use Rattle.spec_numbers.proofs.Order.{cmp_ℚ-matches, cmp_ℚ-total, lt_to_cross, lt_irrefl, lt_or_le, le_antisym, add_lt_le, mul_lt}

pub returns-clause-told : goal.returns-clause-told
returns-clause-told c = cmp_ℚ-matches

pub returns-clause-total : goal.returns-clause-total
returns-clause-total c = cmp_ℚ-total

pub returns-clause-cross : goal.returns-clause-cross
returns-clause-cross c = lt_to_cross

pub returns-clause-irreflexive : goal.returns-clause-irreflexive
returns-clause-irreflexive c p h = lt_irrefl h

pub returns-clause-weak : goal.returns-clause-weak
returns-clause-weak c = lt_or_le

pub returns-clause-antisymmetric : goal.returns-clause-antisymmetric
returns-clause-antisymmetric c p q h k = le_antisym h k

pub returns-clause-kept_by_sums : goal.returns-clause-kept_by_sums
returns-clause-kept_by_sums c p q r s h k = add_lt_le h k

pub returns-clause-kept_by_products : goal.returns-clause-kept_by_products
returns-clause-kept_by_products c p q t n h = mul_lt t n h
