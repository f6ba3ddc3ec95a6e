-- Where the tests pass, a run refutes a list, or two do.
use Rattle.std.proofs.Common.{◌≡◌, ◌⊎◌, inl, inr, ℕ, List, [], ◌∷◌, ◌++◌, Bool, true, false, not, ◌&&◌, ◌||◌, nat_eq, Option, Some, None, refl, sym, ap, subst, ◌∙◌}
use Rattle.std.specs.Prelude.{IsSomeAnd, ⊤, pos}
use Rattle.std.specs.List.{AllByRecursion, list_all, list_any}
use Rattle.std.specs.declared.cmp.Ordering.{Ordering}
use Rattle.std.specs.declared.cmp.Ordering.TheVariants.{Less, Equal, Greater}
use Rattle.std.specs.Ordering.{MatchOrdering}
use Rattle.spec_numbers.proofs.Tests.{both_are, one_is, nat_eq-same}
use Rattle.spec_numbers.specs.Rational.{ℚ, 0ℚ, ◌+ℚ◌, ◌<ℚ◌, ◌≤ℚ◌, IsPositive, IsNotNegative}
use Rattle.spec_numbers.specs.Order.{cmp_ℚ}
use Rattle.spec_numbers.proofs.Order.{cmp_ℚ-matches, lt_to_pos, lt_to_le, le_refl}
use Rattle.spec_numbers.proofs.Sign.{pos_nonneg, nonneg_zero}
use Rattle.spec_numbers.specs.Sums.{Monomial, sum_at}
use Rattle.spec_numbers.proofs.RationalLemmas.{ring}
use Rattle.spec_numbers.proofs.Ring.{var, int, ◌⊕◌}
use Rattle.spec_linear.specs.declared.Relation.{Relation}
use Rattle.spec_linear.specs.declared.Relation.TheVariants.{Eq, Gt, Ge, Ne}
use Rattle.spec_linear.specs.Form.{Linear, is_empty, is_zero, value_at, constant_form, sum_form}
use Rattle.spec_linear.specs.Solution.{Constraint}
use Rattle.spec_linear.proofs.Values.{is_zero-true, value_at-constant_form, value_at-sum_form}
use Rattle.spec_linear.proofs.NoVariable.{same_number_everywhere}
use Rattle.spec_linear.specs.Certificate.{member, form_or_zero, weighted_sum, Allows, IsAllowed, SomeStrict, HasNoVariable, IsFalseRun, IsFalseBehind, AreFalseRuns, Refutes}
use Rattle.spec_log.proofs.Words.{three_are, four_are}
use Rattle.spec_log.specs.Log.{Run, AreCut}
use Rattle.spec_log.specs.Verdicts.{multiple, added, sum_of, is_less, is_below_zero, is_above_zero, allows, is_allowed_in, are_allowed, is_strict, is_strict_in, some_strict, is_false_run, is_false_behind, is_disequation, is_disequation_in, are_false_runs}

-- ---- signs

below_is : (p q : ℚ) → is_less (cmp_ℚ p q) ≡ true → p <ℚ q
below_is p q e = go (cmp_ℚ p q) (cmp_ℚ-matches p q) e
  where
    go : (o : Ordering) → MatchOrdering o (p <ℚ q) (p ≡ q) (q <ℚ p) → is_less o ≡ true → p <ℚ q
    go Less m d = m
    go Equal m d = cc
    go Greater m d = cc

not_below_is : (p q : ℚ) → is_less (cmp_ℚ p q) ≡ false → q ≤ℚ p
not_below_is p q e = go (cmp_ℚ p q) (cmp_ℚ-matches p q) e
  where
    go : (o : Ordering) → MatchOrdering o (p <ℚ q) (p ≡ q) (q <ℚ p) → is_less o ≡ false → q ≤ℚ p
    go Less m d = cc
    go Equal m d = subst (λ r. r ≤ℚ p) m (le_refl p)
    go Greater m d = lt_to_le m

not_false : (b : Bool) → not b ≡ true → b ≡ false
not_false true e = cc
not_false false e = refl

not_negative : (q : ℚ) → not (is_below_zero q) ≡ true → IsNotNegative q
not_negative q e = go (cmp_ℚ q 0ℚ) (cmp_ℚ-matches q 0ℚ) (not_false (is_below_zero q) e)
  where
    go : (o : Ordering) → MatchOrdering o (q <ℚ 0ℚ) (q ≡ 0ℚ) (0ℚ <ℚ q) → is_less o ≡ false → IsNotNegative q
    go Less m d = cc
    go Equal m d = subst IsNotNegative (sym m) nonneg_zero
    go Greater m d = pos_nonneg (lt_to_pos m)

-- ---- entries

allowed_by : (r : Relation) (q : ℚ) → allows r q ≡ true → Allows r q
allowed_by Eq q e = tt
allowed_by Gt q e = not_negative q e
allowed_by Ge q e = not_negative q e
allowed_by Ne q e = cc

allowed_in : (o : Option Constraint) (q : ℚ) → is_allowed_in o q ≡ true → IsSomeAnd o (λ c. Allows c.relation q)
allowed_in None q e = cc
allowed_in (Some c) q e = allowed_by c.relation q e

all_allowed : (l : List Constraint) (r : Run) → are_allowed l r ≡ true → AllByRecursion (IsAllowed l) r
all_allowed l [] e = tt
all_allowed l (p ∷ r) e =
    let k = both_are (is_allowed_in (member l p.0) p.1) (are_allowed l r) e in
    (allowed_in (member l p.0) p.1 k.0, all_allowed l r k.1)

strict_by : (r : Relation) → is_strict r ≡ true → r ≡ Gt
strict_by Eq e = cc
strict_by Gt e = refl
strict_by Ge e = cc
strict_by Ne e = cc

strict_in : (o : Option Constraint) (q : ℚ) → is_strict_in o ≡ true → is_above_zero q ≡ true → IsSomeAnd o (λ c. (c.relation ≡ Gt) × IsPositive q)
strict_in None q e d = cc
strict_in (Some c) q e d = (strict_by c.relation e, lt_to_pos (below_is 0ℚ q d))

strict_is : (l : List Constraint) (r : Run) → some_strict l r ≡ true → SomeStrict l r
strict_is l [] e = cc
strict_is l (p ∷ r) e = go (one_is (is_strict_in (member l p.0) && is_above_zero p.1) (some_strict l r) e) (λ h. strict_is l r h)
  where
    go : ((is_strict_in (member l p.0) && is_above_zero p.1) ≡ true) ⊎ (some_strict l r ≡ true) → (some_strict l r ≡ true → SomeStrict l r) → SomeStrict l (p ∷ r)
    go (inl h) rest = let k = both_are (is_strict_in (member l p.0)) (is_above_zero p.1) h in inl (strict_in (member l p.0) p.1 k.0 k.1)
    go (inr h) rest = inr (rest h)

-- ---- sums

zero_behind : (q : ℚ) → q +ℚ 0ℚ ≡ q
zero_behind q = ring (q ∷ []) (var 0 ⊕ int (pos 0)) (var 0) refl

zero_before : (q : ℚ) → 0ℚ +ℚ q ≡ q
zero_before q = ring (q ∷ []) (int (pos 0) ⊕ var 0) (var 0) refl

moved : (p q r : ℚ) → (p +ℚ q) +ℚ r ≡ p +ℚ (q +ℚ r)
moved p q r = ring (p ∷ q ∷ r ∷ []) ((var 0 ⊕ var 1) ⊕ var 2) (var 0 ⊕ (var 1 ⊕ var 2)) refl

-- added one after the other, or from the last one on
added_value : (a : ℕ → ℚ) (l : List Constraint) (sum : Linear) (r : Run) → value_at a (added l sum r) ≡ value_at a sum +ℚ value_at a (weighted_sum l r)
added_value a l sum [] = sym (ap (λ q. value_at a sum +ℚ q) (value_at-constant_form a 0ℚ) ∙ zero_behind (value_at a sum))
added_value a l sum (e ∷ r) =
    added_value a l (sum_form sum (multiple l e)) r
    ∙ ap (λ q. q +ℚ value_at a (weighted_sum l r)) (value_at-sum_form a sum (multiple l e))
    ∙ moved (value_at a sum) (value_at a (multiple l e)) (value_at a (weighted_sum l r))
    ∙ ap (λ q. value_at a sum +ℚ q) (sym (value_at-sum_form a (multiple l e) (weighted_sum l r)))

no_products : (a : ℕ → ℚ) (f : Linear) → is_empty f.products ≡ true → value_at a f ≡ f.constant
no_products a f e = go f.products e
  where
    go : (s : List Monomial) → is_empty s ≡ true → f.constant +ℚ sum_at a s ≡ f.constant
    go [] d = zero_behind f.constant
    go (m ∷ s) d = cc

-- a sum without a variable is the number that the weighted sum is
sums_to : (l : List Constraint) (r : Run) → is_empty (sum_of l r).products ≡ true
    → HasNoVariable (weighted_sum l r) × ((weighted_sum l r).constant ≡ (sum_of l r).constant)
sums_to l r e = same_number_everywhere (weighted_sum l r) (sum_of l r).constant everywhere
  where
    everywhere : (a : ℕ → ℚ) → value_at a (weighted_sum l r) ≡ (sum_of l r).constant
    everywhere a =
        sym (added_value a l (constant_form 0ℚ) r
        ∙ ap (λ q. q +ℚ value_at a (weighted_sum l r)) (value_at-constant_form a 0ℚ)
        ∙ zero_before (value_at a (weighted_sum l r)))
        ∙ no_products a (sum_of l r) e

-- ---- runs

pub false_run : (l : List Constraint) (r : Run) → is_false_run l r ≡ true → IsFalseRun l r
false_run l r e =
    let sum : Linear = sum_of l r in
    let k = three_are (are_allowed l r) (is_empty sum.products) (is_below_zero sum.constant || (is_zero sum.constant && some_strict l r)) e in
    let s = sums_to l r k.1 in
    record {
      allowed = all_allowed l r k.0;
      no_variable = s.0;
      wrong = wrong (weighted_sum l r).constant sum.constant s.1 (one_is (is_below_zero sum.constant) (is_zero sum.constant && some_strict l r) k.2);
    }
  where
    wrong : (p q : ℚ) → p ≡ q → (is_below_zero q ≡ true) ⊎ ((is_zero q && some_strict l r) ≡ true) → (p <ℚ 0ℚ) ⊎ ((p ≡ 0ℚ) × SomeStrict l r)
    wrong p q s (inl h) = inl (subst (λ t. t <ℚ 0ℚ) (sym s) (below_is q 0ℚ h))
    wrong p q s (inr h) = let n = both_are (is_zero q) (some_strict l r) h in inr (s ∙ is_zero-true q n.0, strict_is l r n.1)

false_behind : (l : List Constraint) (d : ℕ × ℚ) (r : Run) → is_false_behind l d r ≡ true → IsFalseBehind l d r
false_behind l d r e =
    let sum : Linear = sum_of l (d ∷ r) in
    let k = three_are (are_allowed l r) (is_empty sum.products) (not (is_above_zero sum.constant)) e in
    let s = sums_to l (d ∷ r) k.1 in
    record {
      allowed = all_allowed l r k.0;
      no_variable = s.0;
      wrong = subst (λ t. t ≤ℚ 0ℚ) (sym s.1) (not_below_is 0ℚ sum.constant (not_false (is_above_zero sum.constant) k.2));
    }

disequation_by : (r : Relation) → is_disequation r ≡ true → r ≡ Ne
disequation_by Eq e = cc
disequation_by Gt e = cc
disequation_by Ge e = cc
disequation_by Ne e = refl

disequation_in : (o : Option Constraint) → is_disequation_in o ≡ true → IsSomeAnd o (λ c. c.relation ≡ Ne)
disequation_in None e = cc
disequation_in (Some c) e = disequation_by c.relation e

pub false_runs : (l : List Constraint) (r s : Run) → are_false_runs l r s ≡ true → AreCut l r s
false_runs l [] s e = cc
false_runs l (d ∷ r) [] e = cc
false_runs l (d ∷ r) (p ∷ s) e =
    let k = both_are (nat_eq d.0 p.0 && is_disequation_in (member l d.0) && is_above_zero d.1 && is_below_zero p.1 && is_false_behind l d r) (is_false_behind l p s) e in
    let m = both_are (nat_eq d.0 p.0 && is_disequation_in (member l d.0) && is_above_zero d.1 && is_below_zero p.1) (is_false_behind l d r) k.0 in
    let a = four_are (nat_eq d.0 p.0) (is_disequation_in (member l d.0)) (is_above_zero d.1) (is_below_zero p.1) m.0 in
    let same : p.0 ≡ d.0 = sym (nat_eq-same d.0 p.0 a.0) in
    let as_first : p ≡ (d.0, p.1) = ap (λ n. (n, p.1)) same in
    record {
      together = record {
        number = d.0;
        disequation = disequation_in (member l d.0) a.1;
        up = d.1;
        down = p.1;
        up_is_positive = below_is 0ℚ d.1 a.2;
        down_is_negative = below_is p.1 0ℚ a.3;
        first = r;
        second = s;
        parts = ap (λ q. d ∷ r ++ q ∷ s) as_first;
        not_above = false_behind l d r m.1;
        not_below = subst (λ q. IsFalseBehind l q s) as_first (false_behind l p s k.1);
      };
      cut = refl;
    }
