-- Products picked in an order of variables, and by the first of them.
use Rattle.std.proofs.Common.{◌≡◌, ◌≢◌, ◌⊎◌, inl, inr, ℕ, ◌+◌, ◌<◌, ◌≤◌, List, [], ◌∷◌, ◌++◌, map, length, drop, get_or, append_assoc, arith, Bool, true, false, cond, pos, refl, ap, sym, subst, ◌∙◌}
use Rattle.std.proofs.lemmas.List.{map-append, drop_more}
use Rattle.std.specs.List.{AllByRecursion}
use Rattle.spec_numbers.specs.Rational.{ℚ, 0ℚ, ◌+ℚ◌, ◌*ℚ◌, ◌/ℚ◌, inv_ℚ}
use Rattle.spec_numbers.specs.Sums.{Monomial, Mentions, factor_of, sum_at}
use Rattle.spec_numbers.proofs.Ring.{var, int, ◌⊕◌, ◌⊗◌}
use Rattle.spec_numbers.proofs.RationalLemmas.{ring}
use Rattle.spec_numbers.proofs.Sums.{sum_at-agrees}
use Rattle.spec_numbers.proofs.Sign.{times_inverse, product_zero, inverse_not_zero}
use Rattle.spec_linear.specs.Form.{Linear, IsSumFrom, IsForm, is_zero, in_front}
use Rattle.spec_linear.specs.Solution.{Has}
use Rattle.spec_linear.proofs.Values.{is_zero-true, is_zero-of}
use Rattle.spec_projection.proofs.Mentions.{mentioned_factor, unmentioned_factor}
use Rattle.spec_linear.specs.Echelon.{AreDistinct, InOrder, variables}
use Rattle.spec_linear.proofs.Listed.{listed, listed-ordered, listed-nonzero, value_at-listed_form}
use Rattle.spec_linear.proofs.SameProducts.{cancelled}
use Rattle.spec_answers.specs.Forms.{IsScaled}
use Rattle.cq_frac.specs.declared.VarId.{VarId}
use Rattle.cq_equations.specs.Told.{numbers_of}
use Rattle.cq_form.specs.Steps.{HasCoefficient}
use Rattle.cq_form.proofs.Forms.{coefficient_is}
use Rattle.cq_elimination.proofs.Bounds.{not_zero}
use Rattle.cq_elimination.specs.Lines.{monomial_of, monomials_of}
use Rattle.cq_elimination.specs.Arranging.{picked, over_lead, IsPlaced}

pub picked_is : (order : List ℕ) (s : List Monomial) → picked order s ≡ listed (λ x. factor_of x s) order
picked_is [] s = refl
picked_is (x ∷ order) s = ap (λ t. in_front (record { variable = x; factor = factor_of x s }) t) (picked_is order s)

module _ (order : List ℕ) (s : List Monomial) where
  pub picked_placed : IsPlaced order (picked order s)
  picked_placed = record {
    ordered = subst (λ t. InOrder order (variables t)) (sym (picked_is order s)) (listed-ordered (λ x. factor_of x s) order);
    nonzero = subst (AllByRecursion (λ m. m.factor ≢ 0ℚ)) (sym (picked_is order s)) (listed-nonzero (λ x. factor_of x s) order);
  }

  -- with the sum of all
  pub picked_sum : (a : ℕ → ℚ) → AreDistinct order → ((x : ℕ) → Mentions x s → Has x order) → sum_at a (picked order s) ≡ sum_at a s
  picked_sum a d h =
      ap (sum_at a) (picked_is order s)
      ∙ cancelled 0ℚ (sum_at a (listed (λ x. factor_of x s) order)) (sum_at a s)
      (value_at-listed_form a order (record { products = s; constant = 0ℚ }) d
      (λ b c e. ap (λ w. 0ℚ +ℚ w) (sum_at-agrees b c s (λ x m. e x (h x m)))))

in_front_has : (m : Monomial) (s : List Monomial) (n : Monomial) → Has n (in_front m s) → (n ≡ m) ⊎ Has n s
in_front_has m s n h = go (is_zero m.factor) h
  where
    go : (b : Bool) → Has n (cond b s (m ∷ s)) → (n ≡ m) ⊎ Has n s
    go true k = inr k
    go false k = k

-- a product that is picked is one of the form
pub picked_member : (order : List ℕ) (s : List Monomial) (m : Monomial) → Has m (picked order s) → m.factor ≡ factor_of m.variable s
picked_member [] s m h = absurd h
picked_member (x ∷ order) s m h = go (in_front_has (record { variable = x; factor = factor_of x s }) (picked order s) m h) (picked_member order s m)
  where
    go : (m ≡ record { variable = x; factor = factor_of x s }) ⊎ Has m (picked order s) → (Has m (picked order s) → m.factor ≡ factor_of m.variable s) → m.factor ≡ factor_of m.variable s
    go (inl e) rest = ap (λ (n : Monomial). n.factor) e ∙ ap (λ (n : Monomial). factor_of n.variable s) (sym e)
    go (inr k) rest = rest k

-- what stands in the form is picked
pub picked_some : (order : List ℕ) (s : List Monomial) (x : ℕ) → Has x order → factor_of x s ≢ 0ℚ → picked order s ≡ [] → ⊥
picked_some [] s x h n e = h
picked_some (y ∷ order) s x h n e = go (is_zero (factor_of y s)) refl e h (λ k w. picked_some order s x k n w)
  where
    go : (b : Bool) → is_zero (factor_of y s) ≡ b → cond b (picked order s) (record { variable = y; factor = factor_of y s } ∷ picked order s) ≡ [] → Has x (y ∷ order)
        → (Has x order → picked order s ≡ [] → ⊥) → ⊥
    go true z w (inl same) rest = n (ap (λ v. factor_of v s) same ∙ is_zero-true (factor_of y s) z)
    go true z w (inr k) rest = rest k w
    go false z w k rest = absurd (cc)

pub form_picked : (order : List ℕ) (f : Linear) → IsForm f → f.products ≢ [] → ((x : ℕ) → Mentions x f.products → Has x order) → picked order f.products ≡ [] → ⊥
form_picked order f i n h e = go f.products refl
  where
    go : (s : List Monomial) → f.products ≡ s → ⊥
    go [] w = n w
    go (m ∷ s) w =
        let stands : Mentions m.variable f.products = subst (Mentions m.variable) (sym w) (inl refl) in
        picked_some order f.products m.variable (h m.variable stands) (mentioned_factor m.variable 0 f.products i stands) e

-- ---- by a number

over_variables : (k : ℚ) (s : List Monomial) → variables (map (over_lead k) s) ≡ variables s
over_variables k [] = refl
over_variables k (m ∷ s) = ap (λ t. m.variable ∷ t) (over_variables k s)

over_nonzero : (k : ℚ) (s : List Monomial) → k ≢ 0ℚ → AllByRecursion (λ m. m.factor ≢ 0ℚ) s → AllByRecursion (λ m. m.factor ≢ 0ℚ) (map (over_lead k) s)
over_nonzero k [] n h = tt
over_nonzero k (m ∷ s) n h = ((λ z. inverse_not_zero k n (product_zero m.factor (inv_ℚ k) h.0 z)), over_nonzero k s n h.1)

pub over_sum : (k : ℚ) (a : ℕ → ℚ) (s : List Monomial) → sum_at a (map (over_lead k) s) ≡ inv_ℚ k *ℚ sum_at a s
over_sum k a [] = ring (inv_ℚ k ∷ []) (int (pos 0)) (var 0 ⊗ int (pos 0)) refl
over_sum k a (m ∷ s) =
    ap (λ w. (m.factor /ℚ k) *ℚ a m.variable +ℚ w) (over_sum k a s)
    ∙ ring (m.factor ∷ inv_ℚ k ∷ a m.variable ∷ sum_at a s ∷ []) ((var 0 ⊗ var 1) ⊗ var 2 ⊕ var 1 ⊗ var 3) (var 1 ⊗ (var 0 ⊗ var 2 ⊕ var 3)) refl

-- by the first factor
pub over_first : (order : List ℕ) (m : Monomial) (s : List Monomial) → IsPlaced order (m ∷ s) → IsScaled order (map (over_lead m.factor) (m ∷ s))
over_first order m s p = record {
  ordered = subst (InOrder order) (sym (over_variables m.factor (m ∷ s))) p.ordered;
  nonzero = over_nonzero m.factor (m ∷ s) p.nonzero.0 p.nonzero;
  first = over_lead m.factor m;
  rest = map (over_lead m.factor) s;
  leads = refl;
  one = times_inverse m.factor p.nonzero.0;
}

-- ---- one variable more

coefficient_mentions : (x : ℕ) (q : ℚ) (s : List Monomial) → HasCoefficient x q s → Mentions x s
coefficient_mentions x q [] h = h
coefficient_mentions x q (m ∷ s) (inl e) = inl (ap (λ (p : Monomial). p.variable) e)
coefficient_mentions x q (m ∷ s) (inr h) = inr (coefficient_mentions x q s h)

module _ (order : List VarId) (i : ℕ) (x : VarId) (within : i < length order) (at : x ≡ get_or order i x) (s : List Monomial) (whole : List Monomial)
    (now new : List (VarId × ℚ)) (so_far : monomials_of now ++ picked (numbers_of (drop i order)) s ≡ whole) where
  next_is : picked (numbers_of (drop i order)) s ≡ in_front (record { variable = x.0; factor = factor_of x.0 s }) (picked (numbers_of (drop (i + 1) order)) s)
  next_is = ap (λ xs. picked (numbers_of xs) s) (drop_more order i x within ∙ ap (λ (y : VarId). y ∷ drop (i + 1) order) (sym at))

  front_is : (b : Bool) → is_zero (factor_of x.0 s) ≡ b → picked (numbers_of (drop i order)) s
      ≡ cond b (picked (numbers_of (drop (i + 1) order)) s) (record { variable = x.0; factor = factor_of x.0 s } ∷ picked (numbers_of (drop (i + 1) order)) s)
  front_is b e =
      next_is
      ∙ ap (λ z. cond z (picked (numbers_of (drop (i + 1) order)) s) (record { variable = x.0; factor = factor_of x.0 s } ∷ picked (numbers_of (drop (i + 1) order)) s)) e

  pub one_stands : (q : ℚ) → IsSumFrom 0 s → HasCoefficient x.0 q s → new ≡ now ++ (x, q) ∷ [] → monomials_of new ++ picked (numbers_of (drop (i + 1) order)) s ≡ whole
  one_stands q o h e =
      let rest : List Monomial = picked (numbers_of (drop (i + 1) order)) s in
      let is : factor_of x.0 s ≡ q = coefficient_is 0 x.0 q s o h in
      let stands : factor_of x.0 s ≢ 0ℚ = mentioned_factor x.0 0 s o (coefficient_mentions x.0 q s h) in
      ap (λ t. monomials_of t ++ rest) e ∙ ap (λ t. t ++ rest) (map-append monomial_of now ((x, q) ∷ []))
      ∙ append_assoc (monomials_of now) (monomial_of (x, q) ∷ []) rest
      ∙ ap (λ w. monomials_of now ++ record { variable = x.0; factor = w } ∷ rest) (sym is)
      ∙ ap (λ t. monomials_of now ++ t) (sym (front_is false (not_zero (factor_of x.0 s) stands))) ∙ so_far

  pub none_stands : (Mentions x.0 s → ⊥) → new ≡ now → monomials_of new ++ picked (numbers_of (drop (i + 1) order)) s ≡ whole
  none_stands n e =
      let z : is_zero (factor_of x.0 s) ≡ true = is_zero-of (factor_of x.0 s) (unmentioned_factor x.0 s n) in
      ap (λ t. monomials_of t ++ picked (numbers_of (drop (i + 1) order)) s) e ∙ ap (λ t. monomials_of now ++ t) (sym (front_is true z)) ∙ so_far

pub some_item : (ps : List (VarId × ℚ)) → (monomials_of ps ≡ [] → ⊥) → 0 < length ps
some_item [] n = absurd (n refl)
some_item (p ∷ ps) n = omega arith
