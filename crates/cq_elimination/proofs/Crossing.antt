-- Lower and upper rows combined, and the pairs that this meets.
use Rattle.std.proofs.Common.{◌≡◌, ◌≢◌, inl, inr, ℕ, ◌+◌, ◌<◌, List, [], ◌∷◌, ◌++◌, length, take, get_or, Bool, true, false, pos, refl, ap, ap₂, sym, subst, ◌∙◌, append_assoc, append-nil}
use Rattle.std.specs.Prelude.{map, cond, not}
use Rattle.std.proofs.lemmas.List.{take_more}
use Rattle.spec_numbers.specs.Rational.{ℚ, 0ℚ, neg_ℚ, inv_ℚ, ◌*ℚ◌, ◌/ℚ◌, IsPositive}
use Rattle.spec_numbers.specs.Sums.{Monomial, factor_of, scaled_products, negated_products, unit}
use Rattle.spec_numbers.proofs.Ring.{var, int, ◌⊗◌, minus}
use Rattle.spec_numbers.proofs.RationalLemmas.{ring, mul_comm}
use Rattle.spec_numbers.proofs.Sign.{times_inverse}
use Rattle.spec_numbers.proofs.Sums.{factor_of-is, sum_at-scaled_products}
use Rattle.spec_linear.specs.Form.{Linear, IsForm, is_zero, without_zeros, sum_form, negated_form, scaled_form}
use Rattle.spec_linear.specs.Solution.{Constraint, Has}
use Rattle.spec_linear.proofs.Ordered.{form_same, product_same}
use Rattle.spec_linear.proofs.Values.{sum_at-without_zeros, is_zero-true, is_zero-false}
use Rattle.spec_projection.specs.Elimination.{coefficient, is_positive, stricter, lower_rows, upper_rows, other_rows, combination, combinations, eliminated}
use Rattle.spec_projection.proofs.Eliminated.{is_positive-of}
use Rattle.spec_projection.proofs.Members.{has_filtered, has_mapped, Comes}
use Rattle.spec_simplex.specs.Overflow.{Moment, Makes, divided, between as between_rows, between_constants, OverflowDue}
use Rattle.cq_frac.specs.declared.Operation.{Operation}
use Rattle.cq_frac.specs.declared.Operation.TheVariants.{Quotient, Difference}
use Rattle.cq_frac.specs.declared.Pair.{Pair}
use Rattle.cq_frac.specs.Refused.{IsRefused}
use Rattle.cq_form.specs.Steps.{DifferencePair, coefficients, constants, of_variable}
use Rattle.cq_form.proofs.Forms.{coefficient_is}
use Rattle.cq_elimination.specs.FourierSides.{over_coefficient, between, crossed}
use Rattle.cq_elimination.specs.Steps.{DividesIn, CombinesWith, CombinesIn, AreRowsOf}
use Rattle.cq_elimination.proofs.Bounds.{negative_not_zero}

-- ---- a difference of quotients is the sum by absolute values

inverse-negative : (q : ℚ) → q ≢ 0ℚ → inv_ℚ (neg_ℚ q) ≡ neg_ℚ (inv_ℚ q)
inverse-negative q n =
    let m : neg_ℚ q ≢ 0ℚ = λ e. n (ring (q ∷ []) (var 0) (minus (minus (var 0))) refl ∙ ap neg_ℚ e ∙ ring [] (minus (int (pos 0))) (int (pos 0)) refl) in
    ring (inv_ℚ (neg_ℚ q) ∷ []) (var 0) (var 0 ⊗ int (pos 1)) refl
    ∙ ap (λ w. inv_ℚ (neg_ℚ q) *ℚ w) (sym (times_inverse q n))
    ∙ ring (inv_ℚ (neg_ℚ q) ∷ q ∷ inv_ℚ q ∷ []) (var 0 ⊗ (var 1 ⊗ var 2)) (minus ((minus (var 1) ⊗ var 0) ⊗ var 2)) refl
    ∙ ap (λ w. neg_ℚ (w *ℚ inv_ℚ q)) (times_inverse (neg_ℚ q) m)
    ∙ ring (inv_ℚ q ∷ []) (minus (int (pos 1) ⊗ var 0)) (minus (var 0)) refl

negated_multiple : (k p : ℚ) → neg_ℚ (k *ℚ p) ≡ neg_ℚ k *ℚ p
negated_multiple k p = ring (k ∷ p ∷ []) (minus (var 0 ⊗ var 1)) (minus (var 0) ⊗ var 1) refl

zero_alike : (k p : ℚ) → is_zero (k *ℚ p) ≡ is_zero (neg_ℚ k *ℚ p)
zero_alike k p = go (is_zero (k *ℚ p)) refl (is_zero (neg_ℚ k *ℚ p)) refl
  where
    back : neg_ℚ k *ℚ p ≡ 0ℚ → k *ℚ p ≡ 0ℚ
    back e =
        ring (k ∷ p ∷ []) (var 0 ⊗ var 1) (minus (minus (var 0) ⊗ var 1)) refl ∙ ap neg_ℚ e ∙ ring [] (minus (int (pos 0))) (int (pos 0)) refl

    forth : k *ℚ p ≡ 0ℚ → neg_ℚ k *ℚ p ≡ 0ℚ
    forth e = sym (negated_multiple k p) ∙ ap neg_ℚ e ∙ ring [] (minus (int (pos 0))) (int (pos 0)) refl

    go : (a : Bool) → is_zero (k *ℚ p) ≡ a → (b : Bool) → is_zero (neg_ℚ k *ℚ p) ≡ b → a ≡ b
    go true e true h = refl
    go false e false h = refl
    go true e false h = absurd (is_zero-false (neg_ℚ k *ℚ p) h (forth (is_zero-true (k *ℚ p) e)))
    go false e true h = absurd (is_zero-false (k *ℚ p) e (back (is_zero-true (neg_ℚ k *ℚ p) h)))

negated_products-multiple : (k : ℚ) (s : List Monomial) → negated_products (without_zeros (scaled_products k s)) ≡ without_zeros (scaled_products (neg_ℚ k) s)
negated_products-multiple k [] = refl
negated_products-multiple k (m ∷ s) = go (is_zero (k *ℚ m.factor)) (is_zero (neg_ℚ k *ℚ m.factor)) (zero_alike k m.factor) (negated_products-multiple k s)
  where
    go : (a b : Bool) → a ≡ b → negated_products (without_zeros (scaled_products k s)) ≡ without_zeros (scaled_products (neg_ℚ k) s)
        → negated_products (cond (not a) (record { variable = m.variable; factor = k *ℚ m.factor } ∷ without_zeros (scaled_products k s)) (without_zeros (scaled_products k s)))
        ≡ cond (not b) (record { variable = m.variable; factor = neg_ℚ k *ℚ m.factor } ∷ without_zeros (scaled_products (neg_ℚ k) s)) (without_zeros (scaled_products (neg_ℚ k) s))
    go true true e h = h
    go false false e h = ap₂ (λ p t. p ∷ t) (product_same _ _ refl (negated_multiple k m.factor)) h
    go true false e h = absurd (cc)
    go false true e h = absurd (cc)

negated_multiple_form : (q : ℚ) (f : Linear) → q ≢ 0ℚ → negated_form (scaled_form (inv_ℚ q) f) ≡ scaled_form (inv_ℚ (neg_ℚ q)) f
negated_multiple_form q f n =
    form_same _ _ (negated_products-multiple (inv_ℚ q) f.products) (negated_multiple (inv_ℚ q) f.constant) ∙ ap (λ k. scaled_form k f) (sym (inverse-negative q n))

between_is : (x : ℕ) (c d : Constraint) → coefficient x d ≢ 0ℚ → between (over_coefficient x c) (over_coefficient x d) ≡ combination x c d
between_is x c d n =
    ap (λ f. record { relation = stricter c.relation d.relation; form = sum_form (scaled_form (inv_ℚ (coefficient x c)) c.form) f })
    (negated_multiple_form (coefficient x d) d.form n)

-- ---- each with each

abbrev HaveCoefficient : ℕ → List Constraint → Type 0
HaveCoefficient x l = (c : Constraint) → Has c l → coefficient x c ≢ 0ℚ

each_is : (x : ℕ) (c : Constraint) (upper : List Constraint) → HaveCoefficient x upper → map (between (over_coefficient x c)) (map (over_coefficient x) upper) ≡ map (combination x c) upper
each_is x c [] h = refl
each_is x c (d ∷ upper) h = ap₂ (λ e t. e ∷ t) (between_is x c d (h d (inl refl))) (each_is x c upper (λ e k. h e (inr k)))

crossed_is : (x : ℕ) (lower upper : List Constraint) → HaveCoefficient x upper → crossed (map (over_coefficient x) lower) (map (over_coefficient x) upper) ≡ combinations x lower upper
crossed_is x [] upper h = refl
crossed_is x (c ∷ lower) upper h = ap₂ (λ s t. s ++ t) (each_is x c upper h) (crossed_is x lower upper h)

have_upper : (x : ℕ) (l : List Constraint) → HaveCoefficient x (upper_rows x l)
have_upper x l c h = negative_not_zero (coefficient x c) (is_positive-of (neg_ℚ (coefficient x c)) (has_filtered _ c l h).1)

pub eliminated_is : (x : ℕ) (l others lower upper left : List Constraint) → others ≡ other_rows x l → lower ≡ map (over_coefficient x) (lower_rows x l)
    → upper ≡ map (over_coefficient x) (upper_rows x l) → left ≡ others ++ crossed lower upper → left ≡ eliminated x l
eliminated_is x l others lower upper left e f g h =
    h ∙ ap₂ (λ s t. s ++ t) e (ap₂ crossed f g ∙ crossed_is x (lower_rows x l) (upper_rows x l) (have_upper x l))

crossed_join : (upper s t : List Constraint) → crossed (s ++ t) upper ≡ crossed s upper ++ crossed t upper
crossed_join upper [] t = refl
crossed_join upper (c ∷ s) t = ap (λ u. map (between c) upper ++ u) (crossed_join upper s t) ∙ sym (append_assoc (map (between c) upper) (crossed s upper) (crossed t upper))

pub crossed_more : (upper items : List Constraint) (i : ℕ) (bound : Constraint) (start now new : List Constraint) → i < length items → bound ≡ get_or items i bound
    → now ≡ start ++ crossed (take i items) upper → new ≡ now ++ map (between bound) upper → new ≡ start ++ crossed (take (i + 1) items) upper
crossed_more upper items i bound start now new h e o n =
    n ∙ ap (λ t. t ++ map (between bound) upper) o ∙ append_assoc start (crossed (take i items) upper) (map (between bound) upper)
    ∙ ap (λ t. start ++ t)
    (ap (λ t. crossed (take i items) upper ++ t) (sym (append-nil (map (between bound) upper))) ∙ sym (crossed_join upper (take i items) (bound ∷ []))
    ∙ ap (λ k. crossed k upper) (ap (λ y. take i items ++ y ∷ []) e ∙ sym (take_more items i bound h)))

-- ---- pairs

pub combines_more : (c : Constraint) (k l : List Constraint) (pair : Pair) → ((d : Constraint) → Has d k → Has d l) → CombinesWith c k pair → CombinesWith c l pair
combines_more c k l pair h w =
    record { row = w.row; member = h w.row w.member; own_form = w.own_form; row_form = w.row_form; pair_is = w.pair_is; refused = w.refused }

pub combined_told : (c d : Constraint) (f g : Linear) (pair : Pair) → f ≡ c.form → g ≡ d.form → IsForm c.form → IsForm d.form
    → DifferencePair f g pair.operation pair.left pair.right × IsRefused pair → CombinesWith c (d ∷ []) pair
combined_told c d f g pair e h i j w = record {
  row = d;
  member = inl refl;
  own_form = i;
  row_form = j;
  pair_is = subst (λ k. DifferencePair k d.form pair.operation pair.left pair.right) e (subst (λ k. DifferencePair f k pair.operation pair.left pair.right) h w.0);
  refused = w.1;
}

factor_of-multiple : (y : ℕ) (k : ℚ) (f : Linear) → factor_of y (scaled_form k f).products ≡ factor_of y f.products *ℚ k
factor_of-multiple y k f =
    factor_of-is y (scaled_form k f).products ∙ sum_at-without_zeros (unit y) (scaled_products k f.products) ∙ sum_at-scaled_products (unit y) k f.products
    ∙ ap (λ w. k *ℚ w) (sym (factor_of-is y f.products)) ∙ mul_comm k (factor_of y f.products)

due : (m : Moment) (pair : Pair) (o : Operation) (a b : ℚ) → pair.operation ≡ o → pair.left ≡ a → pair.right ≡ b → Makes m o a b → IsRefused pair → OverflowDue m pair
due m pair o a b e f g h r = record {
  made = subst (λ w. Makes m w pair.left pair.right) (sym e) (subst (λ w. Makes m o w pair.right) (sym f) (subst (λ w. Makes m o a w) (sym g) h));
  refused = r;
}

pub division_due : (m : Moment) (x : ℕ) (l : List Constraint) (pair : Pair) → AreRowsOf m l → DividesIn x l pair → OverflowDue m pair
division_due m x l pair rows d =
    due m pair Quotient pair.left (coefficient x d.row) d.quotient.operation refl d.quotient.divisor (divided d.row.form (rows d.row d.member) d.quotient.number x d.stands) d.quotient.refused

module _ (m : Moment) (x : ℕ) (l : List Constraint) (rows : AreRowsOf m l) where
  module _ (c d : Constraint) (in_lower : Has c (lower_rows x l)) (in_upper : Has d (upper_rows x l)) where
    lower_has : Has c l × IsPositive (coefficient x c)
    lower_has = let r = has_filtered (λ e. is_positive (coefficient x e)) c l in_lower in (r.0, is_positive-of (coefficient x c) r.1)

    upper_has : Has d l × IsPositive (neg_ℚ (coefficient x d))
    upper_has = let r = has_filtered (λ e. is_positive (neg_ℚ (coefficient x e))) d l in_upper in (r.0, is_positive-of (neg_ℚ (coefficient x d)) r.1)

    made : IsForm (over_coefficient x c).form → IsForm (over_coefficient x d).form → (o : Operation) (p q : ℚ)
        → DifferencePair (over_coefficient x c).form (over_coefficient x d).form o p q → Makes m o p q
    made own other o p q (coefficients a b (of_variable y h k)) =
        let f : factor_of y c.form.products /ℚ coefficient x c ≡ a =
        sym (factor_of-multiple y (inv_ℚ (coefficient x c)) c.form) ∙ coefficient_is 0 y a (over_coefficient x c).form.products own h in
        let g : factor_of y d.form.products /ℚ coefficient x d ≡ b =
        sym (factor_of-multiple y (inv_ℚ (coefficient x d)) d.form) ∙ coefficient_is 0 y b (over_coefficient x d).form.products other k in
        subst (λ z. Makes m Difference z b) f (subst (λ z. Makes m Difference (factor_of y c.form.products /ℚ coefficient x c) z) g
        (between_rows c.form d.form (rows c lower_has.0) (rows d upper_has.0) x y lower_has.1 upper_has.1))
    made own other o p q constants =
        subst (λ z. Makes m Difference z (inv_ℚ (coefficient x d) *ℚ d.form.constant)) (mul_comm c.form.constant (inv_ℚ (coefficient x c)))
        (subst (λ z. Makes m Difference (c.form.constant /ℚ coefficient x c) z) (mul_comm d.form.constant (inv_ℚ (coefficient x d)))
        (between_constants c.form d.form (rows c lower_has.0) (rows d upper_has.0) x lower_has.1 upper_has.1))

  pub combination_due : (pair : Pair) (lower upper : List Constraint) → lower ≡ map (over_coefficient x) (lower_rows x l)
      → upper ≡ map (over_coefficient x) (upper_rows x l) → CombinesIn lower upper pair → OverflowDue m pair
  combination_due pair lower upper e f u =
      let bound = u.bound in
      let w = u.combines in
      let a : Comes (over_coefficient x) bound (lower_rows x l) = has_mapped (over_coefficient x) bound (lower_rows x l) (subst (Has bound) e u.member) in
      let b : Comes (over_coefficient x) w.row (upper_rows x l) = has_mapped (over_coefficient x) w.row (upper_rows x l) (subst (Has w.row) f w.member) in
      let pair_is : DifferencePair (over_coefficient x a.from).form (over_coefficient x b.from).form pair.operation pair.left pair.right =
      subst (λ (c : Constraint). DifferencePair c.form (over_coefficient x b.from).form pair.operation pair.left pair.right) a.is
      (subst (λ (c : Constraint). DifferencePair bound.form c.form pair.operation pair.left pair.right) b.is w.pair_is) in
      record {
        made = made a.from b.from a.member b.member (subst (λ (c : Constraint). IsForm c.form) a.is w.own_form) (subst (λ (c : Constraint). IsForm c.form) b.is w.row_form)
            pair.operation pair.left pair.right pair_is;
        refused = w.refused;
      }
