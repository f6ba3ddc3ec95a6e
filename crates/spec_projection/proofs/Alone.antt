-- All variables but one are eliminated from inequalities.
use Rattle.std.proofs.Common.{◌≡◌, ◌⊎◌, inl, inr, ℕ, List, [], ◌∷◌, ◌++◌, pos, refl, ap, sym, subst, ◌∙◌}
use Rattle.std.specs.Prelude.{map}
use Rattle.spec_numbers.specs.Rational.{ℚ, 0ℚ, 1ℚ, ◌+ℚ◌, ◌*ℚ◌, neg_ℚ}
use Rattle.spec_numbers.specs.Sums.{factor_of, sum_at, unit}
use Rattle.spec_numbers.proofs.Ring.{var, int, ◌⊕◌, ◌⊗◌, minus}
use Rattle.spec_numbers.proofs.RationalLemmas.{ring}
use Rattle.spec_numbers.proofs.Sums.{factor_of-is, unit-self, unit-other}
use Rattle.spec_linear.specs.Form.{Linear, value_at, without, changed_at}
use Rattle.spec_linear.specs.Solution.{Constraint, Satisfies, Has}
use Rattle.spec_linear.proofs.Values.{sum_at-without}
use Rattle.spec_linear.proofs.Denominators.{satisfies_agrees, has_left, has_right, has_mentioned}
use Rattle.spec_linear.proofs.NoVariable.{number_everywhere}
use Rattle.spec_projection.specs.Elimination.{IsInequality, coefficient, lower_rows, upper_rows, other_rows, combinations, eliminated}
use Rattle.spec_projection.specs.Partial.{AreInequalities}
use Rattle.spec_projection.proofs.Members.{has_either}
use Rattle.spec_projection.proofs.Step.{lower_is, upper_is, other_is, has_pair, from_value, to_value}
use Rattle.spec_projection.proofs.Projected.{changed_to_itself, changed_elsewhere}
use Rattle.spec_projection.proofs.Mentions.{coefficient-eliminated, neither, unmentioned_factor}
use Rattle.spec_projection.proofs.Eliminating.{AreInequalities-eliminated}
use Rattle.spec_projection.proofs.DecidedLemmas.{nat_dec}

-- the coefficients of all other variables, z apart, are zero
abbrev pub CoversBut : ℕ → List ℕ → List Constraint → Type 0
CoversBut z xs l = (y : ℕ) → (y ≡ z → ⊥) → (Has y xs → ⊥) → (c : Constraint) → Has c l → coefficient y c ≡ 0ℚ

covers_eliminated : (z x : ℕ) (xs : List ℕ) (l : List Constraint) → CoversBut z (x ∷ xs) l → CoversBut z xs (eliminated x l)
covers_eliminated z x xs l h y apart n c k = go (has_either c (other_rows x l) (combinations x (lower_rows x l) (upper_rows x l)) k)
  where
    same : y ≡ x → coefficient y c ≡ 0ℚ
    same e = subst (λ w. coefficient w c ≡ 0ℚ) (sym e) (coefficient-eliminated x l c k)

    other : (d : Constraint) → Has d l → (y ≡ x → ⊥) → coefficient y d ≡ 0ℚ
    other d i m = h y apart (λ j. elim j [ inl e ↦ m e | inr t ↦ n t ]) d i

    by : (y ≡ x) ⊎ (y ≡ x → ⊥) → ((y ≡ x → ⊥) → coefficient y c ≡ 0ℚ) → coefficient y c ≡ 0ℚ
    by (inl e) f = same e
    by (inr m) f = f m

    go : Has c (other_rows x l) ⊎ Has c (combinations x (lower_rows x l) (upper_rows x l)) → coefficient y c ≡ 0ℚ
    go (inl i) = by (nat_dec y x) (other c (other_is x l c i).0)
    go (inr i) = by (nat_dec y x) (λ m.
        let p = has_pair x c (lower_rows x l) (upper_rows x l) i in
        ap (coefficient y) p.is ∙ neither x y p.lower p.upper (other p.lower (lower_is x l p.lower p.of_lowers).0 m) (other p.upper (upper_is x l p.upper p.of_uppers).0 m))

-- what is left of inequalities: rows of z alone, which hold where some values of the others make all hold
pub record Left (z : ℕ) (l : List Constraint) : Type 0 where
  pub rows : List Constraint
  pub inequalities : AreInequalities rows
  pub alone : (y : ℕ) → (y ≡ z → ⊥) → (c : Constraint) → Has c rows → coefficient y c ≡ 0ℚ
  pub forth : (a : ℕ → ℚ) → Satisfies a l → Satisfies a rows
  pub back : (a : ℕ → ℚ) → Satisfies a rows → (b : ℕ → ℚ) × (b z ≡ a z) × Satisfies b l

pub left : (z : ℕ) (xs : List ℕ) (l : List Constraint) → AreInequalities l → CoversBut z xs l → Left z l
left z [] l i h =
    record { rows = l; inequalities = i; alone = λ y n c k. h y n (λ e. e) c k; forth = λ a s. s; back = λ a s. (a, refl, s) }
left z (x ∷ xs) l i h = go (nat_dec x z) (left z xs l i) (left z xs (eliminated x l) (AreInequalities-eliminated x l i))
  where
    bounds : (c : Constraint) → Has c l → IsInequality c.relation ⊎ (coefficient x c ≡ 0ℚ)
    bounds c k = inl (i c k)

    into : (a : ℕ → ℚ) → Satisfies a l → Satisfies a (eliminated x l)
    into a s = from_value x l bounds a (a x) (satisfies_agrees a (changed_at x (a x) a) l (λ y m. sym (changed_to_itself a x y)) s)

    further : (x ≡ z → ⊥) → Left z (eliminated x l) → Left z l
    further n r = record {
      rows = r.rows;
      inequalities = r.inequalities;
      alone = r.alone;
      forth = λ a s. r.forth a (into a s);
      back = λ a s. (
          let b = r.back a s in
          let q = to_value x l bounds b.0 b.2 in
          (changed_at x q.0 b.0, changed_elsewhere b.0 x q.0 z (λ e. n (sym e)) ∙ b.1, q.1));
    }

    go : (x ≡ z) ⊎ (x ≡ z → ⊥) → (CoversBut z xs l → Left z l) → (CoversBut z xs (eliminated x l) → Left z (eliminated x l)) → Left z l
    go (inl e) f g = f (λ y n m c k. h y n (λ j. elim j [ inl d ↦ n (d ∙ e) | inr t ↦ m t ]) c k)
    go (inr n) f g = further n (g (covers_eliminated z x xs l h))

-- ---- the variables of a list

abbrev pub all_variables : List Constraint → List ℕ
all_variables [] = []
all_variables (c ∷ l) = map (λ m. m.variable) c.form.products ++ all_variables l

pub covers_all : (z : ℕ) (l : List Constraint) → CoversBut z (all_variables l) l
covers_all z [] y apart n c h = absurd h
covers_all z (d ∷ l) y apart n c (inl e) =
    ap (coefficient y) e
    ∙ unmentioned_factor y d.form.products (λ m. n (has_left y (map (λ w. w.variable) d.form.products) (all_variables l) (has_mentioned y d.form.products m)))
covers_all z (d ∷ l) y apart n c (inr h) =
    covers_all z l y apart (λ k. n (has_right y (map (λ w. w.variable) d.form.products) (all_variables l) k)) c h

-- ---- a form of one variable

-- without z no coefficient is left
no_other : (z : ℕ) (f : Linear) → ((y : ℕ) → (y ≡ z → ⊥) → factor_of y f.products ≡ 0ℚ) → (y : ℕ) → factor_of y (without z f.products) ≡ 0ℚ
no_other z f alone y = go (nat_dec y z)
  where
    split : factor_of y f.products ≡ factor_of z f.products *ℚ unit y z +ℚ factor_of y (without z f.products)
    split =
        factor_of-is y f.products ∙ sum_at-without (unit y) z f.products
        ∙ ap (λ w. factor_of z f.products *ℚ unit y z +ℚ w) (sym (factor_of-is y (without z f.products)))

    -- the rest of a sum whose first part is all of it
    rest : (p q : ℚ) → p ≡ p *ℚ 1ℚ +ℚ q → q ≡ 0ℚ
    rest p q e =
        ring (p ∷ q ∷ []) (var 1) ((var 0 ⊗ int (pos 1) ⊕ var 1) ⊕ minus (var 0)) refl ∙ ap (λ w. w +ℚ neg_ℚ p) (sym e)
        ∙ ring (p ∷ []) (var 0 ⊕ minus (var 0)) (int (pos 0)) refl

    go : (y ≡ z) ⊎ (y ≡ z → ⊥) → factor_of y (without z f.products) ≡ 0ℚ
    go (inl e) =
        let unit_is : unit y z ≡ 1ℚ = ap (λ w. unit y w) (sym e) ∙ unit-self y in
        rest (factor_of y f.products) (factor_of y (without z f.products))
        (split ∙ ap (λ w. factor_of z f.products *ℚ w +ℚ factor_of y (without z f.products)) unit_is
        ∙ ap (λ w. factor_of w f.products *ℚ 1ℚ +ℚ factor_of y (without z f.products)) (sym e))
    go (inr n) =
        let unit_is : unit y z ≡ 0ℚ = unit-other y z n in
        ring (factor_of z f.products ∷ factor_of y (without z f.products) ∷ []) (var 1) (var 0 ⊗ int (pos 0) ⊕ var 1) refl
        ∙ ap (λ w. factor_of z f.products *ℚ w +ℚ factor_of y (without z f.products)) (sym unit_is)
        ∙ sym split ∙ alone y n

-- its value is that of a line
pub line : (z : ℕ) (f : Linear) → ((y : ℕ) → (y ≡ z → ⊥) → factor_of y f.products ≡ 0ℚ) → (a : ℕ → ℚ)
    → value_at a f ≡ factor_of z f.products *ℚ a z +ℚ f.constant
line z f alone a =
    let other : f.constant +ℚ sum_at a (without z f.products) ≡ f.constant =
    number_everywhere (record { products = without z f.products; constant = f.constant }) (no_other z f alone) a in
    ap (λ w. f.constant +ℚ w) (sum_at-without a z f.products)
    ∙ ring (f.constant ∷ (factor_of z f.products *ℚ a z) ∷ sum_at a (without z f.products) ∷ []) (var 0 ⊕ (var 1 ⊕ var 2)) (var 1 ⊕ (var 0 ⊕ var 2)) refl
    ∙ ap (λ w. factor_of z f.products *ℚ a z +ℚ w) other
