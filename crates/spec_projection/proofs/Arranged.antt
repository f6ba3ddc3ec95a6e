-- Lists of multiples of each other's constraints have the same solutions and mention the same variables.
use Rattle.std.proofs.Common.{inl, inr, subst, ◌++◌, ◌≡◌, ℕ, List, [], ◌∷◌, pos, refl, ap, ap₂, sym, ◌∙◌}
use Rattle.spec_numbers.specs.Rational.{0ℚ, ◌-ℚ◌, ◌*ℚ◌, inv_ℚ}
use Rattle.spec_numbers.specs.Sums.{Mentions, factor_of, unit, sum_at}
use Rattle.spec_numbers.proofs.Ring.{var, int, ◌⊕◌, ◌⊗◌, minus}
use Rattle.spec_numbers.proofs.RationalLemmas.{ring}
use Rattle.spec_numbers.proofs.Sign.{product_zero, times_inverse, inverse_not_zero}
use Rattle.spec_numbers.proofs.Sums.{factor_of-is}
use Rattle.spec_linear.specs.Form.{Linear, value_at}
use Rattle.spec_linear.specs.Solution.{Constraint, Equivalent, Has, SomeMentions}
use Rattle.spec_projection.specs.Strict.{AreMultiples, IsMultiple, AreScaled, no_row, one_row, HasForm}
use Rattle.spec_projection.specs.Arranged.{IsArranged}
use Rattle.spec_projection.specs.Irredundant.{IsIrredundant}
use Rattle.spec_projection.proofs.Members.{alike_by_same_members}
use Rattle.spec_projection.proofs.Reordered.{reordered_has, reordered_back, reordered_both, reordered_irredundant}
use Rattle.spec_projection.proofs.Strong.{scaled_alike, scaled_both, scaled_irredundant}
use Rattle.spec_projection.proofs.Mentions.{factor_mentioned, some_mentions, mentioning}
use Rattle.spec_linear.proofs.Lists.{alike_trans}
use Rattle.spec_linear.proofs.NoVariable.{constant_is}
use Rattle.spec_linear.proofs.Points.{times_zero}

-- a member of the list of which c is a multiple
pub record HasSource (c : Constraint) (l : List Constraint) : Type 0 where
  pub row : Constraint
  pub among : Has row l
  pub multiple : IsMultiple row c

scaled_source : (k l : List Constraint) → AreScaled k l → (c : Constraint) → Has c l → HasSource c k
scaled_source _ _ no_row c h = absurd h
scaled_source _ _ (one_row {c = b} m s) c (inl e) = record { row = b; among = inl refl; multiple = subst (IsMultiple b) (sym e) m }
scaled_source _ _ (one_row {k = k} {l = l} m s) c (inr h) = let i = scaled_source k l s c h in record { row = i.row; among = inr i.among; multiple = i.multiple }

pub source : (k l : List Constraint) → IsArranged k l → (c : Constraint) → Has c l → HasSource c k
source k l r c h = let i = scaled_source r.order l r.scaled c h in record { row = i.row; among = reordered_has k r.order r.reordered i.row i.among; multiple = i.multiple }

pub arranged_alike : (k l : List Constraint) → IsArranged k l → Equivalent l k
arranged_alike k l r =
    alike_trans l r.order k (scaled_alike r.order l r.scaled)
    (alike_by_same_members r.order k (λ c. (reordered_has k r.order r.reordered c, reordered_back k r.order r.reordered c)))

pub arranged_irredundant : (k l m n : List Constraint) → IsArranged k l → IsArranged m n → IsIrredundant (k ++ m) → IsIrredundant (l ++ n)
arranged_irredundant k l m n r s i =
    scaled_irredundant (r.order ++ s.order) (l ++ n) (scaled_both r.order l s.order n r.scaled s.scaled)
    (reordered_irredundant (k ++ m) (r.order ++ s.order) (reordered_both k r.order m s.order r.reordered s.reordered) i)

-- ---- coefficients of multiples

factor_is : (x : ℕ) (f : Linear) → factor_of x f.products ≡ value_at (unit x) f -ℚ value_at (λ y. 0ℚ) f
factor_is x f =
    factor_of-is x f.products ∙ ring (f.constant ∷ sum_at (unit x) f.products ∷ []) (var 1) ((var 0 ⊕ var 1) ⊕ minus (var 0)) refl
    ∙ ap (λ w. value_at (unit x) f -ℚ w) (constant_is f)

pub multiple_factor : (f g : Linear) (m : AreMultiples f g) (x : ℕ) → factor_of x g.products ≡ m.factor *ℚ factor_of x f.products
multiple_factor f g m x =
    factor_is x g ∙ ap₂ (λ v w. v -ℚ w) (m.same (unit x)) (m.same (λ y. 0ℚ))
    ∙ ring (m.factor ∷ value_at (unit x) f ∷ value_at (λ y. 0ℚ) f ∷ []) (var 0 ⊗ var 1 ⊕ minus (var 0 ⊗ var 2)) (var 0 ⊗ (var 1 ⊕ minus (var 2))) refl
    ∙ ap (λ w. m.factor *ℚ w) (sym (factor_is x f))

pub source_mentions : (k l : List Constraint) → IsArranged k l → (c : Constraint) (h : Has c l) (x : ℕ) → Mentions x c.form.products → SomeMentions x k
source_mentions k l r c h x m =
    let i = source k l r c h in
    some_mentions x k i.row i.among (factor_mentioned x i.row.form.products
    (λ z. r.counted c h x m (multiple_factor i.row.form c.form i.multiple.forms x ∙ times_zero i.multiple.forms.factor (factor_of x i.row.form.products) z)))

pub arranged_mentions : (k l : List Constraint) → IsArranged k l → (x : ℕ) → SomeMentions x l → SomeMentions x k
arranged_mentions k l r x h = let t = mentioning x l h in source_mentions k l r t.row t.among x t.mentions

-- ---- multiples of multiples

pub multiples_back : (f g : Linear) → AreMultiples f g → AreMultiples g f
multiples_back f g m = record {
  factor = inv_ℚ m.factor;
  nonzero = inverse_not_zero m.factor m.nonzero;
  same = λ a.
      ring (value_at a f ∷ []) (var 0) (int (pos 1) ⊗ var 0) refl ∙ ap (λ w. w *ℚ value_at a f) (sym (times_inverse m.factor m.nonzero))
      ∙ ring (m.factor ∷ inv_ℚ m.factor ∷ value_at a f ∷ []) ((var 0 ⊗ var 1) ⊗ var 2) (var 1 ⊗ (var 0 ⊗ var 2)) refl
      ∙ ap (λ w. inv_ℚ m.factor *ℚ w) (sym (m.same a));
}

pub multiples_both : (f g h : Linear) → AreMultiples f g → AreMultiples g h → AreMultiples f h
multiples_both f g h m n = record {
  factor = n.factor *ℚ m.factor;
  nonzero = λ z. m.nonzero (product_zero n.factor m.factor n.nonzero z);
  same = λ a. n.same a ∙ ap (λ w. n.factor *ℚ w) (m.same a) ∙ ring (n.factor ∷ m.factor ∷ value_at a f ∷ []) (var 0 ⊗ (var 1 ⊗ var 2)) ((var 0 ⊗ var 1) ⊗ var 2) refl;
}

-- a disequation of the form of a multiple of c is one of the form of c
pub arranged_form : (k l : List Constraint) → IsArranged k l → (f g : Linear) → AreMultiples f g → HasForm g l → HasForm f k
arranged_form k l r f g m h =
    let i = source k l r h.disequation h.among in
    record {
      disequation = i.row;
      among = i.among;
      relation = sym i.multiple.relation ∙ h.relation;
      multiples = multiples_both f g i.row.form m (multiples_both g h.disequation.form i.row.form h.multiples (multiples_back i.row.form h.disequation.form i.multiple.forms));
    }
