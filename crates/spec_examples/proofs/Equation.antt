-- The equation 2*X+3=7, its row and its solved form.
use Rattle.std.proofs.Common.{◌≡◌, ◌↔◌, ℕ, zero, suc, [], ◌∷◌, pos, Option, Some, None, inl, inr, refl, sym, ap, ◌∙◌, subst}
use Rattle.spec_numbers.specs.Gcd.{gcd}
use Rattle.spec_numbers.specs.Rational.{ℚ, 0ℚ, 1ℚ, ratio, int_ℚ, neg_ℚ, ◌+ℚ◌, ◌-ℚ◌, ◌*ℚ◌}
use Rattle.spec_numbers.specs.Sums.{Mentions}
use Rattle.spec_numbers.proofs.Ring.{var, int, ◌⊕◌, ◌⊗◌, minus as less}
use Rattle.spec_numbers.proofs.RationalLemmas.{ring, cross_same}
use Rattle.spec_linear.specs.Form.{Linear, constant_form, variable_form, sum_form, scaled_form, value_at}
use Rattle.spec_linear.specs.Solution.{Constraint, HoldsAt, Satisfies, MentionsOnly, Fixes}
use Rattle.spec_linear.proofs.Values.{value_at-constant_form, value_at-variable_form, value_at-sum_form, value_at-scaled_form, value_at-difference_form}
use Rattle.spec_linear.specs.Echelon.{IsBefore}
use Rattle.spec_linear.specs.SolvedForm.{IsSolvedForm, Agrees, number_in}
use Rattle.spec_linear.proofs.EchelonValues.{solved_form_fixes}
use Rattle.spec_terms.specs.Term.{Var}
use Rattle.spec_syntax.specs.Trees.{Tree}
use Rattle.spec_builtins.specs.Built.{natural, compound2}
use Rattle.spec_branch.specs.Relations.{Is, lin, related, Equals}
use Rattle.spec_branch.specs.Alike.{no_values}

abbrev pub equation : Tree
equation = compound2 "=" (compound2 "+" (compound2 "*" (natural 2) (Var 0)) (natural 3)) (natural 7)

abbrev two : ℚ
two = int_ℚ (pos 2)

abbrev three : ℚ
three = int_ℚ (pos 3)

abbrev seven : ℚ
seven = int_ℚ (pos 7)

abbrev left : Linear
left = sum_form (scaled_form two (variable_form 0)) (constant_form three)

abbrev pub row : Constraint
row = related Equals left (constant_form seven)

pub row_is : lin no_values equation ≡ Is row
row_is = refl

row_value : (a : ℕ → ℚ) → value_at a row.form ≡ (two *ℚ a 0 +ℚ three) -ℚ seven
row_value a =
    value_at-difference_form a left (constant_form seven)
    ∙ ap (λ q. q -ℚ value_at a (constant_form seven)) (value_at-sum_form a (scaled_form two (variable_form 0)) (constant_form three)
    ∙ ap (λ q. q +ℚ value_at a (constant_form three)) (value_at-scaled_form a two (variable_form 0) ∙ ap (λ q. two *ℚ q) (value_at-variable_form a 0))
    ∙ ap (λ q. two *ℚ a 0 +ℚ q) (value_at-constant_form a three))
    ∙ ap (λ q. (two *ℚ a 0 +ℚ three) -ℚ q) (value_at-constant_form a seven)

abbrev half : ℚ
half = ratio (pos 1) 2

half_twice : half *ℚ two ≡ 1ℚ
unfolding ratio int_ℚ gcd ◌*ℚ◌
half_twice = cross_same (half *ℚ two) 1ℚ refl

x_is_two : (x : ℚ) → (two *ℚ x +ℚ three) -ℚ seven ≡ 0ℚ → x ≡ two
x_is_two x e =
    ring (x ∷ []) (var 0) (int (pos 1) ⊗ var 0) refl
    ∙ ap (λ q. q *ℚ x) (sym half_twice)
    ∙ ring (x ∷ half ∷ []) ((var 1 ⊗ int (pos 2)) ⊗ var 0) (var 1 ⊗ (((int (pos 2) ⊗ var 0 ⊕ int (pos 3)) ⊕ less (int (pos 7))) ⊕ int (pos 4))) refl
    ∙ ap (λ q. half *ℚ (q +ℚ int_ℚ (pos 4))) e
    ∙ ring (half ∷ []) (var 0 ⊗ (int (pos 0) ⊕ int (pos 4))) ((var 0 ⊗ int (pos 2)) ⊗ int (pos 2)) refl
    ∙ ap (λ q. q *ℚ two) half_twice
    ∙ ring [] (int (pos 1) ⊗ int (pos 2)) (int (pos 2)) refl

two_is_x : (x : ℚ) → x ≡ two → (two *ℚ x +ℚ three) -ℚ seven ≡ 0ℚ
two_is_x x e = ap (λ q. (two *ℚ q +ℚ three) -ℚ seven) e ∙ ring [] ((int (pos 2) ⊗ int (pos 2) ⊕ int (pos 3)) ⊕ less (int (pos 7))) (int (pos 0)) refl

-- ---- its solved form

abbrev pub two_at : ℕ → Option Linear
two_at zero = Some (constant_form two)
two_at (suc v) = None

known : MentionsOnly (0 ∷ []) (row ∷ [])
unfolding ratio int_ℚ neg_ℚ gcd ◌*ℚ◌ ◌+ℚ◌
known x (inl (inl e)) = inl e
known x (inl (inr never)) = elim never [ ]
known x (inr never) = elim never [ ]

before : (x : ℕ) (f : Linear) → two_at x ≡ Some f → IsBefore (0 ∷ []) x f.products
before zero f e = let same : constant_form two ≡ f = cc in subst (λ g. IsBefore (0 ∷ []) 0 g.products) same (record { ordered = inl (refl, tt); nonzero = tt })
before (suc x) f e = cc

free : (x y : ℕ) (f : Linear) → two_at x ≡ Some f → Mentions y f.products → two_at y ≡ None
free zero y f e mentions = let same : f ≡ constant_form two = cc in absurd (subst (λ g. Mentions y g.products) same mentions)
free (suc x) y f e mentions = cc

same : (a : ℕ → ℚ) → Satisfies a (row ∷ []) ↔ Agrees a two_at
same a = (λ holds. agrees holds.0, λ agree. (row_value a ∙ two_is_x (a 0) (agree 0 (constant_form two) refl ∙ value_at-constant_form a two), tt))
  where
    agrees : HoldsAt a row → Agrees a two_at
    agrees holds zero f e =
        let one : constant_form two ≡ f = cc in
        subst (λ g. a 0 ≡ value_at a g) one (x_is_two (a 0) (sym (row_value a) ∙ holds) ∙ sym (value_at-constant_form a two))
    agrees holds (suc x) f e = cc

pub solved : IsSolvedForm (0 ∷ []) (row ∷ []) two_at
solved = record { distinct = (λ never. never, tt); known = known; before = before; free = free; same = same }

abbrev pub fixed : ℕ → Option ℚ
fixed x = number_in (two_at x)

pub fixes : Fixes (row ∷ []) fixed
fixes = solved_form_fixes (0 ∷ []) (row ∷ []) two_at solved
