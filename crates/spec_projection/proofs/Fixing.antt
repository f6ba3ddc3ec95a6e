-- What a list of constraints entails, and which values it fixes, is decided; and there is a map of all fixed values.
use Rattle.std.proofs.Common.{◌≡◌, ◌⊎◌, inl, inr, ℕ, List, ◌∷◌, Option, Some, None, sym, ap, subst}
use Rattle.spec_numbers.specs.Rational.{ℚ}
use Rattle.spec_linear.specs.Solution.{Constraint, number, Solvable, Unsolvable, Fixed, Fixes, Entails, equal_to}
use Rattle.spec_linear.proofs.Lists.{fixed_is_entailed, fixed_once}
use Rattle.spec_linear.proofs.Points.{holds_same}
use Rattle.spec_linear.specs.Opposite.{opposite}
use Rattle.spec_linear.specs.Extremes.{Leaves}
use Rattle.spec_projection.proofs.Decision.{decided, follows_or_not}
use Rattle.spec_projection.proofs.Follows.{follows_by_opposite, not_both_hold}

-- a constraint follows, or some solution breaks it
pub follows_or_breaks : (l : List Constraint) (c : Constraint) → Entails l c ⊎ Leaves l c
follows_or_breaks l c = go (decided (opposite c ∷ l))
  where
    go : Solvable (opposite c ∷ l) ⊎ Unsolvable (opposite c ∷ l) → Entails l c ⊎ Leaves l c
    go (inl s) = inr (record {
      point = s.0;
      solves = s.1.1;
      breaks = λ h. not_both_hold c.relation (number s.0) c.form ((holds_same s.0 c).0 h) ((holds_same s.0 (opposite c)).0 s.1.0);
    })
    go (inr n) = inl ((follows_by_opposite l c).1 n)

-- ---- fixed values

abbrev pub IsFixedOrNot : List Constraint → ℕ → Type 0
IsFixedOrNot l x = ((q : ℚ) × Fixed l x q) ⊎ ((q : ℚ) → Fixed l x q → ⊥)

-- the value is that of any solution, if the list entails it
pub fixed_or_not : (l : List Constraint) (x : ℕ) → IsFixedOrNot l x
fixed_or_not l x = go (decided l)
  where
    by_value : (s : Solvable l) → Entails l (equal_to x (number s.0 x)) ⊎ (Entails l (equal_to x (number s.0 x)) → ⊥) → IsFixedOrNot l x
    by_value s (inl e) = inl (number s.0 x, (fixed_is_entailed l x (number s.0 x) s).0 e)
    by_value s (inr n) = inr (λ q f. n ((fixed_is_entailed l x (number s.0 x) s).1 (subst (λ r. Fixed l x r) (sym (f.always s.0 s.1)) f)))

    go : Solvable l ⊎ Unsolvable l → IsFixedOrNot l x
    go (inl s) = by_value s (follows_or_not l (equal_to x (number s.0 x)))
    go (inr n) = inr (λ q f. n f.solvable.0 f.solvable.1)

abbrev value_if : (l : List Constraint) (x : ℕ) → IsFixedOrNot l x → Option ℚ
value_if l x (inl f) = Some f.0
value_if l x (inr n) = None

-- the value of each variable that the list fixes
abbrev pub values_fixed : List Constraint → ℕ → Option ℚ
values_fixed l x = value_if l x (fixed_or_not l x)

sound_at : (l : List Constraint) (x : ℕ) (q : ℚ) (d : IsFixedOrNot l x) → value_if l x d ≡ Some q → Fixed l x q
sound_at l x q (inl f) e = let h : f.0 ≡ q = cc in subst (λ r. Fixed l x r) h f.1
sound_at l x q (inr n) e = cc

complete_at : (l : List Constraint) (x : ℕ) (q : ℚ) (d : IsFixedOrNot l x) → Fixed l x q → value_if l x d ≡ Some q
complete_at l x q (inl f) h = ap (λ r. Some r) (fixed_once l x f.0 q f.1 h)
complete_at l x q (inr n) h = absurd (n q h)

pub values_fixed_are : (l : List Constraint) → Fixes l (values_fixed l)
values_fixed_are l = record {
  sound = λ x q e. sound_at l x q (fixed_or_not l x) e;
  complete = λ x q h. complete_at l x q (fixed_or_not l x) h;
}

pub all_fixed : (l : List Constraint) → (fixed : ℕ → Option ℚ) × Fixes l fixed
all_fixed l = (values_fixed l, values_fixed_are l)
