-- The greatest lower bound of the query's last variable is its least value.
use Rattle.std.proofs.Common.{◌≡◌, ◌∙◌, ◌<◌, ◌↔◌, ℕ, suc, List, Some, pos, inl, inr, refl, sym, ap, subst, arith}
use Rattle.std.proofs.lemmas.Option.{same_Some}
use Rattle.spec_numbers.specs.Rational.{ℚ, int_ℚ, ◌≤ℚ◌, ◌<ℚ◌}
use Rattle.spec_numbers.proofs.Order.{le_antisym, lt_le_false, lt_or_le}
use Rattle.spec_linear.specs.Solution.{Constraint, Point, Solves, number}
use Rattle.spec_syntax.specs.Trees.{Tree}
use Rattle.spec_branch.specs.Values.{IsMetAt, value_of}
use Rattle.spec_search.specs.Asked.{IsGreatestLowerBound, HasNoLowerBound, Takes}
use Rattle.spec_command.specs.Query.{constraints, least}
use Rattle.spec_command.proofs.Least.{here_met, least_value}

-- each variable is its least value
abbrev pub there : Point
there = record { denominator = 1; positive = omega arith; numerator = λ x. pos (least x) }

pub met_there : (k : ℕ) → k < 200 → IsMetAt (number there) (constraints (suc k))
unfolding int_ℚ
met_there k small = here_met k small

number_there : (k : ℕ) → number there k ≡ int_ℚ (pos (least k))
unfolding int_ℚ
number_there k = refl

module _ (k : ℕ) (small : k < 200) (l : List Constraint) (e : Tree) (solutions : (p : Point) → Solves p l ↔ IsMetAt (number p) (constraints (suc k)))
    (valued : (p : Point) → Solves p l → value_of (number p) e ≡ Some (number p k)) where
  abbrev w : ℚ
  w = int_ℚ (pos (least k))

  solved : Solves there l
  solved = (solutions there).1 (met_there k small)

  taken : Takes l e w
  taken = record { point = there; solves = solved; value = valued there solved ∙ ap Some (number_there k) }

  none_below : (v : ℚ) → Takes l e v → v <ℚ w → ⊥
  none_below v takes below =
      let same : v ≡ number takes.point k = same_Some v (number takes.point k) (sym takes.value ∙ valued takes.point takes.solves) in
      let above = (least_value k small).bound (number takes.point) ((solutions takes.point).0 takes.solves) in
      lt_le_false below (subst (λ x. w ≤ℚ x) (sym same) above)

  not_more : (q : ℚ) → IsGreatestLowerBound l e q → q <ℚ w → ⊥
  not_more q h lt = let (v, takes, below) = h.greatest w lt in none_below v takes below

  pub bound_is_least : (q : ℚ) → IsGreatestLowerBound l e q → q ≡ w
  bound_is_least q h = le_antisym (h.bound w taken) (elim (lt_or_le q w) [ inl lt ↦ absurd (not_more q h lt) | inr le ↦ le ])

  pub is_bounded : HasNoLowerBound l e → ⊥
  is_bounded h = let (v, takes, below) = h.less w in none_below v takes below
