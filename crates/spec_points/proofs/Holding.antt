-- All rows hold at their point.
use Rattle.std.proofs.Common.{◌≡◌, inl, inr, ℕ, List, [], ◌∷◌, ◌++◌, Bool, true, false, not, refl, sym, ap, subst, ◌∙◌}
use Rattle.std.specs.Prelude.{◌==◌}
use Rattle.std.specs.List.{list_any, AllByRecursion}
use Rattle.spec_numbers.specs.Rational.{ℚ}
use Rattle.spec_numbers.specs.Sums.{Monomial, Mentions}
use Rattle.spec_numbers.proofs.Tests.{nat_eq-same, one_is}
use Rattle.spec_linear.specs.Form.{value_at}
use Rattle.spec_linear.specs.Solution.{Constraint, Point, number, Has, SomeMentions, Solves, Solvable, Satisfies, equal_to}
use Rattle.spec_linear.specs.Echelon.{Solved, equations, solved_variables, MentionsNone}
use Rattle.spec_linear.proofs.Denominators.{satisfies_agrees}
use Rattle.spec_linear.proofs.Filled.{equation-said}
use Rattle.spec_linear.proofs.Lists.{solves_append, equal_to-holds}
use Rattle.spec_linear.proofs.Points.{solves_same}
use Rattle.spec_projection.proofs.Members.{satisfies_both, satisfies_parts, has_passed}
use Rattle.spec_projection.proofs.Mentions.{mentioning}
use Rattle.spec_points.specs.Points.{with_value, AreChosen, unsolved, IsPoint}
use Rattle.spec_points.specs.Conditions.{AreSolvedRows}

-- ---- a solution with the chosen values

pub solution : (l : List Constraint) (xs : List ℕ) (v : ℕ → ℚ) → Solvable l → AreChosen l xs v
    → (p : Point) × Solves p l × ((x : ℕ) → Has x xs → number p x ≡ v x)
solution l [] v s c = (s.0, s.1, λ x h. absurd h)
solution l (x ∷ xs) v s c =
    let r = solution (with_value l x (v x)) xs v c.0.works c.1 in
    let p = (solves_append r.0 l (equal_to x (v x) ∷ [])).0 r.1 in (
      r.0,
      p.0,
      λ y h. elim h [ inl e ↦ ap (number r.0) e ∙ (equal_to-holds r.0 x (v x)).0 p.1.0 ∙ ap v (sym e) | inr k ↦ r.2 y k ],
    )

-- ---- variables without an equation

any_has : (x : ℕ) (ys : List ℕ) → list_any (λ y. y == x) ys ≡ true → Has x ys
any_has x [] e = cc
any_has x (y ∷ ys) e = elim (one_is (y == x) (list_any (λ z. z == x) ys) e) [ inl d ↦ inl (sym (nat_eq-same y x d)) | inr d ↦ inr (any_has x ys d) ]

none_solved : (x : ℕ) (ys : List ℕ) → (Has x ys → ⊥) → not (list_any (λ y. y == x) ys) ≡ true
none_solved x ys n = go (list_any (λ y. y == x) ys) refl
  where
    go : (b : Bool) → list_any (λ y. y == x) ys ≡ b → not b ≡ true
    go true e = absurd (n (any_has x ys e))
    go false e = refl

pub is_unsolved : (es : List Solved) (order : List ℕ) (x : ℕ) → Has x order → (Has x (solved_variables es) → ⊥) → Has x (unsolved es order)
is_unsolved es order x h n = has_passed (λ z. not (list_any (λ y. y == z) (solved_variables es))) x order h (none_solved x (solved_variables es) n)

pub member_none : (es : List Solved) (x : ℕ) (s : List Monomial) → MentionsNone es s → Has x (solved_variables es) → Mentions x s → ⊥
member_none [] x s n h m = h
member_none (e ∷ es) x s n (inl i) m = n.0 (subst (λ z. Mentions z s) i m)
member_none (e ∷ es) x s n (inr k) m = member_none es x s n.1 k m

-- ---- the rows

equations_hold : (es : List Solved) (v : ℕ → ℚ) → AllByRecursion (λ e. v e.variable ≡ value_at v e.form) es → Satisfies v (equations es)
equations_hold [] v h = tt
equations_hold (e ∷ es) v h = (equation-said v e h.0, equations_hold es v h.1)

module _ (order : List ℕ) (es : List Solved) (others : List Constraint) (v : ℕ → ℚ) (rows : AreSolvedRows order es others) (p : IsPoint es others order v) where
  others_only : (x : ℕ) → SomeMentions x others → SomeMentions x (equations es ++ others)
  others_only x m = behind (equations es)
    where
      behind : (k : List Constraint) → SomeMentions x (k ++ others)
      behind [] = m
      behind (c ∷ k) = inr (behind k)

  not_solved : (x : ℕ) → SomeMentions x others → Has x (solved_variables es) → ⊥
  not_solved x m h = let r = mentioning x others m in member_none es x r.row.form.products (rows.free r.row r.among) h r.mentions

  pub holds : Satisfies v (equations es ++ others)
  holds =
      let s = solution (equations es ++ others) (unsolved es order) v rows.solvable p.chosen in
      let both : Satisfies (number s.0) (equations es ++ others) = (solves_same s.0 (equations es ++ others)).0 s.1 in
      satisfies_both v (equations es) others (equations_hold es v p.solved)
      (satisfies_agrees (number s.0) v others (λ x m. s.2 x (is_unsolved es order x (rows.over x (others_only x m)) (not_solved x m)))
      (satisfies_parts (number s.0) (equations es) others both).1)
