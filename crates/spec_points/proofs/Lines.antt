-- The line of a point: rows have one, whichever point of them is taken.
use Rattle.std.proofs.Common.{◌≡◌, ◌⊎◌, inl, inr, ℕ, List, [], ◌∷◌, ◌++◌, Bool, true, refl, sym, ap, ap₂, subst, ◌∙◌}
use Rattle.std.specs.Prelude.{◌≢◌, ◌==◌, codes}
use Rattle.std.specs.List.{list_any}
use Rattle.spec_numbers.specs.Rational.{ℚ}
use Rattle.spec_numbers.specs.Texts.{Text}
use Rattle.spec_numbers.proofs.Tests.{or_left, or_right}
use Rattle.spec_text.specs.Numbers.{number_text}
use Rattle.spec_linear.specs.Form.{variables}
use Rattle.spec_linear.specs.Solution.{Constraint, Has, SomeMentions, Equivalent}
use Rattle.spec_linear.specs.Echelon.{Solved, equations}
use Rattle.spec_linear.proofs.Denominators.{has_mentioned}
use Rattle.spec_projection.proofs.Members.{has_passed, alike_refl}
use Rattle.spec_points.specs.Points.{IsPoint}
use Rattle.spec_points.specs.Conditions.{AreSolvedRows}
use Rattle.spec_points.specs.Lines.{stands_in, point_variables, value_text, values_text, point_line, ArePointLines, no_row, a_point}
use Rattle.spec_points.proofs.Exists as exists
use Rattle.spec_points.proofs.Exists.{any_true, distinct_filtered}
use Rattle.spec_points.proofs.Unique.{all_alike}

-- ---- the variables that stand in the rows

stands : (x : ℕ) (rows : List Constraint) → SomeMentions x rows → stands_in rows x ≡ true
stands x [] h = absurd h
stands x (c ∷ rows) (inl m) =
    or_left (list_any (λ y. y == x) (variables c.form.products)) (stands_in rows x) (any_true x (variables c.form.products) (has_mentioned x c.form.products m))
stands x (c ∷ rows) (inr h) = or_right (list_any (λ y. y == x) (variables c.form.products)) (stands_in rows x) (stands x rows h)

-- the rows are such over their own variables, too
over_standing : (order : List ℕ) (es : List Solved) (others : List Constraint) → AreSolvedRows order es others
    → AreSolvedRows (point_variables order (equations es ++ others)) es others
over_standing order es others r = record {
  distinct = distinct_filtered (stands_in (equations es ++ others)) order r.distinct;
  over = λ x m. has_passed (stands_in (equations es ++ others)) x order (r.over x m) (stands x (equations es ++ others) m);
  reduced = r.reduced;
  free = r.free;
  solvable = r.solvable;
}

-- ---- one text

texts_alike : (name : ℕ → Text) (v w : ℕ → ℚ) (xs : List ℕ) → ((x : ℕ) → Has x xs → v x ≡ w x) → values_text name v xs ≡ values_text name w xs
texts_alike name v w [] h = refl
texts_alike name v w (x ∷ []) h = ap (λ (q : ℚ). name x ++ codes "=" ++ number_text q) (h x (inl refl))
texts_alike name v w (x ∷ y ∷ xs) h =
    ap₂ (λ (q : ℚ) (rest : Text). (name x ++ codes "=" ++ number_text q) ++ codes ", " ++ rest) (h x (inl refl)) (texts_alike name v w (y ∷ xs) (λ z k. h z (inr k)))

module _ (name : ℕ → Text) (order : List ℕ) (es : List Solved) (others : List Constraint) (rows : AreSolvedRows order es others) where
  abbrev all : List Constraint
  all = equations es ++ others

  none_or_some : (l : List Constraint) → (l ≡ []) ⊎ (l ≢ [])
  none_or_some [] = inl refl
  none_or_some (c ∷ l) = inr (λ e. cc)

  pub a_line : (k : List Text) × ArePointLines name order es others k
  a_line =
      let r = over_standing order es others rows in
      let p = exists.a_point es others (point_variables order all) r.distinct r.reduced r.solvable in
      elim (none_or_some all) [
        | inl e ↦ ([], no_row e)
        | inr n ↦ (point_line name p.0 (point_variables order all) ∷ [], a_point p.0 n p.1)
      ]

  pub one_line : (k l : List Text) → ArePointLines name order es others k → ArePointLines name order es others l → k ≡ l
  one_line k l (no_row e) (no_row d) = refl
  one_line k l (no_row e) (a_point w n q) = absurd (n e)
  one_line k l (a_point v n p) (no_row d) = absurd (n d)
  one_line k l (a_point v n p) (a_point w m q) =
      let r = over_standing order es others rows in
      ap (λ (t : Text). (codes "% at " ++ t) ∷ [])
      (texts_alike name v w (point_variables order all)
      (all_alike (point_variables order all) es es others others v w r r (alike_refl all) refl p q))
