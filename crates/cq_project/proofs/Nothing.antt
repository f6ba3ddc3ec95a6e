-- The rows over no variable, where no disequation keeps one: there are none.
use Rattle.std.proofs.Common.{◌≡◌, inl, ℕ, List, [], ◌∷◌, ◌++◌, map, refl, ap, sym, ◌∙◌, subst}
use Rattle.std.specs.List.{AllByRecursion}
use Rattle.spec_linear.specs.Solution.{Constraint, Has, Solvable}
use Rattle.spec_linear.specs.Echelon.{Solved, InOrder, variables}
use Rattle.spec_projection.specs.Lists.{AreForms}
use Rattle.spec_projection.specs.Others.{AreAscending}
use Rattle.spec_projection.specs.Projection.{Keeps, disequations_of}
use Rattle.spec_projection.specs.Substitution.{put_into, solved_variables}
use Rattle.spec_projection.proofs.Mentions.{mentioning}
use Rattle.spec_projection.proofs.Sifted.{sublist_has, sifted_sublist}
use Rattle.spec_answers.specs.Rows.{Rows, Inequality, Disequation, no_rows}
use Rattle.spec_answers.specs.Forms.{IsScaled, AreAnswerRows}
use Rattle.cq_elimination.proofs.AnsweredLemmas.{HasRows, rows_exist}
use Rattle.cq_equations.specs.Told.{numbers_of}
use Rattle.cq_equations.specs.Rows.{equations_of}
use Rattle.cq_elimination.specs.Lines.{lines_of, inequality_of, disequation_of}
use Rattle.cq_project.specs.Projecting.{IsProjection, rows_of}
use Rattle.cq_project.specs.declared.Rows as declared

-- ---- lists with no member

no_member : (xs : List ℕ) → ((x : ℕ) → Has x xs → ⊥) → xs ≡ []
no_member [] none = refl
no_member (x ∷ xs) none = absurd (none x (inl refl))

none_solved : (es : List Solved) → ((x : ℕ) → Has x (solved_variables es) → Has x []) → es ≡ []
none_solved [] none = refl
none_solved (e ∷ es) none = absurd (none e.variable (inl refl))

-- ---- rows over no variable

none_between : (l : List Constraint) (r : Rows) → AreAnswerRows [] l r → r.inequalities ≡ []
none_between l r a = go r.inequalities a.scaled_inequalities
  where
    go : (is : List Inequality) → AllByRecursion (λ i. IsScaled [] i.products) is → is ≡ []
    go [] all = refl
    go (i ∷ is) all = absurd (subst (λ s. InOrder [] (variables s)) all.0.leads all.0.ordered)

none_unequal : (l : List Constraint) (r : Rows) → AreAnswerRows [] l r → r.disequations ≡ []
none_unequal l r a = go r.disequations a.scaled_disequations
  where
    go : (ds : List Disequation) → AllByRecursion (λ d. IsScaled [] d.products) ds → ds ≡ []
    go [] all = refl
    go (d ∷ ds) all = absurd (subst (λ s. InOrder [] (variables s)) all.0.leads all.0.ordered)

module _ (l : List Constraint) (equal : disequations_of l ≡ []) (forms : AreForms l) (solvable : Solvable l) where
  exist : HasRows [] l
  exist = rows_exist [] l tt forms solvable

  -- no disequation is left, so no variable is kept
  none_left : (x : Constraint) → Has x exist.keeps.left → ⊥
  none_left x h =
      let all : List Solved = exist.keeps.others ++ exist.rows.equations in
      let among : Has x (map (put_into all) (disequations_of l)) =
      sublist_has exist.keeps.left (map (put_into all) (disequations_of l)) (sifted_sublist exist.keeps.strict (map (put_into all) (disequations_of l)) exist.keeps.left exist.keeps.unequal) x h in
      subst (λ ds. Has x (map (put_into all) ds)) equal among

  none_kept : exist.kept ≡ []
  none_kept = no_member exist.kept (λ x h. let t = mentioning x exist.keeps.left (exist.keeps.kept_only x h).1 in none_left t.row t.among)

  none_solved_for : exist.rows.equations ≡ []
  none_solved_for = none_solved exist.rows.equations exist.keeps.solved_targets

  form : AreAnswerRows [] l exist.rows
  form = subst (λ xs. AreAnswerRows xs l exist.rows) none_kept exist.form

  none_said : exist.rows ≡ no_rows
  none_said = equal_rows exist.rows none_solved_for (none_between l exist.rows form) (none_unequal l exist.rows form)
    where
      equal_rows : (r : Rows) → r.equations ≡ [] → r.inequalities ≡ [] → r.disequations ≡ [] → r ≡ no_rows
      equal_rows r e i d =
          ap (λ x. record { equations = x; inequalities = r.inequalities; disequations = r.disequations }) e
          ∙ ap (λ x. record { equations = []; inequalities = x; disequations = r.disequations }) i
          ∙ ap (λ x. record { equations = []; inequalities = []; disequations = x }) d

  keeps : Keeps exist.front [] [] l []
  keeps = subst (λ xs. Keeps exist.front [] xs l []) none_kept (subst (λ es. Keeps exist.front [] exist.kept l es) none_solved_for exist.keeps)

  pub nothing : (r : declared.Rows) → r.equations.items ≡ [] → r.inequalities.items ≡ [] → r.disequations.items ≡ [] → r.kept.items ≡ [] → IsProjection [] l r
  nothing r e i d k = record {
    front = exist.front;
    others = exist.others;
    older_first = subst (λ xs. AreAscending (numbers_of xs)) (sym k) tt;
    keeps = subst (λ xs. Keeps exist.front [] (numbers_of xs) l (equations_of r.equations.items)) (sym k) (subst (λ es. Keeps exist.front [] [] l (equations_of es)) (sym e) keeps);
    form = subst (λ xs. AreAnswerRows (numbers_of xs) l (rows_of r)) (sym k) (subst (AreAnswerRows [] l) (sym is) (subst (AreAnswerRows [] l) none_said form));
  }
    where
      is : rows_of r ≡ no_rows
      is =
          ap (λ x. record { equations = equations_of x; inequalities = map inequality_of (lines_of r.inequalities.items); disequations = map disequation_of (lines_of r.disequations.items) }) e
          ∙ ap (λ x. record { equations = []; inequalities = map inequality_of (lines_of x); disequations = map disequation_of (lines_of r.disequations.items) }) i
          ∙ ap (λ x. record { equations = []; inequalities = []; disequations = map disequation_of (lines_of x) }) d
