-- The stages of a projection together: what is kept of a list, the last rows of it, and these arranged.
use Rattle.std.proofs.Common.{◌≡◌, ℕ, List, [], ◌∷◌, ◌++◌, map, ap, sym, subst, ◌∙◌}
use Rattle.std.proofs.lemmas.List.{map-append}
use Rattle.spec_numbers.specs.Sums.{Mentions}
use Rattle.spec_linear.specs.declared.Relation.TheVariants.{Eq, Ne}
use Rattle.spec_linear.specs.Form.{IsForm}
use Rattle.spec_linear.specs.Solution.{Constraint, Has, MentionsOnly, Solvable, Point, Solves}
use Rattle.spec_linear.proofs.Lists.{solves_append}
use Rattle.spec_linear.proofs.Denominators.{has_left, has_right}
use Rattle.spec_linear.specs.Echelon.{Solved, AreDistinct}
use Rattle.spec_projection.specs.Elimination.{IsInequality}
use Rattle.spec_projection.specs.Lists.{AreForms}
use Rattle.spec_projection.specs.Partial.{AreInequalities, Eliminates}
use Rattle.spec_projection.specs.Strict.{Strengthened}
use Rattle.spec_projection.specs.Irredundant.{IsIrredundant, NoneFollows, Sifts}
use Rattle.spec_projection.specs.Projection.{Keeps, Projects, inequalities_of, disequations_of}
use Rattle.spec_projection.specs.Substitution.{put_into}
use Rattle.spec_projection.proofs.Free.{AreForms-put_into}
use Rattle.spec_projection.proofs.PutIn.{forms_of_inequalities}
use Rattle.spec_projection.proofs.Echelons.{distinct_parts}
use Rattle.spec_projection.proofs.Mentions.{mentioning, some_mentions}
use Rattle.spec_projection.proofs.Sifted.{sublist_has, sifted_sublist, sifted_none, none_yet}
use Rattle.spec_projection.proofs.Strong.{Strong, strengthened_from}
use Rattle.spec_projection.proofs.Eliminating.{sublist_mentions, eliminates_keeps, partial_eliminates}
use Rattle.spec_projection.proofs.Ends.{projected_rows}
use Rattle.spec_answers.specs.Forms.{AreAnswerRows}
use Rattle.spec_answers.specs.Rows.{Inequality, Disequation, inequality, disequation}
use Rattle.cq_equations.specs.Rows.{equations_of}
use Rattle.spec_simplex.specs.Overflow.{Moment, OverflowDue}
use Rattle.spec_simplex.specs.Answers.{IsAnswerRow}
use Rattle.cq_frac.specs.declared.Pair.{Pair}
use Rattle.cq_frac.specs.declared.VarId.{VarId}
use Rattle.cq_elimination.specs.Steps.{AreRowsOf}
use Rattle.cq_project.specs.Answering.{IsRefusedAnswering}
use Rattle.cq_equations.specs.Told.{numbers_of}
use Rattle.cq_elimination.specs.Scaling.{AreDisequations}
use Rattle.cq_project.proofs.Parts.{solvable_part}
use Rattle.cq_project.proofs.Moments.{rows_refused}
use Rattle.cq_project.specs.declared.keep.Kept.{Kept}
use Rattle.cq_project.specs.Keeping.{IsKept}
use Rattle.cq_project.proofs.Listing.{ascending_distinct, distinct_both}
use Rattle.cq_project.specs.declared.last.LastRows.{LastRows}
use Rattle.cq_project.specs.Lasting.{Stands, AreLeft, AreLast}
use Rattle.cq_project.proofs.LastStanding as standing
use Rattle.cq_project.proofs.LastStops.{each_row}
use Rattle.cq_elimination.specs.Arranging.{HasNoEquation, AreInequalityRows, AreDisequationRows}

-- ---- distinct variables

distinct_behind : (xs ys : List ℕ) → AreDistinct (xs ++ ys) → AreDistinct ys
distinct_behind [] ys d = d
distinct_behind (x ∷ xs) ys d = distinct_behind xs ys d.1

-- ---- rows of which none follows from the others and others beside

irredundant_alone : (rows beside : List Constraint) → NoneFollows rows beside → IsIrredundant rows
irredundant_alone rows beside n k m c e h = n k m c e (λ p s. h p (fewer p k m beside s))
  where
    fewer : (p : Point) (k m beside : List Constraint) → Solves p (k ++ m ++ beside) → Solves p (k ++ m)
    fewer p k m beside s = ((solves_append p (k ++ m) beside).0 s).0

-- ---- the list
module _ (targets : List ℕ) (l : List Constraint) (k : Kept) (is : IsKept targets l k) where
  abbrev kept : List ℕ
  kept = numbers_of k.variables.items

  abbrev order : List ℕ
  order = targets ++ kept

  abbrev pub stands : Stands (numbers_of k.rest.items) k.inequalities.items k.disequations.items
  stands = record {
    ordered = is.inequalities;
    unequal = is.disequations;
    solvable = is.solvable;
    others = order;
    over = record { apart = is.apart; all = is.over };
    only = subst (MentionsOnly order) is.left is.leaves.keeps.kept_all;
  }

  pub are_left : AreLeft targets kept (numbers_of k.rest.items) l k.inequalities.items k.disequations.items
  are_left = record { es = is.es; leaves = is.leaves; left = is.left; over = record { apart = is.apart; all = is.over } }

  -- the equations that are put in
  abbrev all : List Solved
  all = is.leaves.keeps.others ++ is.leaves.solved_targets

  pub strict_forms : AreForms k.inequalities.items
  strict_forms = subst AreForms (sym is.leaves.strict_is) (λ c h.
      let s = strengthened_from (map (put_into all) (disequations_of l)) (map (put_into all) (inequalities_of l)) is.leaves.keeps.strict is.leaves.keeps.strengthened c h in
      subst IsForm (sym s.form) (AreForms-put_into all (inequalities_of l) (forms_of_inequalities l is.forms) s.row s.among))

  pub kept_so : Keeps is.leaves.front targets kept l (equations_of k.equations.items)
  kept_so = subst (Keeps is.leaves.front targets kept l) is.equations_are is.leaves.keeps

  pub order_distinct : AreDistinct order
  order_distinct =
      distinct_both targets kept (distinct_behind is.leaves.front targets is.distinct) (ascending_distinct kept is.older_first)
      (λ x t h. distinct_parts is.leaves.front targets x is.distinct (is.leaves.keeps.kept_only x h).0 t)

  module _ (r : LastRows) (a : AreLast order k.inequalities.items k.disequations.items r) where
    strong : (c : Constraint) → Has c a.strict → Strong k.disequations.items a.remaining c
    strong = strengthened_from k.disequations.items a.remaining a.strict a.strengthened

    in_strict : (c : Constraint) → Has c r.inequalities.items → Has c a.strict
    in_strict = sublist_has r.inequalities.items a.strict (sifted_sublist r.disequations.items a.strict r.inequalities.items a.last)

    in_left : (c : Constraint) → Has c r.disequations.items → Has c k.disequations.items
    in_left = sublist_has r.disequations.items k.disequations.items (sifted_sublist a.strict k.disequations.items r.disequations.items a.unequal)

    remaining_inequalities : AreInequalities a.remaining
    remaining_inequalities =
        (eliminates_keeps order k.inequalities.items k.disequations.items is.inequalities strict_forms (subst (MentionsOnly order) is.left is.leaves.keeps.kept_all) a.remaining
        (partial_eliminates order k.inequalities.items a.remaining a.partial)).inequalities

    pub ordered : AreInequalities r.inequalities.items
    ordered c h = let s = strong c (in_strict c h) in s.inequality (remaining_inequalities s.row s.among)

    pub unequal : AreDisequations r.disequations.items
    unequal c h = is.disequations c (in_left c h)

    pub ordered_no_equation : HasNoEquation r.inequalities.items
    ordered_no_equation c h e = subst IsInequality e (ordered c h)

    pub unequal_no_equation : HasNoEquation r.disequations.items
    unequal_no_equation c h e = let differ : Ne ≡ Eq = sym (unequal c h) ∙ e in cc

    pub ordered_over : MentionsOnly order r.inequalities.items
    ordered_over x h =
        let t = mentioning x r.inequalities.items h in
        let s = strong t.row (in_strict t.row t.among) in
        a.over x (some_mentions x a.remaining s.row s.among (subst (λ f. Mentions x f.products) s.form t.mentions))

    pub unequal_over : MentionsOnly order r.disequations.items
    unequal_over x h =
        subst (MentionsOnly order) is.left is.leaves.keeps.kept_all x (sublist_mentions r.disequations.items k.disequations.items in_left x h)

    together : Solvable (r.disequations.items ++ a.strict)
    together =
        standing.unequal_solvable (numbers_of k.rest.items) k.inequalities.items k.disequations.items stands strict_forms a.remaining a.partial a.strict a.strengthened
        r.disequations.items a.unequal

    pub ordered_solvable : Solvable r.inequalities.items
    ordered_solvable =
        solvable_part r.inequalities.items (r.disequations.items ++ a.strict) (λ c h. has_right c r.disequations.items a.strict (in_strict c h)) together

    pub unequal_solvable : Solvable r.disequations.items
    unequal_solvable = solvable_part r.disequations.items (r.disequations.items ++ a.strict) (λ c h. has_left c r.disequations.items a.strict h) together

    pub ordered_irredundant : IsIrredundant r.inequalities.items
    ordered_irredundant = irredundant_alone r.inequalities.items r.disequations.items (sifted_none r.disequations.items [] a.strict r.inequalities.items (none_yet (a.strict ++ r.disequations.items)) a.last)

    pub unequal_irredundant : IsIrredundant r.disequations.items
    unequal_irredundant = irredundant_alone r.disequations.items a.strict (sifted_none a.strict [] k.disequations.items r.disequations.items (none_yet (k.disequations.items ++ a.strict)) a.unequal)

    -- ---- their numbers by their coefficients
    pub ordered_due : (pair : Pair) → ((m : Moment) → AreRowsOf m r.inequalities.items → OverflowDue m pair) → IsRefusedAnswering targets l pair
    ordered_due pair due =
        rows_refused targets l r.inequalities.items
        (λ c h.
        let s = strong c (in_strict c h) in
        subst (IsAnswerRow targets l) (sym s.form)
        (each_row targets kept (numbers_of k.rest.items) l k.inequalities.items k.disequations.items are_left a.remaining a.partial s.row
        (has_right s.row k.disequations.items a.remaining s.among))) pair due

    pub unequal_due : (pair : Pair) → ((m : Moment) → AreRowsOf m r.disequations.items → OverflowDue m pair) → IsRefusedAnswering targets l pair
    unequal_due pair due =
        rows_refused targets l r.disequations.items
        (λ c h. each_row targets kept (numbers_of k.rest.items) l k.inequalities.items k.disequations.items are_left a.remaining a.partial c
        (has_left c k.disequations.items a.remaining (in_left c h))) pair due

    -- ---- the rows in print
    module _ (inequalities : List Inequality) (disequations : List Disequation)
        (ordered_rows : AreInequalityRows order r.inequalities.items inequalities) (unequal_rows : AreDisequationRows order r.disequations.items disequations) where
      projects : Projects is.leaves.front targets kept l (equations_of k.equations.items) (map inequality inequalities) (map disequation disequations)
      projects =
          subst (λ es. Projects is.leaves.front targets kept l es (map inequality inequalities) (map disequation disequations)) is.equations_are
          (record {
            keeps = is.leaves.keeps;
            remaining = a.remaining;
            eliminates = subst (λ s. Eliminates order s a.remaining) is.leaves.strict_is (partial_eliminates order k.inequalities.items a.remaining a.partial);
            over = a.over;
            strict_again = a.strict;
            strengthened_again = subst (λ d. Strengthened d a.remaining a.strict) (sym is.left) a.strengthened;
            unequal = r.disequations.items;
            rows = r.inequalities.items;
            unequal_again = subst (λ d. Sifts a.strict [] d r.disequations.items) (sym is.left) a.unequal;
            last = a.last;
            arrangement = ordered_rows.arranged;
            arrangement_unequal = unequal_rows.arranged;
          })

      pub answer_rows : Solvable l → AreAnswerRows order l (record { equations = equations_of k.equations.items; inequalities = inequalities; disequations = disequations })
      answer_rows p = record {
        projected = projected_rows is.distinct is.all is.forms projects p;
        scaled_inequalities = ordered_rows.scaled;
        scaled_disequations = unequal_rows.scaled;
        sorted_inequalities = ordered_rows.sorted;
        sorted_disequations = unequal_rows.sorted;
      }

-- ---- the same where a function lends what it was given
module _ (targets : List ℕ) (l : List Constraint) (k : Kept) (is : IsKept targets l k) (ordered unequal : List Constraint) (rest : List VarId)
    (ordered_is : ordered ≡ k.inequalities.items) (unequal_is : unequal ≡ k.disequations.items) (rest_is : rest ≡ k.rest.items) where
  pub stands_lent : Stands (numbers_of rest) ordered unequal
  stands_lent =
      subst (λ xs. Stands (numbers_of xs) ordered unequal) (sym rest_is)
      (subst (λ i. Stands (numbers_of k.rest.items) i unequal) (sym ordered_is)
      (subst (λ d. Stands (numbers_of k.rest.items) k.inequalities.items d) (sym unequal_is) (stands targets l k is)))

  pub left_lent : AreLeft targets (numbers_of k.variables.items) (numbers_of rest) l ordered unequal
  left_lent =
      subst (λ xs. AreLeft targets (numbers_of k.variables.items) (numbers_of xs) l ordered unequal) (sym rest_is)
      (subst (λ i. AreLeft targets (numbers_of k.variables.items) (numbers_of k.rest.items) l i unequal) (sym ordered_is)
      (subst (λ d. AreLeft targets (numbers_of k.variables.items) (numbers_of k.rest.items) l k.inequalities.items d) (sym unequal_is) (are_left targets l k is)))

  pub last_given : (order : List ℕ) (r : LastRows) → AreLast order ordered unequal r → AreLast order k.inequalities.items k.disequations.items r
  last_given order r a =
      subst (λ d. AreLast order k.inequalities.items d r) unequal_is (subst (λ i. AreLast order i unequal r) ordered_is a)

pub order_is : (keep variables : List VarId) (k : Kept) (both : List VarId) → both ≡ keep ++ variables → variables ≡ k.variables.items
    → numbers_of both ≡ numbers_of keep ++ numbers_of k.variables.items
order_is keep variables k both e f = ap numbers_of (e ∙ ap (λ v. keep ++ v) f) ∙ map-append (λ x. x.0) keep k.variables.items
