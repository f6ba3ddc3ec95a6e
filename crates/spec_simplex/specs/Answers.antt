-- The moments while the rows of an answer over some targets are made of a list of constraints, and when they are
-- too many. No law takes these relations apart: only code introduces them, so that they can grow by constructors.
use Rattle.std.specs.Prelude.{◌≡◌, ℕ, List, [], ◌++◌, map, IsPermutation}
use Rattle.std.specs.List.{AllByRecursion}
use Rattle.spec_linear.specs.Form.{Linear}
use Rattle.spec_linear.specs.Solution.{Constraint, Has, MentionsOnly}
use Rattle.spec_linear.specs.Echelon.{Solved, IsEchelon}
use Rattle.spec_projection.specs.Others.{AreOthers}
use Rattle.spec_projection.specs.Substitution.{put_into}
use Rattle.spec_projection.specs.Strict.{Strengthened}
use Rattle.spec_projection.specs.Irredundant.{IsSublist}
use Rattle.spec_projection.specs.Partial.{IsPartial, IsPartialProjection, RowsDue}
use Rattle.spec_projection.specs.Projection.{Keeps, inequalities_of, disequations_of}
use Rattle.spec_simplex.specs.Asked.{IsAsked, IsInForce}
use Rattle.spec_simplex.specs.Overflow.{Moment, answering}

-- ---- the steps up to the elimination

-- the entailed equations solve for the other variables first, the youngest before the older ones, and then for the
-- targets
pub record Solves (targets : List ℕ) (l : List Constraint) (es : List Solved) : Type 0 where
  pub front : List ℕ
  pub others : AreOthers targets l front
  pub echelon : IsEchelon (front ++ targets) l es

-- they are put into the inequalities, and weak ones with the form of a disequation are made strict
abbrev pub Strengthens : List Constraint → List Solved → List Constraint → Type 0
Strengthens l es strict = Strengthened (map (put_into es) (disequations_of l)) (map (put_into es) (inequalities_of l)) strict

-- the variables that are kept beside the targets, and the inequalities from which the rest is eliminated
pub record Leaves (targets : List ℕ) (l : List Constraint) (kept : List ℕ) (es : List Solved) (strict : List Constraint) : Type 0 where
  pub front : List ℕ
  pub others : AreOthers targets l front
  pub solved_targets : List Solved
  pub keeps : Keeps front targets kept l solved_targets
  pub equations : es ≡ keeps.others ++ solved_targets
  pub strict_is : strict ≡ keeps.strict

-- ---- moments

-- the list from which an answer goes out: a beginning of the branch's list, or, in some order, some of the inequalities
-- with some disequations beside them, before and while variables are eliminated, and once no other variable is left and
-- weak ones with the form of a disequation are made strict again
pub data IsAnswerList (targets : List ℕ) (l : List Constraint) : List Constraint → Type 0 where
  beginning : (earlier later : List Constraint) → l ≡ earlier ++ later → IsAnswerList targets l earlier
  substituted : {es : List Solved} {strict some beside list : List Constraint} → Solves targets l es
      → Strengthens l es strict
      → IsSublist some strict → IsSublist beside (map (put_into es) (disequations_of l))
      → IsPermutation (some ++ beside) list → IsAnswerList targets l list
  projected : {kept : List ℕ} {es : List Solved} {strict rows some beside list : List Constraint}
      → Leaves targets l kept es strict
      → IsPartialProjection (targets ++ kept) strict rows → IsSublist some rows
      → IsSublist beside (map (put_into es) (disequations_of l))
      → IsPermutation (some ++ beside) list → IsAnswerList targets l list
  strict_again : {kept : List ℕ} {es : List Solved} {strict rows again some beside list : List Constraint}
      → (leaves : Leaves targets l kept es strict)
      → IsPartial (targets ++ kept) strict rows → MentionsOnly (targets ++ kept) rows
      → Strengthened leaves.keeps.left rows again → IsSublist some again → IsSublist beside leaves.keeps.left
      → IsPermutation (some ++ beside) list → IsAnswerList targets l list

-- a constraint of such a list
pub record IsAnswerMember (targets : List ℕ) (l : List Constraint) (c : Constraint) : Type 0 where
  pub list : List Constraint
  pub is_list : IsAnswerList targets l list
  pub member : Has c list

-- the form of a row of the answer: after the equations are put in, or of a partial projection without redundant rows
pub data IsAnswerRow (targets : List ℕ) (l : List Constraint) : Linear → Type 0 where
  substituted : {es : List Solved} (c : Constraint) → Solves targets l es
      → Has c (map (put_into es) (inequalities_of l ++ disequations_of l))
      → IsAnswerRow targets l c.form
  projected : {kept : List ℕ} {es : List Solved} {strict rows : List Constraint} (c : Constraint)
      → Leaves targets l kept es strict
      → IsPartial (targets ++ kept) strict rows → Has c rows → IsAnswerRow targets l c.form

-- it is asked how the form of such a constraint stands to zero
pub record AsksMember (targets : List ℕ) (l : List Constraint) (c : Constraint) : Type 0 where
  pub of : Constraint
  pub member : IsAnswerMember targets l of
  pub form : c.form ≡ of.form

-- a moment while the rows are made
pub record IsAnswerMoment (targets : List ℕ) (l : List Constraint) (m : Moment) : Type 0 where
  pub stage : m.stage ≡ answering
  pub list : List Constraint
  pub is_list : IsAnswerList targets l list
  pub in_force : IsInForce list (IsAnswerMember targets l) (AsksMember targets l) m.list
  pub asked : AllByRecursion (IsAsked m.list (IsAnswerMember targets l) (AsksMember targets l)) m.asked
  pub rows : AllByRecursion (IsAnswerRow targets l) m.rows
  -- no term is told or asked
  pub operations : m.operations ≡ []

-- ---- too many rows

-- eliminating the next variable from these rows, with p lower, n upper and so many other ones, leaves more rows
-- than the limit
pub record IsProjectionDue (targets : List ℕ) (l : List Constraint) (limit p n rest : ℕ) (rows : List Constraint) : Type 0 where
  pub kept : List ℕ
  pub es : List Solved
  pub strict : List Constraint
  pub leaves : Leaves targets l kept es strict
  pub due : RowsDue (targets ++ kept) strict limit p n rest
  pub rows_are : due.rows ≡ rows
