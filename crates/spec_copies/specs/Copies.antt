-- The copy of a term in a branch, with what constrains it.
use Rattle.std.specs.Prelude.{◌≡◌, ◌↔◌, ℕ, List, ◌++◌, filter}
use Rattle.spec_linear.specs.Solution.{Constraint, Has, Same}
use Rattle.spec_linear.specs.Echelon.{Solved}
use Rattle.spec_projection.specs.Others.{AreOthers, AreAscending}
use Rattle.spec_projection.specs.Projection.{Keeps}
use Rattle.spec_terms.specs.Term.{Occurs}
use Rattle.spec_terms.specs.Variables.{variables}
use Rattle.spec_syntax.specs.Trees.{Tree}
use Rattle.spec_branch.specs.Branch.{State, Copied, read}
use Rattle.spec_copies.specs.Reach.{Reaches, links, touches, delayed_terms, asleep_terms, asleep_link}
use Rattle.spec_copies.specs.Parts.{IsPart}

-- the variables that the copy takes with it beside those of the term, the older first
pub record IsRest (st : State) (t : Tree) (rest : List ℕ) : Type 0 where
  pub older_first : AreAscending rest
  pub reached : (v : ℕ) → Has v rest ↔ (Reaches (read st t) (links st) v × (Occurs v (read st t) → ⊥))

-- all of them: those of the term by first occurrence, then the rest by age
abbrev pub reach : State → Tree → List ℕ → List ℕ
reach st t rest = variables (read st t) ++ rest

-- Beside these variables some are kept, the older first: those that stand in a disequation of the connected part that
-- nothing entails, once entailed equations are put in, as for the rows of an answer.
pub record IsKept (targets : List ℕ) (l : List Constraint) (kept : List ℕ) : Type 0 where
  pub part : List Constraint
  pub is_part : IsPart targets l part
  pub front : List ℕ
  pub others : AreOthers targets part front
  pub older_first : AreAscending kept
  pub equations : List Solved
  pub keeps : Keeps front targets kept part equations

-- The copy of a term. Its rows say of its variables what the linear constraints say; which rows say so is left open. With
-- it go the delayed constraints that have a variable that it takes with it, and what sleeps on such a variable, in order.
-- The copy of a numeric variable is numeric.
pub record IsCopy (st : State) (t : Tree) (c : Copied) : Type 0 where
  pub rest : List ℕ
  pub is_rest : IsRest st t rest
  pub kept : List ℕ
  pub is_kept : IsKept (reach st t rest) st.linear kept
  pub variables_are : c.variables ≡ reach st t rest ++ kept
  pub term_is : c.term ≡ read st t
  pub numeric_are : c.numeric ≡ filter st.numeric (reach st t rest ++ kept)
  pub rows_say : Same (reach st t rest ++ kept) c.rows st.linear
  pub told_are : c.told ≡ filter (touches (reach st t rest)) (delayed_terms st)
  pub asleep_are : c.asleep ≡ filter (λ a. touches (reach st t rest) (asleep_link a).from) (asleep_terms st)
