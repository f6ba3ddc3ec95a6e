-- Stops while an answer over some targets is made of a list.
use Rattle.std.specs.Prelude.{ℕ, List}
use Rattle.spec_linear.specs.Solution.{Constraint}
use Rattle.spec_simplex.specs.Overflow.{Moment, OverflowDue}
use Rattle.spec_simplex.specs.Chains.{IsBlandChain}
use Rattle.spec_simplex.specs.Answers.{IsAnswerMoment}
use Rattle.cq_frac.specs.declared.Pair.{Pair}

-- a step of the answer on the pair is due, and is refused
pub record IsRefusedAnswering (targets : List ℕ) (l : List Constraint) (pair : Pair) : Type 0 where
  pub moment : Moment
  pub of_answer : IsAnswerMoment targets l moment
  pub due : OverflowDue moment pair

-- so many exchanges are made for a form that the answer asks, and another is due
pub record IsSpentAnswering (targets : List ℕ) (l : List Constraint) (n : ℕ) : Type 0 where
  pub moment : Moment
  pub of_answer : IsAnswerMoment targets l moment
  pub chain : IsBlandChain moment n
