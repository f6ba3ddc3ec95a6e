-- Whether a list entails the members of a constraint.
use Rattle.std.specs.Prelude.{◌≡◌, ℕ, ◌<◌, List, map, length, find, Contains, Option, Some, None}
use Rattle.spec_numbers.specs.Rational.{ℚ}
use Rattle.spec_linear.specs.Solution.{Constraint, Has}
use Rattle.spec_numbers.specs.Texts.{Text}
use Rattle.spec_syntax.specs.Trees.{Tree}
use Rattle.spec_branch.specs.Relations.{Lin, Is, False, lin}
use Rattle.spec_search.specs.Steps.{is_not_linear, IsBroken, AllEntailed}
use Rattle.cq_term.specs.Meaning.{HeapTerm}
use Rattle.cq_term.specs.Trees.{tree, trees}
use Rattle.cq_questions.specs.declared.members.Member.{Member}
use Rattle.cq_questions.specs.declared.members.Member.TheVariants as member
use Rattle.cq_questions.specs.declared.members.Found.{Found}
use Rattle.cq_questions.specs.declared.members.Found.TheVariants as found
use Rattle.cq_questions.specs.declared.entailment.Entailment.{Entailment}
use Rattle.cq_questions.specs.declared.entailment.Entailment.TheVariants as entailment

-- what a member is that doesn't wait
abbrev pub lin_of : Member → Lin Constraint
lin_of (member.Linear c) = Is c
lin_of member.False = False

-- one of them is a linear constraint of which this holds
pub record AsksOne (ms : List Member) (P : Constraint → Type 0) : Type 0 where
  pub constraint : Constraint
  pub among : Contains ms (member.Linear constraint)
  pub holds : P constraint

-- the first member that waits
abbrev pub IsFirstWaiting : (ℕ → Option ℚ) → List Tree → Tree → Type 0
IsFirstWaiting fixed ms m = find (is_not_linear fixed) ms ≡ Some m

-- what was found holds of the terms
abbrev pub IsFound : List Text → List HeapTerm → (ℕ → Option ℚ) → List ℕ → Found → Type 0
IsFound texts ts fixed ids (found.All ms) = map (lin fixed) (trees texts ts ids) ≡ map lin_of ms.items
IsFound texts ts fixed ids (found.Waits id) = (id < length ts) × IsFirstWaiting fixed (trees texts ts ids) (tree texts ts id)

-- no member waits, and all are entailed
pub record AreEntailed (l : List Constraint) (fixed : ℕ → Option ℚ) (ms : List Tree) : Type 0 where
  pub linear : find (is_not_linear fixed) ms ≡ None
  pub each : AllEntailed l fixed ms

-- no member waits, and some solution breaks one of them, or it is false
pub record IsOneBroken (l : List Constraint) (fixed : ℕ → Option ℚ) (ms : List Tree) : Type 0 where
  pub linear : find (is_not_linear fixed) ms ≡ None
  pub member : Tree
  pub among : Has member ms
  pub broken : IsBroken l (lin fixed member)

-- what is answered holds of the members
abbrev pub IsAnswer : List Text → List HeapTerm → List Constraint → (ℕ → Option ℚ) → List Tree → Entailment → Type 0
IsAnswer texts ts l fixed ms entailment.Entailed = AreEntailed l fixed ms
IsAnswer texts ts l fixed ms entailment.Broken = IsOneBroken l fixed ms
IsAnswer texts ts l fixed ms (entailment.Waits id) = (id < length ts) × IsFirstWaiting fixed ms (tree texts ts id)
