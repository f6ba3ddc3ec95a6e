-- What a call of a user predicate comes to.
use Rattle.std.specs.Prelude.{◌≡◌, ℕ, List, Some, None, ⊤}
use Rattle.spec_terms.specs.Term.{Var, Number, Name, Compound}
use Rattle.spec_syntax.specs.Trees.{Tree}
use Rattle.spec_builtins.specs.Built.{indicator_of}
use Rattle.spec_branch.specs.Branch.{Branch}
use Rattle.spec_search.specs.Control.{user_row}
use Rattle.spec_search.specs.Replies.{Place, Raises}
use Rattle.cq_built.specs.Errors.{error_tree}
use Rattle.cq_built.specs.declared.errors.BuiltinError.TheVariants.{UnknownProcedure}
use Rattle.cq_calls.specs.Calling.{CallBecomes}
use Rattle.cq_calls.specs.declared.calling.Called.{Called}
use Rattle.cq_calls.specs.declared.calling.Called.TheVariants as called
use Rattle.cq_term.specs.Meaning.{HeapTerm}
use Rattle.cq_term.specs.declared.names.Pred.{Pred}
use Rattle.cq_machine.specs.declared.machine.Machine.{Machine}
use Rattle.cq_machine.specs.declared.step.Step.{Step}
use Rattle.cq_machine.specs.declared.step.Step.TheVariants as step
use Rattle.cq_machine.specs.Machines.{terms, now, holds}
use Rattle.cq_machine.specs.Stepping.{IsSelectedAt}

-- the machine tries the clauses of the goal's procedure, or there is no such procedure
abbrev pub IsCall : Machine → Step → Place → List Branch → Tree → Type 0
IsCall m (step.Goes k) p behind goal = CallBecomes m.atoms (holds m) (now m) (Some k) p behind goal
IsCall m step.Back p behind goal = CallBecomes m.atoms (holds m) (now m) None p behind goal
IsCall m (step.Raises e) p behind goal = user_row p (indicator_of goal) ≡ Raises (error_tree m.atoms (terms m) e)
IsCall m (step.Throws id) p behind goal = ⊥
IsCall m (step.Refuses pair) p behind goal = ⊥

-- so it is wherever the goal is selected with this continuation behind it
abbrev pub Calls : Machine → Machine → ℕ → ℕ → Step → Type 0
Calls old new id rest s = (height : ℕ) (p : Place) (behind : List Branch) (goal : Tree) → IsSelectedAt old id height rest p behind goal
    → IsCall new s p behind goal

-- what a call of the predicate came to, as the step of its goal
abbrev pub step_of : Pred → Called → Step
step_of pred (called.Goes k) = step.Goes k
step_of pred called.Back = step.Back
step_of pred called.Unknown = step.Raises (UnknownProcedure pred)

-- ---- terms that are called

-- the term is an atom or a compound of this name
abbrev pub HasName : HeapTerm → ℕ → Type 0
HasName (Var v) a = ⊥
HasName (Number q) a = ⊥
HasName (Name b) a = a ≡ b
HasName (Compound b ts) a = a ≡ b

-- it is neither
abbrev pub HasNoName : HeapTerm → Type 0
HasNoName (Var v) = ⊤
HasNoName (Number q) = ⊤
HasNoName (Name b) = ⊥
HasNoName (Compound b ts) = ⊥
