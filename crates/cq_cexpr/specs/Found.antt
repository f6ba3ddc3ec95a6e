-- What the code answers of an expression or of a told term, as the definitions say it.
use Rattle.std.specs.Prelude.{Bool, true, false, List, ⊤, Option, None, Some}
use Rattle.spec_linear.specs.Form.{Linear}
use Rattle.spec_linear.specs.Solution.{Constraint}
use Rattle.spec_branch.specs.Relations.{Lin, Is, Waits, False}
use Rattle.cq_frac.specs.declared.VarId.{VarId}
use Rattle.cq_cexpr.specs.declared.evaluation.LinExpression.{LinExpression}
use Rattle.cq_cexpr.specs.declared.evaluation.LinExpression.TheVariants as expression
use Rattle.cq_cexpr.specs.declared.relations.Lin.{Lin as Found}
use Rattle.cq_cexpr.specs.declared.relations.Lin.TheVariants as found

abbrev pub expression_of : LinExpression → Lin Linear
expression_of (expression.Linear f) = Is f
expression_of expression.Waits = Waits
expression_of expression.False = False

abbrev pub constraint_of : Found → Lin Constraint
constraint_of (found.Linear c) = Is c
constraint_of (found.Waits vs) = Waits
constraint_of found.False = False

-- a fact of the variables that a term waits for
abbrev pub IfWaits : Found → (List VarId → Type 0) → Type 0
IfWaits (found.Linear c) P = ⊤
IfWaits (found.Waits vs) P = P vs.items
IfWaits found.False P = ⊤

-- a divisor of the expression is zero
abbrev pub is_false : Lin Linear → Bool
is_false (Is f) = false
is_false Waits = false
is_false False = true

-- the constraint, where there is one
abbrev pub is_or_waits : Option Constraint → Lin Constraint
is_or_waits None = Waits
is_or_waits (Some c) = Is c
