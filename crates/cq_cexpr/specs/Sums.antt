-- A form to which others are to be joined in turn: what they come to, and the operations.
use Rattle.std.specs.Prelude.{List, [], ◌∷◌, Option, Some, None}
use Rattle.spec_linear.specs.Form.{Linear}
use Rattle.spec_simplex.specs.Overflow.{Operands, on}
use Rattle.cq_frac.specs.declared.row.Joining.{Joining}
use Rattle.cq_frac.specs.Rows.{operation_of}
use Rattle.cq_form.specs.Steps.{joined_form}
use Rattle.cq_cexpr.specs.declared.sums.Sum.{Sum}

abbrev pub all_joined : Linear → List (Joining × Linear) → Linear
all_joined f [] = f
all_joined f (t ∷ s) = all_joined (joined_form t.0 f t.1) s

abbrev pub joining_operands : Linear → List (Joining × Linear) → List Operands
joining_operands f [] = []
joining_operands f (t ∷ s) = on (operation_of t.0) f t.1 ∷ joining_operands (joined_form t.0 f t.1) s

-- the form, where there is one
abbrev pub whole_of : Option Sum → Option Linear
whole_of None = None
whole_of (Some s) = Some (all_joined s.first s.more.items)

-- the operations that are still to be done
abbrev pub due_in : Option Sum → List Operands
due_in None = []
due_in (Some s) = joining_operands s.first s.more.items
