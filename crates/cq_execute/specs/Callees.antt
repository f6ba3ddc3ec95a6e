-- What a goal calls.
use Rattle.std.specs.Prelude.{◌≡◌, ℕ, true, None}
use Rattle.spec_builtins.specs.Built.{indicator_of}
use Rattle.spec_builtins.specs.Kinds.{is_callable}
use Rattle.spec_search.specs.Builtins.{builtin_of}
use Rattle.spec_search.specs.Replies.{Place, Raises}
use Rattle.spec_search.specs.Rows.{reply_of}
use Rattle.cq_built.specs.Errors.{error_tree}
use Rattle.cq_built.specs.declared.errors.BuiltinError.{BuiltinError}
use Rattle.cq_goals.specs.Clauses.{IsOf}
use Rattle.cq_term.specs.Trees.{tree}
use Rattle.cq_term.specs.declared.names.Pred.{Pred}
use Rattle.cq_machine.specs.declared.machine.Machine.{Machine}
use Rattle.cq_machine.specs.Machines.{terms}
use Rattle.cq_execute.specs.declared.execution.Callee.{Callee}
use Rattle.cq_execute.specs.declared.execution.Callee.TheVariants as callee
use Rattle.cq_execute.specs.Rows.{IsCallOf}

-- the goal of the number is an atom or a compound, and calls this predicate, which is not built in
pub record CallsProcedure (m : Machine) (id : ℕ) (pred : Pred) : Type 0 where
  pub callable : is_callable (tree m.atoms (terms m) id) ≡ true
  pub predicate : IsOf m.atoms pred (tree m.atoms (terms m) id)
  pub is_user : builtin_of (indicator_of (tree m.atoms (terms m) id)) ≡ None

-- it calls this; or it is an error wherever it is selected
abbrev pub IsCallee : Machine → ℕ → Callee → Type 0
IsCallee m id (callee.Builtin b) = IsCallOf m id b
IsCallee m id (callee.Procedure pred) = CallsProcedure m id pred
IsCallee m id callee.Nothing = (e : BuiltinError) × ((p : Place) → reply_of p (tree m.atoms (terms m) id) ≡ Raises (error_tree m.atoms (terms m) e))
