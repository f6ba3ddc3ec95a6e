-- What holds once the row of a built-in predicate was done on a machine.
use Rattle.std.specs.Prelude.{◌≡◌, ◌<◌, ℕ, List, [], length, Some, Ok, Err, IfOk, IfErr, OnErr}
use Rattle.std.specs.declared.result.Result.{Result}
use Rattle.spec_numbers.specs.Texts.{Text}
use Rattle.spec_syntax.specs.Trees.{Tree}
use Rattle.spec_builtins.specs.Built.{indicator_of}
use Rattle.spec_branch.specs.Branch.{Branch}
use Rattle.spec_search.specs.Builtins.{builtin_of}
use Rattle.spec_search.specs.Replies.{Place}
use Rattle.cq_calls.specs.declared.calling.Called.{Called}
use Rattle.cq_store.specs.declared.store.StoreFault.{StoreFault}
use Rattle.cq_store.specs.declared.store.StoreFault.TheVariants.{NoMemory}
use Rattle.cq_predicates.specs.TableNames.{as_builtin}
use Rattle.cq_predicates.specs.declared.table.builtins.Builtin.{Builtin}
use Rattle.cq_term.specs.Trees.{tree}
use Rattle.cq_term.specs.declared.names.Pred.{Pred}
use Rattle.cq_machine.specs.declared.machine.Machine.{Machine}
use Rattle.cq_machine.specs.declared.step.Step.{Step}
use Rattle.cq_machine.specs.Machines.{terms, IsSound, StillStands}
use Rattle.cq_machine.specs.Stepping.{IsSelectedAt, CanGo, OnRaises}
use Rattle.cq_machine.specs.Calls.{step_of}
use Rattle.cq_machine.specs.Stops.{IsSelectedFrom}
use Rattle.cq_execute.specs.declared.executed.Executed.{Executed}
use Rattle.cq_execute.specs.Executions.{Reaches, KeepsWalks, HasSameDatabase}
use Rattle.cq_execute.specs.Stops.{StopsThere}

-- the goal of the number is selected on a sound machine
pub record IsAtGoal (m : Machine) (id height rest : ℕ) : Type 0 where
  pub sound : IsSound m
  pub selected : IsSelectedFrom m id height rest
  pub live : id < length (terms m)
  pub there : rest < length m.world.second.now

-- it calls this built-in predicate
abbrev pub IsCallOf : Machine → ℕ → Builtin → Type 0
IsCallOf m id b = builtin_of (indicator_of (tree m.atoms (terms m) id)) ≡ Some (as_builtin b)

-- Its row was done, with this result, of which one function tells what the goal comes to, and another the output.
pub record IsDoneBy {A : Type 0} (step : A → Step) (text : A → Text) (old new : Machine) (id height rest : ℕ) (r : Result A StoreFault) : Type 0 where
  pub row : IfOk r (λ a. (p : Place) (behind : List Branch) (goal : Tree) → IsSelectedAt old id height rest p behind goal → Reaches new (step a) (text a) p behind goal)
  pub stop : IfErr r (StopsThere old id height rest)
  pub goes : IfOk r (λ a. CanGo new (step a))
  pub raises : IfOk r (λ a. OnRaises (step a) (StillStands old new))
  pub sound : IsSound new
  pub program : KeepsWalks old new
  pub err : OnErr r (StillStands old new)
  pub err_database : OnErr r (HasSameDatabase old new)

-- one without output
abbrev pub IsRowDone : Machine → Machine → ℕ → ℕ → ℕ → Result Step StoreFault → Type 0
IsRowDone old new id height rest r = IsDoneBy (λ s. s) (λ s. []) old new id height rest r

abbrev pub IsDone : Machine → Machine → ℕ → ℕ → ℕ → Result Executed StoreFault → Type 0
IsDone old new id height rest r = IsDoneBy (λ x. x.step) (λ x. x.output.items) old new id height rest r

-- of a goal that calls the user predicate
abbrev pub IsCallDone : Machine → Machine → ℕ → ℕ → ℕ → Pred → Result Called StoreFault → Type 0
IsCallDone old new id height rest pred r = IsDoneBy (step_of pred) (λ c. []) old new id height rest r

-- want of memory as the fault of a query
abbrev pub as_stop : {A E : Type 0} → Result A E → Result A StoreFault
as_stop (Ok s) = Ok s
as_stop (Err e) = Err NoMemory

-- what the call of a predicate came to as a step, or its fault
abbrev pub as_step : {E : Type 0} → Pred → Result Called E → Result Step E
as_step pred (Ok c) = Ok (step_of pred c)
as_step pred (Err e) = Err e

-- a step without output, or its fault
abbrev pub IsQuiet : Result Step StoreFault → Result Executed StoreFault → Type 0
IsQuiet (Ok s) (Ok x) = (x.step ≡ s) × (x.output.items ≡ [])
IsQuiet (Ok s) (Err f) = ⊥
IsQuiet (Err e) (Ok x) = ⊥
IsQuiet (Err e) (Err f) = f ≡ e
