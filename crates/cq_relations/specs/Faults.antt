-- Why a goal goes on in no branch, as its row says.
use Rattle.std.specs.Prelude.{◌≡◌, ℕ, List, [], ◌∷◌, ⊤}
use Rattle.spec_numbers.specs.Texts.{Text}
use Rattle.spec_branch.specs.Branch.{State, Pending}
use Rattle.spec_search.specs.Replies.{Place, Reply, Raises, Overflows, child, makes}
use Rattle.cq_built.specs.Errors.{error_tree}
use Rattle.cq_goals.specs.Faults.{HasItsCulprit}
use Rattle.cq_goals.specs.declared.faults.GoalFault.{GoalFault}
use Rattle.cq_goals.specs.declared.faults.GoalFault.TheVariants as goal
use Rattle.cq_store.specs.declared.store.StoreFault.{StoreFault}
use Rattle.cq_store.specs.declared.store.StoreFault.TheVariants as store
use Rattle.cq_term.specs.Meaning.{HeapTerm}
use Rattle.cq_settle.specs.Settled.{MayRefuse, MayTake}
use Rattle.cq_relations.specs.declared.faults.RelationFault.{RelationFault}
use Rattle.cq_relations.specs.declared.faults.RelationFault.TheVariants as fault

-- the reply is the error, or the operation that refuses its numbers; want of memory says nothing of it
abbrev pub IsRefused : List Text → List HeapTerm → GoalFault → Reply → Type 0
IsRefused texts ts (goal.Error e) reply = reply ≡ Raises (error_tree texts ts e)
IsRefused texts ts (goal.Overflow pair) reply = reply ≡ Overflows pair
IsRefused texts ts goal.NoMemory reply = ⊤

-- the reply makes one child, which goes on behind the goal, and this holds of its state and its work
pub record MakesOne (p : Place) (reply : Reply) (P : State → Pending → Type 0) : Type 0 where
  pub work : Pending
  pub row : reply ≡ makes p (child p.rest p.state work ∷ [])
  pub holds : P p.state work

-- the reply makes one child, and while that is settled a stop is due, by a budget of so many exchanges
abbrev pub IsStopped : ℕ → StoreFault → Place → Reply → Type 0
IsStopped pivots (store.Overflow pair) p reply = MakesOne p reply (λ st work. MayRefuse st work pair)
IsStopped pivots (store.Pivots n) p reply = (n ≡ pivots) × MakesOne p reply (λ st work. MayTake st work n)
IsStopped pivots store.NoMemory p reply = ⊤

-- the reply at the place is why there is this fault
abbrev pub Explains : List Text → List HeapTerm → ℕ → RelationFault → Place → Reply → Type 0
Explains texts ts pivots (fault.Goal f) p reply = IsRefused texts ts f reply
Explains texts ts pivots (fault.Settling f) p reply = IsStopped pivots f p reply

-- the error that stands in a fault has its culprit
abbrev pub HasCulpritOf : List Text → List HeapTerm → RelationFault → Type 0
HasCulpritOf texts ts (fault.Goal f) = HasItsCulprit texts ts f
HasCulpritOf texts ts (fault.Settling f) = ⊤
