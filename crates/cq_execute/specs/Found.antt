-- What was found of an expression that a goal asks about, and what the goal's one child comes to.
use Rattle.std.specs.Prelude.{◌≡◌, ℕ, List, [], ◌∷◌, Some, None, ⊤}
use Rattle.spec_numbers.specs.Rational.{ℚ}
use Rattle.spec_numbers.specs.Texts.{Text}
use Rattle.spec_syntax.specs.Trees.{Tree}
use Rattle.spec_branch.specs.Checks.{expression_error}
use Rattle.spec_branch.specs.Branch.{Branch, Pending}
use Rattle.spec_search.specs.Builtins.{Side}
use Rattle.spec_search.specs.Replies.{Place, WithExtent, child, makes, unless_error}
use Rattle.spec_search.specs.Rows.{reply_of}
use Rattle.spec_search.specs.Steps.{Steps, children, ball_of}
use Rattle.cq_built.specs.Errors.{error_tree, HasCulprit}
use Rattle.cq_built.specs.declared.errors.BuiltinError.TheVariants as error
use Rattle.cq_built.specs.declared.errors.Culprit.TheVariants as culprit
use Rattle.cq_built.specs.declared.errors.ValidType.TheVariants as type
use Rattle.cq_store.specs.declared.store.Extent.{Extent}
use Rattle.cq_store.specs.declared.store.Extent.TheVariants as extent
use Rattle.cq_store.specs.declared.store.StoreFault.{StoreFault}
use Rattle.cq_store.specs.declared.store.StoreFault.TheVariants as fault
use Rattle.cq_questions.specs.declared.extents.Reach.{Reach}
use Rattle.cq_questions.specs.declared.extents.Reach.TheVariants as reach
use Rattle.cq_settle.specs.Settled.{MayRefuse, MayTake}
use Rattle.cq_branch.specs.Worlds.{IsBranch, ReadsAs, Leads}
use Rattle.cq_term.specs.Meaning.{HeapTerm}
use Rattle.cq_machine.specs.declared.machine.Machine.{Machine}
use Rattle.cq_machine.specs.declared.step.Step.{Step}
use Rattle.cq_machine.specs.declared.step.Step.TheVariants.{Goes, Back, Raises, Throws, Refuses}
use Rattle.cq_machine.specs.Machines.{now, holds}
use Rattle.cq_execute.specs.declared.optima.values.Valued.{Valued}
use Rattle.cq_execute.specs.declared.optima.values.Valued.TheVariants as valued

-- ---- values

-- what holds of each goal that asks for the extent of the term of this number, which the machine's world reads so
abbrev pub AtExtents : Machine → Side → ℕ → (Place → Tree → (ℚ → Branch) → Type 0) → Type 0
AtExtents m side id P = (p : Place) (goal e : Tree) (next : ℚ → Branch) → IsBranch m.atoms (now m).0 p.state → ReadsAs m.atoms (now m).0 p.state id e
    → reply_of p goal ≡ unless_error (expression_error e) (WithExtent side e next) → P p goal next

-- what the step of the goal is, whose child is this by the value, where so much was found of its expression
abbrev pub IsFoundAt : List Text → List HeapTerm → Valued → Place → Tree → (ℚ → Branch) → Type 0
IsFoundAt texts ts (valued.Value q) p goal next = Steps p goal (children p (next q ∷ []))
IsFoundAt texts ts valued.Nothing p goal next = Steps p goal (children p [])
IsFoundAt texts ts (valued.Raises e) p goal next = Steps p goal (ball_of goal (error_tree texts ts e))

-- the culprit of an error that was found is there
abbrev pub HasCulpritOf : List Text → List HeapTerm → Valued → Type 0
HasCulpritOf texts ts (valued.Raises e) = HasCulprit texts ts e
HasCulpritOf texts ts v = ⊤

-- the value of an extent
abbrev pub value_in : Extent → Valued
value_in (extent.Value q) = valued.Value q
value_in extent.Unbounded = valued.Nothing

-- how far the expression of a number reaches, as what is found of it
abbrev pub valued_by : ℕ → Reach → Valued
valued_by id (reach.Linear e) = value_in e
valued_by id reach.Waits = valued.Raises (error.Type type.Linear (culprit.Term id))
valued_by id reach.False = valued.Nothing

-- ---- one child

-- the machine has come to what the goal's one child with this work comes to
abbrev pub IsChildStep : Machine → Place → List Branch → Pending → Step → Type 0
IsChildStep m p behind work (Goes k) = Leads m.atoms (holds m) (now m) (Some k) p behind (makes p (child p.rest p.state work ∷ []))
IsChildStep m p behind work Back = Leads m.atoms (holds m) (now m) None p behind (makes p (child p.rest p.state work ∷ []))
IsChildStep m p behind work (Raises e) = ⊥
IsChildStep m p behind work (Throws id) = ⊥
IsChildStep m p behind work (Refuses pair) = ⊥

-- why the query stops while it is settled
abbrev pub StopsChild : ℕ → Place → Pending → StoreFault → Type 0
StopsChild pivots p work (fault.Overflow pair) = MayRefuse p.state work pair
StopsChild pivots p work (fault.Pivots n) = (n ≡ pivots) × MayTake p.state work n
StopsChild pivots p work fault.NoMemory = ⊤

-- the goal raises nothing
abbrev pub RaisesNothing : Step → Type 0
RaisesNothing (Goes k) = ⊤
RaisesNothing Back = ⊤
RaisesNothing (Raises e) = ⊥
RaisesNothing (Throws id) = ⊥
RaisesNothing (Refuses pair) = ⊥
