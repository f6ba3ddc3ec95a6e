-- The faults of a projection of equations, as those of a store of constraints.
use Rattle.std.specs.Prelude.{◌≡◌}
use Rattle.cq_store.specs.declared.store.StoreFault.{StoreFault}
use Rattle.cq_store.specs.declared.store.StoreFault.TheVariants.{Overflow, Pivots, NoMemory}
use Rattle.cq_equations.specs.declared.project.ProjectFault.{ProjectFault}
use Rattle.cq_equations.specs.declared.project.ProjectFault.TheVariants as of_projection

-- the same fault
abbrev pub IsFaultOf : ProjectFault → StoreFault → Type 0
IsFaultOf (of_projection.Overflow pair) fault = fault ≡ Overflow pair
IsFaultOf (of_projection.Pivots n) fault = fault ≡ Pivots n
IsFaultOf of_projection.NoMemory fault = fault ≡ NoMemory
