-- The faults of a store, as those of a projection.
use Rattle.cq_equations.specs.declared.store.StoreFault.{StoreFault}
use Rattle.cq_equations.specs.declared.store.StoreFault.TheVariants as of_store
use Rattle.cq_equations.specs.declared.project.ProjectFault.{ProjectFault}
use Rattle.cq_equations.specs.declared.project.ProjectFault.TheVariants.{Overflow, Pivots, NoMemory}

abbrev pub fault_of : StoreFault → ProjectFault
fault_of (of_store.Overflow pair) = Overflow pair
fault_of (of_store.Pivots n) = Pivots n
fault_of of_store.NoMemory = NoMemory
