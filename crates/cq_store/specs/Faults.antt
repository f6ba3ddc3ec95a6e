-- Refusals and faults of the search, as faults of the store.
use Rattle.std.specs.Prelude.{◌≡◌}
use Rattle.cq_frac.specs.declared.Refusal.{Refusal}
use Rattle.cq_frac.specs.declared.Refusal.TheVariants as of_refusal
use Rattle.cq_simplex.specs.declared.SimplexFault.{SimplexFault}
use Rattle.cq_simplex.specs.declared.SimplexFault.TheVariants as of_search
use Rattle.cq_store.specs.declared.store.StoreFault.{StoreFault}
use Rattle.cq_store.specs.declared.store.StoreFault.TheVariants.{Overflow, Pivots, NoMemory}

-- the same fault as the refusal
abbrev pub IsFaultOf : Refusal → StoreFault → Type 0
IsFaultOf (of_refusal.Overflow pair) fault = fault ≡ Overflow pair
IsFaultOf of_refusal.NoMemory fault = fault ≡ NoMemory

-- the same fault as that of the search
abbrev pub IsFaultOfSearch : SimplexFault → StoreFault → Type 0
IsFaultOfSearch (of_search.Overflow pair) fault = fault ≡ Overflow pair
IsFaultOfSearch (of_search.Pivots n) fault = fault ≡ Pivots n
IsFaultOfSearch of_search.NoMemory fault = fault ≡ NoMemory
