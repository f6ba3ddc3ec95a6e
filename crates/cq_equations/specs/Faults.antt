-- The faults of a dictionary, as those of a store.
use Rattle.std.specs.Prelude.{◌≡◌}
use Rattle.cq_frac.specs.declared.Refusal.{Refusal}
use Rattle.cq_frac.specs.declared.Refusal.TheVariants as of_refusal
use Rattle.cq_equations.specs.declared.store.StoreFault.{StoreFault}
use Rattle.cq_equations.specs.declared.store.StoreFault.TheVariants.{Overflow, NoMemory}

abbrev pub IsStoreFault : Refusal → StoreFault → Type 0
IsStoreFault (of_refusal.Overflow pair) fault = fault ≡ Overflow pair
IsStoreFault of_refusal.NoMemory fault = fault ≡ NoMemory
