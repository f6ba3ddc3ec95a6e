-- Refusals and faults of a store, as those of a projection.
use Rattle.std.specs.Prelude.{◌≡◌, ℕ, List, ⊤}
use Rattle.spec_linear.specs.Solution.{Constraint}
use Rattle.cq_frac.specs.declared.Refusal.{Refusal}
use Rattle.cq_frac.specs.declared.Refusal.TheVariants as of_refusal
use Rattle.cq_store.specs.declared.store.StoreFault.{StoreFault}
use Rattle.cq_store.specs.declared.store.StoreFault.TheVariants as of_store
use Rattle.cq_project.specs.declared.eliminate.ProjectFault.{ProjectFault}
use Rattle.cq_project.specs.declared.eliminate.ProjectFault.TheVariants.{Overflow, Pivots, Rows, NoMemory}

-- the same fault as the refusal
abbrev pub IsFaultOf : Refusal → ProjectFault → Type 0
IsFaultOf (of_refusal.Overflow pair) fault = fault ≡ Overflow pair
IsFaultOf of_refusal.NoMemory fault = fault ≡ NoMemory

-- the same fault as that of the store
abbrev pub fault_of : StoreFault → ProjectFault
fault_of (of_store.Overflow pair) = Overflow pair
fault_of (of_store.Pivots n) = Pivots n
fault_of of_store.NoMemory = NoMemory

-- a fact of the numbers of rows and the rows, where there would be too many
abbrev pub IfRows : ProjectFault → (ℕ → ℕ → ℕ → List Constraint → Type 0) → Type 0
IfRows (Overflow pair) P = ⊤
IfRows (Pivots n) P = ⊤
IfRows (Rows p n rest rows) P = P p n rest rows.items
IfRows NoMemory P = ⊤
