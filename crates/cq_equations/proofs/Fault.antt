-- A fault of a projection tells the store's.
use Rattle.std.proofs.Common.{◌≡◌, ℕ, Result, Err, sym, ◌∙◌, ap}
use Rattle.cq_frac.specs.declared.Pair.{Pair}
use Rattle.cq_equations.specs.declared.store.StoreFault.{StoreFault}
use Rattle.cq_equations.specs.declared.store.StoreFault.TheVariants as of_store
use Rattle.cq_equations.specs.declared.project.ProjectFault.{ProjectFault}
use Rattle.cq_equations.specs.declared.project.ProjectFault.TheVariants.{Overflow, Pivots}
use Rattle.cq_equations.specs.ProjectFaults.{fault_of}

same : (fault : StoreFault) (pair : Pair) → fault_of fault ≡ Overflow pair → fault ≡ of_store.Overflow pair
same (of_store.Overflow p) pair e = cc
same (of_store.Pivots n) pair e = cc
same of_store.NoMemory pair e = cc

pub overflow_back : {A B : Type 0} (fault : StoreFault) (given : ProjectFault) (pair : Pair) → given ≡ fault_of fault → ◌≡◌ {A = Result A ProjectFault} (Err given) (Err (Overflow pair)) → ◌≡◌ {A = Result B StoreFault} (Err fault) (Err (of_store.Overflow pair))
overflow_back {A} {B} fault given pair g e =
    let same_given : given ≡ Overflow pair = cc in
    ap (λ f. Err f) (same fault pair (sym g ∙ same_given))

same_number : (fault : StoreFault) (n : ℕ) → fault_of fault ≡ Pivots n → fault ≡ of_store.Pivots n
same_number (of_store.Overflow p) n e = cc
same_number (of_store.Pivots m) n e = cc
same_number of_store.NoMemory n e = cc

pub pivots_back : {A B : Type 0} (fault : StoreFault) (given : ProjectFault) (n : ℕ) → given ≡ fault_of fault → ◌≡◌ {A = Result A ProjectFault} (Err given) (Err (Pivots n)) → ◌≡◌ {A = Result B StoreFault} (Err fault) (Err (of_store.Pivots n))
pivots_back {A} {B} fault given n g e =
    let same_given : given ≡ Pivots n = cc in
    ap (λ f. Err f) (same_number fault n (sym g ∙ same_given))
