-- What a fault of a projection tells of the fault of a store that a `?` passes on.
use Rattle.std.proofs.Common.{◌≡◌, ℕ, List, Result, Ok, Err, sym, subst}
use Rattle.std.specs.Prelude.{IsErrAnd, IfErr}
use Rattle.spec_linear.specs.Solution.{Constraint}
use Rattle.cq_frac.specs.declared.Pair.{Pair}
use Rattle.cq_store.specs.declared.store.StoreFault.{StoreFault}
use Rattle.cq_store.specs.declared.store.StoreFault.TheVariants as of_store
use Rattle.cq_project.specs.declared.eliminate.ProjectFault.{ProjectFault}
use Rattle.cq_project.specs.declared.eliminate.ProjectFault.TheVariants.{Overflow, Pivots}
use Rattle.cq_project.specs.EliminateFaults.{fault_of, IfRows}

pub store_refused : {T : Type 0} (r : Result T ProjectFault) (told : StoreFault) (pair : Pair) → IsErrAnd r (λ f. f ≡ fault_of told) → r ≡ Err (Overflow pair)
    → told ≡ of_store.Overflow pair
store_refused (Ok x) told pair h e = absurd h
store_refused (Err f) (of_store.Overflow p) pair h e = cc
store_refused (Err f) (of_store.Pivots n) pair h e = cc
store_refused (Err f) of_store.NoMemory pair h e = cc

pub store_spent : {T : Type 0} (r : Result T ProjectFault) (told : StoreFault) (n : ℕ) → IsErrAnd r (λ f. f ≡ fault_of told) → r ≡ Err (Pivots n) → told ≡ of_store.Pivots n
store_spent (Ok x) told n h e = absurd h
store_spent (Err f) (of_store.Overflow p) n h e = cc
store_spent (Err f) (of_store.Pivots m) n h e = cc
store_spent (Err f) of_store.NoMemory n h e = cc

pub no_rows_told : {T : Type 0} (r : Result T ProjectFault) (told : StoreFault) (P : ℕ → ℕ → ℕ → List Constraint → Type 0) → IsErrAnd r (λ f. f ≡ fault_of told)
    → IfErr r (λ f. IfRows f P)
no_rows_told (Ok x) told P h = tt
no_rows_told (Err f) (of_store.Overflow p) P h = subst (λ g. IfRows g P) (sym h) tt
no_rows_told (Err f) (of_store.Pivots n) P h = subst (λ g. IfRows g P) (sym h) tt
no_rows_told (Err f) of_store.NoMemory P h = subst (λ g. IfRows g P) (sym h) tt
