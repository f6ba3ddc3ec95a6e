-- What a fault of a projection tells of the refusal, or of the fault of a store, that it was made of.
use Rattle.std.proofs.Common.{◌≡◌, ℕ, List, Result, Ok, Err, sym, subst}
use Rattle.std.specs.Prelude.{IsErrAnd, IfErr}
use Rattle.spec_linear.specs.Solution.{Constraint}
use Rattle.cq_frac.specs.declared.Pair.{Pair}
use Rattle.cq_frac.specs.declared.Refusal.{Refusal}
use Rattle.cq_frac.specs.declared.Refusal.TheVariants as of_refusal
use Rattle.cq_store.specs.declared.store.StoreFault.{StoreFault}
use Rattle.cq_store.specs.declared.store.StoreFault.TheVariants as of_store
use Rattle.cq_project.specs.declared.eliminate.ProjectFault.{ProjectFault}
use Rattle.cq_project.specs.declared.eliminate.ProjectFault.TheVariants.{Overflow, Pivots, Rows, NoMemory}
use Rattle.cq_project.specs.EliminateFaults.{IsFaultOf, fault_of, IfRows}

-- ---- of a refusal that a `?` passes on
pub refused : {T : Type 0} (r : Result T ProjectFault) (told : Refusal) (pair : Pair) → IsErrAnd r (IsFaultOf told) → r ≡ Err (Overflow pair) → told ≡ of_refusal.Overflow pair
refused (Ok x) told pair h e = absurd h
refused (Err f) (of_refusal.Overflow p) pair h e = cc
refused (Err f) of_refusal.NoMemory pair h e = cc

pub never_spent : {T : Type 0} (r : Result T ProjectFault) (told : Refusal) (n : ℕ) → IsErrAnd r (IsFaultOf told) → r ≡ Err (Pivots n) → ⊥
never_spent (Ok x) told n h e = absurd h
never_spent (Err f) (of_refusal.Overflow p) n h e = cc
never_spent (Err f) of_refusal.NoMemory n h e = cc

-- ---- of a fault of a store
pub told_pair : (told : StoreFault) (pair : Pair) → fault_of told ≡ Overflow pair → told ≡ of_store.Overflow pair
told_pair (of_store.Overflow p) pair e = cc
told_pair (of_store.Pivots n) pair e = cc
told_pair of_store.NoMemory pair e = cc

pub told_number : (told : StoreFault) (n : ℕ) → fault_of told ≡ Pivots n → told ≡ of_store.Pivots n
told_number (of_store.Overflow p) n e = cc
told_number (of_store.Pivots m) n e = cc
told_number of_store.NoMemory n e = cc

pub one_fault : {T : Type 0} (x y : ProjectFault) → ◌≡◌ {A = Result T ProjectFault} (Err x) (Err y) → x ≡ y
one_fault x y e = cc

pub no_rows_refused : {T : Type 0} (r : Result T ProjectFault) (told : Refusal) (P : ℕ → ℕ → ℕ → List Constraint → Type 0) → IsErrAnd r (IsFaultOf told)
    → IfErr r (λ f. IfRows f P)
no_rows_refused (Ok x) told P h = tt
no_rows_refused (Err f) (of_refusal.Overflow p) P h = subst (λ g. IfRows g P) (sym h) tt
no_rows_refused (Err f) of_refusal.NoMemory P h = subst (λ g. IfRows g P) (sym h) tt

-- what holds of too many rows, by what holds of them otherwise
pub if_rows : (fault : ProjectFault) (P Q : ℕ → ℕ → ℕ → List Constraint → Type 0)
    → ((p n rest : ℕ) (rows : List Constraint) → P p n rest rows → Q p n rest rows) → IfRows fault P → IfRows fault Q
if_rows (Overflow pair) P Q w h = tt
if_rows (Pivots n) P Q w h = tt
if_rows (Rows p n rest rows) P Q w h = w p n rest rows.items h
if_rows NoMemory P Q w h = tt
