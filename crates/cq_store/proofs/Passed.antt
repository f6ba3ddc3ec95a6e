-- The pair of a fault that a `?` passes on.
use Rattle.std.proofs.Common.{◌≡◌, ℕ, Result, Ok, Err}
use Rattle.std.specs.Prelude.{IsErrAnd}
use Rattle.cq_frac.specs.declared.Pair.{Pair}
use Rattle.cq_frac.specs.declared.Refusal.{Refusal}
use Rattle.cq_frac.specs.declared.Refusal.TheVariants as of_refusal
use Rattle.cq_simplex.specs.declared.SimplexFault.{SimplexFault}
use Rattle.cq_simplex.specs.declared.SimplexFault.TheVariants as of_search
use Rattle.cq_store.specs.declared.store.StoreFault.{StoreFault}
use Rattle.cq_store.specs.declared.store.StoreFault.TheVariants.{Overflow, Pivots}
use Rattle.cq_store.specs.Faults.{IsFaultOf, IsFaultOfSearch}

-- of a refusal, as a fault of the store
pub refused : {T : Type 0} (r : Result T StoreFault) (told : Refusal) (pair : Pair) → IsErrAnd r (IsFaultOf told) → r ≡ Err (Overflow pair) → told ≡ of_refusal.Overflow pair
refused (Ok x) told pair h e = absurd h
refused (Err f) (of_refusal.Overflow p) pair h e = cc
refused (Err f) of_refusal.NoMemory pair h e = cc

-- of a fault of the search, as one of the store
pub search_refused : {T : Type 0} (r : Result T StoreFault) (told : SimplexFault) (pair : Pair) → IsErrAnd r (IsFaultOfSearch told) → r ≡ Err (Overflow pair)
    → told ≡ of_search.Overflow pair
search_refused (Ok x) told pair h e = absurd h
search_refused (Err f) (of_search.Overflow p) pair h e = cc
search_refused (Err f) (of_search.Pivots n) pair h e = cc
search_refused (Err f) of_search.NoMemory pair h e = cc

-- of a fault of the store
pub passed : {T : Type 0} (r : Result T StoreFault) (told : StoreFault) (pair : Pair) → IsErrAnd r (λ f. f ≡ told) → r ≡ Err (Overflow pair) → told ≡ Overflow pair
passed (Ok x) told pair h e = absurd h
passed (Err f) told pair h e = cc

-- ---- a number of exchanges
pub spent : {T : Type 0} (r : Result T StoreFault) (told : SimplexFault) (n : ℕ) → IsErrAnd r (IsFaultOfSearch told) → r ≡ Err (Pivots n) → told ≡ of_search.Pivots n
spent (Ok x) told n h e = absurd h
spent (Err f) (of_search.Overflow p) n h e = cc
spent (Err f) (of_search.Pivots m) n h e = cc
spent (Err f) of_search.NoMemory n h e = cc

pub never_spent : {T : Type 0} (r : Result T StoreFault) (told : Refusal) (n : ℕ) → IsErrAnd r (IsFaultOf told) → r ≡ Err (Pivots n) → ⊥
never_spent (Ok x) told n h e = absurd h
never_spent (Err f) (of_refusal.Overflow p) n h e = cc
never_spent (Err f) of_refusal.NoMemory n h e = cc

pub store_spent : {T : Type 0} (r : Result T StoreFault) (told : StoreFault) (n : ℕ) → IsErrAnd r (λ f. f ≡ told) → r ≡ Err (Pivots n) → told ≡ Pivots n
store_spent (Ok x) told n h e = absurd h
store_spent (Err f) told n h e = cc

-- ---- a fault of the search that is told as one of the store
pub told_pair : (told : SimplexFault) (f : StoreFault) (pair : Pair) → IsFaultOfSearch told f → f ≡ Overflow pair → told ≡ of_search.Overflow pair
told_pair (of_search.Overflow p) f pair h e = cc
told_pair (of_search.Pivots n) f pair h e = cc
told_pair of_search.NoMemory f pair h e = cc

pub told_number : (told : SimplexFault) (f : StoreFault) (n : ℕ) → IsFaultOfSearch told f → f ≡ Pivots n → told ≡ of_search.Pivots n
told_number (of_search.Overflow p) f n h e = cc
told_number (of_search.Pivots m) f n h e = cc
told_number of_search.NoMemory f n h e = cc

pub one_fault : {T : Type 0} (x y : StoreFault) → ◌≡◌ {A = Result T StoreFault} (Err x) (Err y) → x ≡ y
one_fault x y e = cc
