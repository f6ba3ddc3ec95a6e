-- The fault of the search that a `?` passes on.
use Rattle.std.proofs.Common.{◌≡◌, ℕ, Result, Ok, Err}
use Rattle.std.specs.Prelude.{IsErrAnd}
use Rattle.cq_frac.specs.declared.Pair.{Pair}
use Rattle.cq_frac.specs.declared.Refusal.{Refusal}
use Rattle.cq_frac.specs.declared.Refusal.TheVariants as of_refusal
use Rattle.cq_simplex.specs.declared.SimplexFault.{SimplexFault}
use Rattle.cq_simplex.specs.declared.SimplexFault.TheVariants as of_search
use Rattle.cq_simplex.specs.Answers as of_simplex

-- of a refusal, as a fault of the search
pub searched : {T : Type 0} (r : Result T SimplexFault) (told : Refusal) (pair : Pair) → IsErrAnd r (of_simplex.IsFaultOf told) → r ≡ Err (of_search.Overflow pair)
    → told ≡ of_refusal.Overflow pair
searched (Ok x) told pair h e = absurd h
searched (Err f) (of_refusal.Overflow p) pair h e = cc
searched (Err f) of_refusal.NoMemory pair h e = cc

-- of a fault of the search
pub search_passed : {T : Type 0} (r : Result T SimplexFault) (told : SimplexFault) (pair : Pair) → IsErrAnd r (λ f. f ≡ told) → r ≡ Err (of_search.Overflow pair)
    → told ≡ of_search.Overflow pair
search_passed (Ok x) told pair h e = absurd h
search_passed (Err f) told pair h e = cc

-- ---- a number of exchanges
pub search_spent : {T : Type 0} (r : Result T SimplexFault) (told : SimplexFault) (n : ℕ) → IsErrAnd r (λ f. f ≡ told) → r ≡ Err (of_search.Pivots n) → told ≡ of_search.Pivots n
search_spent (Ok x) told n h e = absurd h
search_spent (Err f) told n h e = cc

pub never_searched : {T : Type 0} (r : Result T SimplexFault) (told : Refusal) (n : ℕ) → IsErrAnd r (of_simplex.IsFaultOf told) → r ≡ Err (of_search.Pivots n) → ⊥
never_searched (Ok x) told n h e = absurd h
never_searched (Err f) (of_refusal.Overflow p) n h e = cc
never_searched (Err f) of_refusal.NoMemory n h e = cc
