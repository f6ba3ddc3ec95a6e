-- The pair of a fault that a `?` passes on.
use Rattle.std.proofs.Common.{◌≡◌, Result, Ok, Err}
use Rattle.std.specs.Prelude.{IsErrAnd}
use Rattle.cq_frac.specs.declared.Pair.{Pair}
use Rattle.cq_simplex.specs.declared.SimplexFault.{SimplexFault}
use Rattle.cq_simplex.specs.declared.SimplexFault.TheVariants.{Overflow}

pub pair_kept : {T : Type 0} (r : Result T Pair) (told pair : Pair) → IsErrAnd r (λ p. p ≡ told) → r ≡ Err pair → told ≡ pair
pair_kept (Ok x) told pair h e = absurd h
pair_kept (Err d) told pair h e = cc

pub simplex_told : {T : Type 0} (r : Result T SimplexFault) (told pair : Pair) → IsErrAnd r (λ f. f ≡ Overflow told) → r ≡ Err (Overflow pair) → told ≡ pair
simplex_told (Ok x) told pair h e = absurd h
simplex_told (Err d) told pair h e = cc
