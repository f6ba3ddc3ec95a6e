-- The refusal that a `?` passes on.
use Rattle.std.proofs.Common.{◌≡◌, Result, Ok, Err}
use Rattle.std.specs.Prelude.{IsErrAnd}
use Rattle.cq_frac.specs.declared.Pair.{Pair}
use Rattle.cq_frac.specs.declared.Refusal.{Refusal}
use Rattle.cq_frac.specs.declared.Refusal.TheVariants.{Overflow}

-- of a pair that was told
pub pair_told : {T : Type 0} (r : Result T Refusal) (told pair : Pair) → IsErrAnd r (λ f. f ≡ Overflow told) → r ≡ Err (Overflow pair) → told ≡ pair
pair_told (Ok x) told pair h e = absurd h
pair_told (Err f) told pair h e = cc

-- of a refusal that was told
pub refusal_told : {T : Type 0} (r : Result T Refusal) (told : Refusal) (pair : Pair) → IsErrAnd r (λ f. f ≡ told) → r ≡ Err (Overflow pair) → told ≡ Overflow pair
refusal_told (Ok x) told pair h e = absurd h
refusal_told (Err f) told pair h e = cc
