-- The runs of a certificate are the certificate.
use Rattle.std.proofs.Common.{◌≡◌, ℕ, List, [], ◌∷◌, ◌++◌, Bool, true, false, cond, refl, ap}
use Rattle.std.specs.Prelude.{◌==◌}
use Rattle.spec_numbers.specs.Rational.{ℚ}
use Rattle.spec_linear.specs.Solution.{Constraint}
use Rattle.spec_linear.specs.Certificate.{member}
use Rattle.spec_log.specs.Log.{Run, Runs, one, two, certificate}
use Rattle.spec_log.specs.Verdicts.{is_disequation_in}
use Rattle.spec_log.specs.Written.{up_to, from_there, runs_of}

joined : (n : ℕ) (r : Run) → up_to n r ++ from_there n r ≡ r
joined n [] = refl
joined n (e ∷ r) = go (e.0 == n) (joined n r)
  where
    go : (b : Bool) → up_to n r ++ from_there n r ≡ r → cond b [] (e ∷ up_to n r) ++ cond b (e ∷ r) (from_there n r) ≡ e ∷ r
    go true h = refl
    go false h = ap (λ s. e ∷ s) h

pub whole : (l : List Constraint) (cert : Run) → certificate (runs_of l cert) ≡ cert
whole l [] = refl
whole l (e ∷ r) = go (is_disequation_in (member l e.0))
  where
    go : (b : Bool) → certificate (cond b (two (e ∷ up_to e.0 r) (from_there e.0 r)) (one (e ∷ r))) ≡ e ∷ r
    go true = ap (λ s. e ∷ s) (joined e.0 r)
    go false = refl
