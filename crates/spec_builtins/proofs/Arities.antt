-- A name with more arguments than there may be is refused.
use Rattle.std.proofs.Common.{◌≡◌, ℕ, ◌<◌, Bool, true, pos, sym, subst, ap, arith, nat_lt}
use Rattle.std.proofs.lemmas.Bool.Decides.{nat_tests}
use Rattle.spec_numbers.specs.Rational.{ℚ}
use Rattle.spec_terms.proofs.Rounded.{int_ℚ-is}
use Rattle.spec_terms.specs.Term.{Number}
use Rattle.spec_builtins.specs.Built.{atom, natural}
use Rattle.spec_builtins.specs.Errors.{representation_error}
use Rattle.spec_builtins.specs.Alternatives.{Solutions, Faults, faults_if}
use Rattle.spec_builtins.specs.Terms.{functor_row}
use Rattle.spec_builtins.specs.Examples.{X}

passes : (m n : ℕ) → m < n → nat_lt m n ≡ true
passes m n h = grind (arith, nat_tests)

refused : (b : Bool) (e : Solutions) → b ≡ true → faults_if b (representation_error "max_arity") e ≡ Faults (representation_error "max_arity")
refused b e h = ap (λ x. faults_if x (representation_error "max_arity") e) h

pub too_many : (n : ℕ) → 1000000 < n → functor_row 10 X (atom "f") (natural n) ≡ Faults (representation_error "max_arity")
too_many n h =
    subst (λ (q : ℚ). functor_row 10 X (atom "f") (Number q) ≡ Faults (representation_error "max_arity")) (sym (int_ℚ-is (pos n)))
    (refused (nat_lt 1000000 n) _ (passes 1000000 n h))
