use Rattle.std.proofs.Common.{ℕ, List, ◌∷◌, Err, ap, ◌∙◌}
use Rattle.spec_numbers.specs.Rational.{ℚ, 1ℚ}
use Rattle.cq_tableau.proofs.Passed.{search_passed, search_spent}
use Rattle.cq_tableau.proofs.weighing.form_certificate.Goals as goal

pub returns-clause-certificate : goal.returns-clause-certificate
returns-clause-certificate c = record {
  found = c.in_ok-found.found.items;
  entries = c.in_ok-found.ensures.entries;
  is = c.new.ensures ∙ c.in_ok-entries.ensures ∙ ap (λ (s : List (ℕ × ℚ)). (c.args.number, 1ℚ) ∷ s) c.deref.ensures.value;
}

pub returns-in_err-found-clause-overflow : goal.returns-in_err-found-clause-overflow
returns-in_err-found-clause-overflow c = λ pair e.
    c.in_err-found.ensures.overflow pair (ap Err (search_passed c.from_residual.result c.in_err-found.field-0.0 pair c.from_residual.ensures.1 e))

pub returns-in_err-found-clause-pivots : goal.returns-in_err-found-clause-pivots
returns-in_err-found-clause-pivots c = λ n e.
    c.in_err-found.ensures.pivots n (ap Err (search_spent c.from_residual.result c.in_err-found.field-0.0 n c.from_residual.ensures.1 e))
