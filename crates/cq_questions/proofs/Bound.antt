-- An expression where some values are fixed is the same as with those values in the variables' places.
use Rattle.std.proofs.Common.{◌≡◌, ℕ, Bool, Option, ap₂}
use Rattle.std.specs.Prelude.{if◌then◌else◌}
use Rattle.spec_numbers.specs.Rational.{ℚ}
use Rattle.spec_linear.specs.Form.{Linear}
use Rattle.spec_terms.specs.Term.{apply}
use Rattle.spec_syntax.specs.Trees.{Tree}
use Rattle.spec_branch.specs.Relations.{False, lin_expression, form_or_waits}
use Rattle.spec_branch.specs.Alike.{no_values}
use Rattle.cq_settle.specs.Underway.{valued}
use Rattle.cq_settle.proofs.Bound.{form_same, divisor_same}

pub lin_expression_same : (fixed : ℕ → Option ℚ) (t : Tree) → lin_expression no_values (apply (valued fixed) t) ≡ lin_expression fixed t
lin_expression_same fixed t = ap₂ (λ (z : Bool) (o : Option Linear). if z then False else form_or_waits o) (divisor_same fixed t) (form_same fixed t)
