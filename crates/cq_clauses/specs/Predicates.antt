-- What a `Predicates` is to its callers.
use Rattle.std.specs.Prelude.{ℕ, List}
use Rattle.cq_term.specs.declared.names.Pred.{Pred}

-- the predicates by number; how many names have a place; and for how many predicates more there is memory
pub record PredicatesValue : Type 0 where
  pub preds : List Pred
  pub names : ℕ
  pub room : ℕ
