use Rattle.std.proofs.Common.{arith}
use Rattle.cq_predicates.proofs.PredicatesLemmas.{none_other}
use Rattle.cq_predicates.proofs.predicates.Predicate.named.Goals as goal

pub returns-in_default : goal.returns-in_default
returns-in_default c = none_other c.args.name.now c.args.arity (λ e. omega arith) (λ e. omega arith) (λ e. omega arith) (λ e. omega arith)
