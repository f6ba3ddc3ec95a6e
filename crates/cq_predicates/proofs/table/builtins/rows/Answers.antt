use Rattle.std.proofs.Common.{arith}
use Rattle.cq_predicates.proofs.BuiltinsLemmas.{none_other}
use Rattle.cq_predicates.proofs.table.builtins.rows.Goals as goal

pub returns-in_default : goal.returns-in_default
returns-in_default c = record { right = λ k d l. absurd (omega (arith, l)); all = λ name h. absurd (none_other name c.args.arity (omega arith) h) }
