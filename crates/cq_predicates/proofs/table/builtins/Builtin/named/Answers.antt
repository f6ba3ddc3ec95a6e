use Rattle.cq_predicates.proofs.BuiltinsLemmas.{found}
use Rattle.cq_predicates.proofs.table.builtins.Builtin.named.Goals as goal

pub returns : goal.returns
returns c = found c.args.arity c.args.name.now c.among.result c.rows.result.now c.rows.ensures c.among.ensures
