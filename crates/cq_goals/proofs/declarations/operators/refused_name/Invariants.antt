use Rattle.std.proofs.Common.{◌≡◌, drop}
use Rattle.spec_syntax.specs.Trees.{Tree}
use Rattle.cq_term.specs.Trees.{trees}
use Rattle.cq_ops.specs.Tables.{named}
use Rattle.cq_goals.specs.Operators.{first_refused}
use Rattle.cq_goals.proofs.declarations.operators.refused_name.Given as goal

abbrev pub invariant-loop-id : goal.invariant-loop-id
invariant-loop-id l = (e : Tree → Tree) →
    first_refused l.atoms l.heap.now.terms l.asked.goal (named l.atoms l.ops) l.cause e (trees l.atoms l.heap.now.terms l.asked.names.items)
    ≡ first_refused l.atoms l.heap.now.terms l.asked.goal (named l.atoms l.ops) l.cause e (trees l.atoms l.heap.now.terms (drop l.id-index l.asked.names.items))
