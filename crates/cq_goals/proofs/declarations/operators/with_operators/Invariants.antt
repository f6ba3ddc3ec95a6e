use Rattle.std.proofs.Common.{◌≡◌, drop}
use Rattle.spec_builtins.specs.Operators.{operators_after}
use Rattle.spec_syntax.specs.Writing.{IsTable}
use Rattle.cq_term.specs.Trees.{tree, trees}
use Rattle.cq_ops.specs.Tables.{named, AreNamed}
use Rattle.cq_goals.proofs.declarations.operators.with_operators.Given as goal

abbrev pub invariant-loop-id : goal.invariant-loop-id
invariant-loop-id l = record {
  set : (let t = tree l.atoms l.heap.now.terms in
      operators_after (named l.atoms l.changed) (t l.asked.goal.priority) (t l.asked.goal.kind) (trees l.atoms l.heap.now.terms (drop l.id-index l.asked.names.items))
      ≡ operators_after (named l.atoms l.ops) (t l.asked.goal.priority) (t l.asked.goal.kind) (trees l.atoms l.heap.now.terms l.asked.names.items));
  known : AreNamed l.atoms l.ops → AreNamed l.atoms l.changed;
  table : IsTable (named l.atoms l.ops) → IsTable (named l.atoms l.changed);
}
