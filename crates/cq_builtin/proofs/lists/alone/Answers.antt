use Rattle.std.proofs.Common.{sym}
use Rattle.spec_builtins.specs.Alternatives.{◌≐◌}
use Rattle.cq_built.proofs.Trees.{kept}
use Rattle.cq_builtin.proofs.lists.alone.Goals as goal

pub returns-clause-offered : goal.returns-clause-offered
returns-clause-offered c = λ i.
    sym (kept c.args.atoms.now c.list.new.atoms c.args.heap.now c.list.new.heap c.list.ensures.grows c.requires.names c.args.list c.requires.list) i ≐ sym c.in_ok-right.ensures.built i
