use Rattle.std.proofs.Common.{ap, ◌∙◌}
use Rattle.std.specs.FinMap.{insert}
use Rattle.cq_ops.proofs.Lookups.{insert-lookup}
use Rattle.cq_ops.proofs.operators.Operators.insert.Goals as goal

pub returns-clause-ok : goal.returns-clause-ok
returns-clause-ok c =
    insert-lookup c.self.inside.entries.entries c.insert.new.self.entries c.args.name c.args.op c.in_ok-insert.ensures.updates.0
    ∙ ap (λ operators. insert operators c.args.name c.args.op) c.self.view_is
