use Rattle.std.proofs.Common.{ap, ◌∙◌}
use Rattle.std.specs.FinMap.{remove}
use Rattle.cq_ops.proofs.Lookups.{remove-lookup}
use Rattle.cq_ops.proofs.operators.Operators.remove.Goals as goal

pub returns : goal.returns
returns c =
    remove-lookup c.self.inside.entries.entries c.remove.new.self.entries c.args.name c.remove.ensures.updates.0
    ∙ ap (λ operators. remove operators c.args.name) c.self.view_is
