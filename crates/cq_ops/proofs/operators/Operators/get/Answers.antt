use Rattle.std.proofs.Common.{sym, ap, ◌∙◌}
use Rattle.std.specs.FinMap.{get}
use Rattle.cq_ops.proofs.Lookups.{get-lookup}
use Rattle.cq_ops.proofs.operators.Operators.get.Goals as goal

pub returns : goal.returns
returns c =
    c.copied.ensures ∙ c.get.ensures.value ∙ sym (get-lookup c.self.inside.entries.entries c.args.name)
    ∙ ap (λ operators. get operators c.args.name) c.self.view_is
