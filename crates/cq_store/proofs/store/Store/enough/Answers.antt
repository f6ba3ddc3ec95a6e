use Rattle.std.proofs.Common.{◌+◌, List, length, ap, ◌∙◌}
use Rattle.spec_linear.specs.Solution.{Constraint}
use Rattle.spec_projection.specs.Projection.{inequalities_of}
use Rattle.cq_store.proofs.Spent.{power_enough}
use Rattle.cq_store.proofs.store.Store.enough.Goals as goal

pub returns-clause-enough : goal.returns-clause-enough
returns-clause-enough c =
    power_enough c.args.self.now.told c.power_of_two.result (c.count_inequalities.result + 1)
    (ap (λ n. n + 1) (c.count_inequalities.ensures.count ∙ ap (λ (l : List Constraint). length (inequalities_of l)) c.told.ensures.told)) c.power_of_two.ensures
