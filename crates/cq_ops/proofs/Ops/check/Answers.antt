use Rattle.std.proofs.Common.{subst}
use Rattle.std.specs.Int.{w128}
use Rattle.std.proofs.lemmas.Int.{to_z-of_z}
use Rattle.cq_ops.specs.Faults.{IsAdmitted}
use Rattle.cq_ops.proofs.Admitted.{is_set}
use Rattle.cq_ops.proofs.Ops.check.Goals as goal

pub returns-in-Ok-clause-ok : goal.returns-in-Ok-clause-ok
returns-in-Ok-clause-ok c = is_set c.args.atoms.now c.args.self.now c.args.priority c.args.kind.now c.args.name c.in-Ok.field-0.0 c.in-Ok.field-0.1 c.requires (subst (λ z. IsAdmitted c.args.atoms.now c.args.self.now z c.args.kind.now c.args.name c.in-Ok.field-0.0 c.in-Ok.field-0.1) (to_z-of_z w128 c.args.priority c.ranges.priority) c.in-Ok.ensures.ok)
