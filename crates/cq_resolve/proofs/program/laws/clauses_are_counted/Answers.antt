use Rattle.cq_resolve.proofs.Instances.{kept_parts, kept_counted, instance_moved, counted_variables}
use Rattle.cq_resolve.proofs.program.laws.clauses_are_counted.Goals as goal

pub returns : goal.returns
returns c = record { kept = kept_parts; counted = kept_counted; moved = instance_moved; variables = counted_variables }
