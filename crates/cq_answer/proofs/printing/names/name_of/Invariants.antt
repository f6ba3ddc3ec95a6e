use Rattle.std.proofs.Common.{◌≡◌, drop}
use Rattle.cq_answer.specs.Names.{name_among}
use Rattle.cq_answer.proofs.printing.names.name_of.Given as goal

abbrev pub invariant-names : goal.invariant-names
invariant-names l = name_among (drop l.named-index l.names) l.variable.0 ≡ name_among l.names l.variable.0
