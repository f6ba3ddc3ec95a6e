use Rattle.std.proofs.Common.{◌≡◌, take}
use Rattle.cq_term.specs.Places.{numbers_of}
use Rattle.cq_answer.proofs.Variables.{with_all}
use Rattle.cq_answer.proofs.residual.wanted.add_variables.Given as goal

abbrev pub invariant-variables : goal.invariant-variables
invariant-variables l = numbers_of l.found.keys ≡ with_all (numbers_of l.fn.found.keys) (numbers_of (take l.variable-index l.variable-items))
