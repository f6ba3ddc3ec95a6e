use Rattle.cq_equations.specs.Told.{numbers_of}
use Rattle.cq_project.proofs.EliminateStanding.{standing}
use Rattle.cq_project.proofs.Steps.{AreLeft}
use Rattle.cq_project.proofs.eliminate.eliminate.Given as goal

abbrev pub invariant-variables : goal.invariant-variables
invariant-variables l = AreLeft (numbers_of l.variables) l.rows l.left.items

abbrev pub decreases-variables : goal.decreases-variables
decreases-variables l = standing (numbers_of l.variables) l.left.items
