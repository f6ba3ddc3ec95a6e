use Rattle.spec_simplex.proofs.TableauWritten.{solvable_of}
use Rattle.spec_simplex.proofs.tableau.invariants_solve.Goals as goal

pub returns : goal.returns
returns c = solvable_of
