use Rattle.spec_simplex.proofs.TableauWritten.{shown_keeps}
use Rattle.spec_simplex.proofs.tableau.rows_show_the_invariant.Goals as goal

pub returns : goal.returns
returns c = shown_keeps
