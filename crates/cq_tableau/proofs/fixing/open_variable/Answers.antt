use Rattle.std.proofs.Common.{Some, ap, ◌∙◌}
use Rattle.cq_tableau.proofs.fixing.open_variable.Goals as goal

pub returns-in-None : goal.returns-in-None
returns-in-None c = (c.get.ensures ∙ ap Some c.in-Variable.is, c.in-None.ensures)
