use Rattle.spec_linear.specs.declared.Relation.TheVariants.{Gt}
use Rattle.cq_tableau.proofs.Looks.{of_relation, of_none}
use Rattle.cq_tableau.proofs.looking.is_strict.Goals as goal

pub returns-in-Some : goal.returns-in-Some
returns-in-Some c = of_relation c.args.told.now c.args.names.now.now c.args.q c.in-Some.relation Gt c.in-Some.ensures c.is_above.result c.is_above.ensures

pub returns-in-None : goal.returns-in-None
returns-in-None c = of_none c.args.told.now c.args.names.now.now c.args.q Gt c.in-None.ensures
