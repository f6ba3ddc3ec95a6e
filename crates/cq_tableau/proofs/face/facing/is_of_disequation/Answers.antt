use Rattle.spec_linear.specs.declared.Relation.TheVariants.{Ne}
use Rattle.cq_tableau.proofs.Looks.{of_relation, of_none}
use Rattle.cq_tableau.proofs.face.facing.is_of_disequation.Goals as goal

pub returns-in-Some : goal.returns-in-Some
returns-in-Some c = of_relation c.args.told.now c.args.names.now.now c.args.q c.in-Some.relation Ne c.in-Some.ensures c.is_apart.result c.is_apart.ensures

pub returns-in-None : goal.returns-in-None
returns-in-None c = of_none c.args.told.now c.args.names.now.now c.args.q Ne c.in-None.ensures
