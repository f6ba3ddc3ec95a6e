use Rattle.std.proofs.Common.{refl, subst}
use Rattle.cq_frac.specs.Rows.{Lacks}
use Rattle.cq_dict.proofs.Turned.{stays_restored}
use Rattle.cq_dict.proofs.columns.restored.Goals as goal

pub returns-in_ok-turned-in-Some : goal.returns-in_ok-turned-in-Some
returns-in_ok-turned-in-Some c = (c.in_ok-turned-in-Some.turned, refl, c.in_ok-turned-in-Some.ensures)

pub returns-in-None : goal.returns-in-None
returns-in-None c = (c.args.row.now, refl, stays_restored c.args.row.now c.args.column (subst (Lacks c.args.column) c.dropped.ensures c.in-None.ensures))
