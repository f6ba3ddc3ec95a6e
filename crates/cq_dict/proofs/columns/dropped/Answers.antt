use Rattle.std.proofs.Common.{refl, subst}
use Rattle.cq_frac.specs.Rows.{Lacks}
use Rattle.cq_dict.proofs.Turned.{stays_dropped}
use Rattle.cq_dict.proofs.columns.dropped.Goals as goal

pub returns-in_ok-turned-in-Some : goal.returns-in_ok-turned-in-Some
returns-in_ok-turned-in-Some c = (c.in_ok-turned-in-Some.turned, refl, c.in_ok-turned-in-Some.ensures)

pub returns-in-None : goal.returns-in-None
returns-in-None c = (c.args.row.now, refl, stays_dropped c.args.row.now c.args.column (subst (Lacks c.args.column) c.live.ensures c.in-None.ensures))
