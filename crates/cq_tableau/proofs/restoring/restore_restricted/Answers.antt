use Rattle.std.proofs.Common.{sym, ◌∙◌}
use Rattle.cq_tableau.proofs.Restores.{live_again, restores_one}
use Rattle.cq_tableau.proofs.restoring.restore_restricted.Goals as goal

pub returns-clause-restored : goal.returns-clause-restored
returns-clause-restored c =
    let e = c.in_ok-restore_column.ensures in
    restores_one c.args.dict.now.restricted c.args.dict.now.roles c.args.q c.restore_column.new.self.roles e.kinds
    (sym c.is_dropped.ensures ∙ c.if-not-is_dropped.false) e.table e.same (sym c.is_restricted.ensures ∙ c.if-not-is_restricted.false)

pub returns-clause-own : goal.returns-clause-own
returns-clause-own c = λ h.
    let g = live_again c.args.dict.now.restricted c.args.dict.now.roles c.args.q c.restore_column.new.self.roles c.in_ok-restore_column.ensures.kinds
    (sym c.is_dropped.ensures ∙ c.if-not-is_dropped.false) in
    cc
