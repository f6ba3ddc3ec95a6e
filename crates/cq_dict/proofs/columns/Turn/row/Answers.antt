use Rattle.std.proofs.Common.{sym, subst}
use Rattle.cq_dict.specs.Changes.{LacksOther, IsTurnedRow}
use Rattle.cq_dict.proofs.Written.{if_ok}
use Rattle.cq_dict.proofs.columns.Turn.row.Goals as goal

pub dropped-requires-clause-new : goal.dropped-requires-clause-new
dropped-requires-clause-new c = subst (λ t. LacksOther t c.args.column c.args.row.now) c.in-Dropping.is c.requires.new

pub restored-requires-clause-new : goal.restored-requires-clause-new
restored-requires-clause-new c = subst (λ t. LacksOther t c.args.column c.args.row.now) c.in-Restoring.is c.requires.new

pub returns-in-Dropping : goal.returns-in-Dropping
returns-in-Dropping c = if_ok c.dropped.result _ _ (λ next h. (h.0, h.1, subst (λ t. IsTurnedRow t c.args.column c.args.row.now h.0) (sym c.in-Dropping.is) h.2)) c.dropped.ensures

pub returns-in-Restoring : goal.returns-in-Restoring
returns-in-Restoring c = if_ok c.restored.result _ _ (λ next h. (h.0, h.1, subst (λ t. IsTurnedRow t c.args.column c.args.row.now h.0) (sym c.in-Restoring.is) h.2)) c.restored.ensures
