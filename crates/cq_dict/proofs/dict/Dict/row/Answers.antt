use Rattle.std.proofs.Common.{◌∙◌, ap, sym, subst}
use Rattle.cq_frac.specs.Row.{Row}
use Rattle.cq_frac.specs.Rows.{IsRowFrom}
use Rattle.cq_dict.specs.Roles.{is_live}
use Rattle.cq_dict.proofs.Roles.{row_one}
use Rattle.cq_dict.proofs.dict.Dict.row.Goals as goal

pub returns-clause-entries : goal.returns-clause-entries
returns-clause-entries c = λ own a. c.live.ensures ∙ ap (λ (z : Row). z.live) (row_one c.args.self.now.roles c.args.r c.basic.result.now own c.basic.ensures.row a)

pub returns-clause-columns : goal.returns-clause-columns
returns-clause-columns c = subst (IsRowFrom (is_live c.args.self.now.roles) 0) (sym c.live.ensures) c.basic.ensures.columns.live_row
