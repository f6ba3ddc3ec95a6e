use Rattle.std.proofs.Common.{◌∙◌, ap}
use Rattle.cq_frac.specs.Row.{Row}
use Rattle.cq_dict.proofs.Roles.{row_one}
use Rattle.cq_dict.proofs.dict.Dict.constant.Goals as goal

pub returns : goal.returns
returns c = λ own a. c.constant.ensures ∙ ap (λ (z : Row). z.constant) (row_one c.args.self.now.roles c.args.r c.basic.result.now own c.basic.ensures.row a)
