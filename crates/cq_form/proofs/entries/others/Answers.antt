use Rattle.std.proofs.Common.{◌∙◌, ap}
use Rattle.cq_frac.proofs.OneMore.{if_ok}
use Rattle.cq_form.specs.Entries.{products_of}
use Rattle.cq_form.proofs.Rows.{others_are}
use Rattle.cq_form.proofs.entries.others.Goals as goal

pub returns : goal.returns
returns c = if_ok c.without.result (λ r e. ap products_of e ∙ others_are c.args.variable.0 c.args.entries.now) c.without.ensures
