use Rattle.std.proofs.Common.{◌<◌, length, arith}
use Rattle.cq_elimination.proofs.Beside.{none_more, found_at}
use Rattle.cq_elimination.proofs.rows.is_among.Goals as goal

pub returns-then-are_one : goal.returns-then-are_one
returns-then-are_one c =
    let within : c.forms.other-index < length c.args.forms.now = omega arith in
    found_at c.args.forms.now c.forms.other-index c.other-item.result within c.other-item.is c.args.form.now c.if-are_one.ensures

pub forms-preserved : goal.forms-preserved
forms-preserved c =
    let within : c.forms.other-index < length c.args.forms.now = omega arith in
    none_more c.args.forms.now c.forms.other-index c.other-item.result within c.other-item.is c.args.form.now c.forms.invariant c.if-are_one.ensures
