use Rattle.std.proofs.Common.{◌≡◌, ◌∙◌, Err, refl, ap}
use Rattle.cq_frac.specs.declared.Refusal.TheVariants.{Overflow}
use Rattle.cq_cexpr.proofs.Overflowing.{turned_comes}
use Rattle.cq_cexpr.proofs.operations.multiplied.Goals as goal

pub returns-in-Err-clause-overflow : goal.returns-in-Err-clause-overflow
returns-in-Err-clause-overflow c = λ pair e.
    let told : c.turned.result ≡ Overflow pair = cc in
    turned_comes c.args.factor c.args.form.now c.is_in_order.ensures (record { operation = pair.operation; left = pair.right; right = pair.left }) pair refl
    (c.scale.ensures.overflow (record { operation = pair.operation; left = pair.right; right = pair.left }) (c.in-Err.is ∙ ap Err (c.turned.ensures pair told)))
