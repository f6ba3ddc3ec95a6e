use Rattle.std.proofs.Common.{rules, ◌<◌, length, arith}
use Rattle.cq_equations.proofs.Listed.{places_more}
use Rattle.cq_equations.proofs.project.solved_for.Goals as goal

pub places-preserved : goal.places-preserved
places-preserved c =
    let within : c.places.i < length c.args.form.now.products = omega (arith, c.len-i-end.ensures) in
    places_more c.args.form.now.products c.places.products.items c.push.new.self.items c.places.i c.get.result c.places.invariant within c.get.ensures (search rules)
