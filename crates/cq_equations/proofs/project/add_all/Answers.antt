use Rattle.std.proofs.Common.{◌<◌, length, arith}
use Rattle.std.proofs.lemmas.List.{get_or_default}
use Rattle.cq_equations.specs.Contents.{order_of}
use Rattle.cq_equations.proofs.Turned.{not_yet}
use Rattle.cq_equations.proofs.project.add_all.Goals as goal

pub add_variable-requires : goal.add_variable-requires
add_variable-requires c =
    let within : c.variables.x-index < length c.args.variables.now = omega arith in
    not_yet (order_of c.args.store.now) c.args.variables.now c.variables.x-index _ (order_of c.variables.store) c.requires within (get_or_default c.args.variables.now c.variables.x-index _ _ within) c.variables.invariant.0
