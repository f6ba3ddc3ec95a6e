use Rattle.std.proofs.Common.{◌≡◌, ◌+◌, ◌-◌, ◌<◌, length, arith, ◌/◌}
use Rattle.cq_elimination.proofs.Lists.{has_at}
use Rattle.spec_projection.proofs.Members.{has_image}
use Rattle.cq_equations.specs.Told.{numbers_of}
use Rattle.cq_elimination.specs.Lines.{line_of}
use Rattle.cq_elimination.proofs.Placed.{stands_behind, stands_in_front, placed_between}
use Rattle.cq_elimination.proofs.arrange.order.place_of.Goals as goal

pub compare-requires-clause-placed : goal.compare-requires-clause-placed
compare-requires-clause-placed c =
    let within : c.halves.low + (c.halves.high - c.halves.low) / 2 < length c.args.rows.now = omega (arith, c.halves.invariant.within) in
    c.requires.placed (line_of c.index-rows-middle.result)
    (has_image line_of c.index-rows-middle.result c.args.rows.now
    (has_at c.args.rows.now (c.halves.low + (c.halves.high - c.halves.low) / 2) c.index-rows-middle.result within c.index-rows-middle.is))

pub halves-preserved-in-Less : goal.halves-preserved-in-Less
halves-preserved-in-Less c =
    stands_behind (numbers_of c.args.order.now) c.args.row.now c.args.rows.now c.halves.low c.halves.high (c.halves.low + (c.halves.high - c.halves.low) / 2)
    c.index-rows-middle.result (omega arith) (omega arith) c.index-rows-middle.is c.halves.invariant c.compare.result c.compare.ensures c.in-Less.is

pub halves-preserved : goal.halves-preserved
halves-preserved c =
    stands_in_front (numbers_of c.args.order.now) c.args.row.now c.args.rows.now c.halves.low c.halves.high (c.halves.low + (c.halves.high - c.halves.low) / 2)
    c.index-rows-middle.result (omega arith) (omega arith) c.index-rows-middle.is c.halves.invariant c.compare.result c.compare.ensures c.in_default.not-Less c.requires.new

pub returns : goal.returns
returns c =
    let b = c.halves.invariant in
    let e : c.halves.high ≡ c.halves.low = omega (arith, b.ordered) in
    placed_between (numbers_of c.args.order.now) c.args.row.now c.args.rows.now c.halves.low c.halves.high b e
