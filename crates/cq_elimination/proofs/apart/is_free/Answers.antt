use Rattle.cq_elimination.proofs.Bounding.{none_of_three}
use Rattle.cq_elimination.proofs.apart.is_free.Goals as goal

pub returns : goal.returns
returns c =
    none_of_three c.args.side c.args.variable c.args.front.now c.args.back.now c.args.beside.now c.is_bounded-3.result
    c.if-is_bounded.ensures c.if-is_bounded-2.ensures c.is_bounded-3.ensures
