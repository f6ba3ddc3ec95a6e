use Rattle.std.proofs.Common.{refl}
use Rattle.cq_built.proofs.Heads.{side_name_known}
use Rattle.cq_lint.proofs.goals.parts_of_more.Goals as goal

pub below_two-requires : goal.below_two-requires
below_two-requires c = side_name_known c.args.atoms.now c.args.heap.now.now.terms c.args.id c.in-Some.sides c.in-Some.ensures.some c.requires.names c.requires.live

pub returns-in-Some : goal.returns-in-Some
returns-in-Some c = c.below_two.ensures c.args.heap.now.now.terms c.args.id c.in-Some.ensures.some

pub parts_of_many-requires-clause-two : goal.parts_of_many-requires-clause-two
parts_of_many-requires-clause-two c = c.in-None.ensures.none refl
