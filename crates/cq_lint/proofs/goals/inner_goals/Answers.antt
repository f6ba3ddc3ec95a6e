use Rattle.std.proofs.Common.{refl}
use Rattle.cq_lint.proofs.Heads.{only_known}
use Rattle.cq_lint.proofs.goals.inner_goals.Goals as goal

pub below_one-requires : goal.below_one-requires
below_one-requires c = only_known c.args.atoms.now c.args.heap.now.now.terms c.args.id c.in-Some.only c.in-Some.ensures.some c.requires.names c.requires.live

pub returns-in-Some : goal.returns-in-Some
returns-in-Some c = c.below_one.ensures c.args.heap.now.now.terms c.args.id c.in-Some.ensures.some

pub parts_of_more-requires-clause-one : goal.parts_of_more-requires-clause-one
parts_of_more-requires-clause-one c = c.in-None.ensures.none refl
