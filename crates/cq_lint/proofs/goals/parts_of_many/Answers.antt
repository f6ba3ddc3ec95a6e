use Rattle.std.proofs.Common.{refl}
use Rattle.cq_term.specs.Meaning.{at}
use Rattle.cq_term.specs.Texts.{text_of}
use Rattle.cq_lint.proofs.Heads.{three_known, alone}
use Rattle.cq_lint.proofs.goals.parts_of_many.Goals as goal

pub below_three-requires : goal.below_three-requires
below_three-requires c = three_known c.args.atoms.now c.args.heap.now.now.terms c.args.id c.in-Some.three c.in-Some.ensures.some c.requires.names c.requires.live

pub returns-in-Some : goal.returns-in-Some
returns-in-Some c = c.below_three.ensures c.args.heap.now.now.terms c.args.id c.in-Some.ensures.some

pub returns-in-None : goal.returns-in-None
returns-in-None c = alone (text_of c.args.atoms.now) (at c.args.heap.now.now.terms c.args.id) c.requires.one c.requires.two (c.in-None.ensures.none refl)
