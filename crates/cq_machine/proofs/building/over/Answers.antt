use Rattle.std.proofs.Common.{map, refl}
use Rattle.spec_numbers.proofs.Prefixes.{prefix_same}
use Rattle.spec_terms.specs.Term.{with_arguments}
use Rattle.cq_built.proofs.Growing.{grows_term}
use Rattle.cq_built.proofs.Trees.{tree_over, over_known}
use Rattle.cq_term.specs.Meaning.{at}
use Rattle.cq_machine.proofs.building.over.Goals as goal

pub returns-clause-built : goal.returns-clause-built
returns-clause-built c = λ texts text e.
    tree_over texts c.args.world.now.heap.now.terms c.compound.new.self.now.terms c.args.name c.in_ok-id-2.id text c.args.args.now c.in_ok-id-2.ensures.terms c.in_ok-id-2.ensures.id e

pub returns-clause-grows : goal.returns-clause-grows
returns-clause-grows c = λ texts known.
    let ts = c.args.world.now.heap.now.terms in
    grows_term texts texts c.args.world.now.heap c.compound.new.self (with_arguments c.args.name (map (at ts) c.args.args.now)) (prefix_same texts texts refl)
    c.in_ok-id-2.ensures.terms c.in_ok-id-2.ensures.images (λ all. over_known texts ts c.args.name c.args.args.now known c.requires.live all) c.in_ok-id-2.ensures.saved c.in_ok-id-2.ensures.room
