use Rattle.std.proofs.Common.{map, refl, []}
use Rattle.std.proofs.lemmas.Option.{slice_get-get_or}
use Rattle.spec_numbers.proofs.Prefixes.{prefix_same}
use Rattle.spec_terms.specs.Term.{with_arguments}
use Rattle.cq_term.specs.Texts.{text_of}
use Rattle.cq_built.proofs.Growing.{grows_names, grows_term}
use Rattle.cq_built.proofs.Trees.{tree_over, over_known}
use Rattle.cq_term.specs.Meaning.{at}
use Rattle.cq_built.proofs.bodies.over.Goals as goal

pub returns-in_err-id-clause-grows : goal.returns-in_err-id-clause-grows
returns-in_err-id-clause-grows c =
    grows_names c.args.atoms.now c.args.atoms.now c.args.heap.now c.compound.new.self (prefix_same c.args.atoms.now c.args.atoms.now refl)
    c.in_err-id.ensures.err c.in_err-id.ensures.saved c.in_err-id.ensures.room

pub returns-clause-built : goal.returns-clause-built
returns-clause-built c =
    let texts = c.args.atoms.now in
    tree_over texts c.args.heap.now.now.terms c.compound.new.self.now.terms c.args.name c.in_ok-id.id (text_of texts c.args.name) c.args.args.now
    c.in_ok-id.ensures.terms c.in_ok-id.ensures.id (slice_get-get_or texts c.args.name [] c.requires.name)

pub returns-clause-grows : goal.returns-clause-grows
returns-clause-grows c =
    let texts = c.args.atoms.now in
    let ts = c.args.heap.now.now.terms in
    grows_term texts texts c.args.heap.now c.compound.new.self (with_arguments c.args.name (map (at ts) c.args.args.now)) (prefix_same texts texts refl)
    c.in_ok-id.ensures.terms c.in_ok-id.ensures.images (λ known. over_known texts ts c.args.name c.args.args.now c.requires.name c.requires.live known)
    c.in_ok-id.ensures.saved c.in_ok-id.ensures.room
