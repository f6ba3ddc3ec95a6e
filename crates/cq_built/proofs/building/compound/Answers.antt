use Rattle.std.proofs.Common.{◌∙◌, ap, map, refl}
use Rattle.spec_numbers.proofs.Prefixes.{prefix_same}
use Rattle.spec_terms.specs.Term.{with_arguments}
use Rattle.cq_term.specs.Meaning.{at}
use Rattle.cq_built.proofs.Growing.{longer_by_text, grows_names, grows_term}
use Rattle.cq_built.proofs.Trees.{tree_over, trees_kept, over_known, name_known}
use Rattle.cq_built.proofs.building.compound.Goals as goal

pub returns-in_err-id-clause-grows : goal.returns-in_err-id-clause-grows
returns-in_err-id-clause-grows c =
    grows_names c.args.atoms.now c.intern.new.self c.args.heap.now c.compound.new.self (longer_by_text c.args.atoms.now c.intern.new.self c.args.text.now c.in_ok-name.ensures.texts)
    c.in_err-id.ensures.err c.in_err-id.ensures.saved c.in_err-id.ensures.room

pub returns-clause-built : goal.returns-clause-built
returns-clause-built c =
    let ts = c.args.heap.now.now.terms in
    let longer = longer_by_text c.args.atoms.now c.intern.new.self c.args.text.now c.in_ok-name.ensures.texts in
    tree_over c.intern.new.self ts c.compound.new.self.now.terms c.in_ok-name.name c.in_ok-id.id c.args.text.now c.args.args.now c.in_ok-id.ensures.terms c.in_ok-id.ensures.id c.in_ok-name.ensures.number
    ∙ ap (with_arguments c.args.text.now) (trees_kept c.args.atoms.now c.intern.new.self ts ts longer (prefix_same ts ts refl) c.requires.names c.args.args.now c.requires.live)

pub returns-clause-grows : goal.returns-clause-grows
returns-clause-grows c =
    let ts = c.args.heap.now.now.terms in
    grows_term c.args.atoms.now c.intern.new.self c.args.heap.now c.compound.new.self (with_arguments c.in_ok-name.name (map (at ts) c.args.args.now))
    (longer_by_text c.args.atoms.now c.intern.new.self c.args.text.now c.in_ok-name.ensures.texts) c.in_ok-id.ensures.terms c.in_ok-id.ensures.images
    (λ known. over_known c.intern.new.self ts c.in_ok-name.name c.args.args.now (name_known c.intern.new.self c.in_ok-name.name c.args.text.now c.in_ok-name.ensures.number) c.requires.live known)
    c.in_ok-id.ensures.saved c.in_ok-id.ensures.room
