use Rattle.std.proofs.Common.{◌∙◌, ap}
use Rattle.spec_terms.specs.Term.{Name}
use Rattle.cq_built.proofs.Growing.{longer_by_text, grows_names, grows_term}
use Rattle.cq_built.proofs.Trees.{tree_last, name_known}
use Rattle.cq_term.proofs.Named.{text_is}
use Rattle.cq_built.proofs.building.atom.Goals as goal

pub returns-in_err-id-clause-grows : goal.returns-in_err-id-clause-grows
returns-in_err-id-clause-grows c =
    grows_names c.args.atoms.now c.intern.new.self c.args.heap.now c.atom.new.self (longer_by_text c.args.atoms.now c.intern.new.self c.args.text.now c.in_ok-name.ensures.texts)
    c.in_err-id.ensures.err c.in_err-id.ensures.saved c.in_err-id.ensures.room

pub returns-clause-built : goal.returns-clause-built
returns-clause-built c =
    tree_last c.intern.new.self c.args.heap.now.now.terms c.atom.new.self.now.terms (Name c.in_ok-name.name) c.in_ok-id.id c.in_ok-id.ensures.terms c.in_ok-id.ensures.id
    ∙ ap (λ x. Name x) (text_is c.intern.new.self c.in_ok-name.name c.args.text.now c.in_ok-name.ensures.number)

pub returns-clause-grows : goal.returns-clause-grows
returns-clause-grows c =
    grows_term c.args.atoms.now c.intern.new.self c.args.heap.now c.atom.new.self (Name c.in_ok-name.name)
    (longer_by_text c.args.atoms.now c.intern.new.self c.args.text.now c.in_ok-name.ensures.texts) c.in_ok-id.ensures.terms c.in_ok-id.ensures.images
    (λ known. name_known c.intern.new.self c.in_ok-name.name c.args.text.now c.in_ok-name.ensures.number) c.in_ok-id.ensures.saved c.in_ok-id.ensures.room
