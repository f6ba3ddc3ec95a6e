use Rattle.std.proofs.Common.{◌∙◌}
use Rattle.cq_predicates.specs.Arguments.{other_atom_tests, counts_tests}
use Rattle.cq_predicates.proofs.Asked.{atom_passes}
use Rattle.cq_predicates.proofs.text.subtexts.part_names.Goals as goal

pub returns-in-Err-clause-err : goal.returns-in-Err-clause-err
returns-in-Err-clause-err c = λ texts rest.
    let ts = c.args.heap.now.now.terms in
    c.in-Err.ensures.err texts (other_atom_tests ts c.args.args.now.part texts (counts_tests ts c.args.args.now texts rest))

pub returns-in-Err-optional_atom-clause-err : goal.returns-in-Err-optional_atom-clause-err
returns-in-Err-optional_atom-clause-err c = λ texts rest.
    let ts = c.args.heap.now.now.terms in
    let last = counts_tests ts c.args.args.now texts rest in
    let h = c.in-Err-optional_atom.ensures.err texts last in
    (atom_passes texts ts c.args.text c.in-Ok.name c.in-Ok.ensures.ok (other_atom_tests ts c.args.args.now.part texts last) ∙ h.0, h.1)

pub returns-in-Some-clause-err : goal.returns-in-Some-clause-err
returns-in-Some-clause-err c = λ texts rest.
    let ts = c.args.heap.now.now.terms in
    let last = counts_tests ts c.args.args.now texts rest in
    let h = c.in-Some.ensures.some texts rest in (
      atom_passes texts ts c.args.text c.in-Ok.name c.in-Ok.ensures.ok (other_atom_tests ts c.args.args.now.part texts last)
          ∙ c.in-Ok-optional_atom.ensures.passes texts last ∙ h.0,
      h.1,
    )
