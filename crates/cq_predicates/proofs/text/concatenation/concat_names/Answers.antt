use Rattle.std.proofs.Common.{◌∙◌}
use Rattle.cq_predicates.specs.Arguments.{other_atom_tests}
use Rattle.cq_predicates.proofs.text.concatenation.concat_names.Goals as goal

pub returns-in-Err-clause-err : goal.returns-in-Err-clause-err
returns-in-Err-clause-err c = λ texts rest.
    let ts = c.args.heap.now.now.terms in
    c.in-Err.ensures.err texts (other_atom_tests ts c.args.args.now.last texts (other_atom_tests ts c.args.whole texts rest))

pub returns-in-Err-optional_atom-clause-err : goal.returns-in-Err-optional_atom-clause-err
returns-in-Err-optional_atom-clause-err c = λ texts rest.
    let ts = c.args.heap.now.now.terms in
    let h = c.in-Err-optional_atom.ensures.err texts (other_atom_tests ts c.args.whole texts rest) in
    (c.in-Ok.ensures.passes texts (other_atom_tests ts c.args.args.now.last texts (other_atom_tests ts c.args.whole texts rest)) ∙ h.0, h.1)

pub returns-in-Err-optional_atom-2-clause-err : goal.returns-in-Err-optional_atom-2-clause-err
returns-in-Err-optional_atom-2-clause-err c = λ texts rest.
    let ts = c.args.heap.now.now.terms in
    let h = c.in-Err-optional_atom-2.ensures.err texts rest in (
      c.in-Ok.ensures.passes texts (other_atom_tests ts c.args.args.now.last texts (other_atom_tests ts c.args.whole texts rest))
          ∙ c.in-Ok-optional_atom.ensures.passes texts (other_atom_tests ts c.args.whole texts rest) ∙ h.0,
      h.1,
    )
