use Rattle.std.proofs.Common.{◌∙◌, ap, refl, codes}
use Rattle.spec_numbers.proofs.Prefixes.{prefix_same}
use Rattle.spec_builtins.specs.Bodies.{converted_body}
use Rattle.cq_built.proofs.Growing.{known_longer, longer_by_text}
use Rattle.cq_built.proofs.Trees.{tree_kept}
use Rattle.cq_built.proofs.Named.{grows_behind_name}
use Rattle.cq_built.proofs.bodies.convert_body.Goals as goal

pub convert-requires-clause-names : goal.convert-requires-clause-names
convert-requires-clause-names c =
    known_longer c.args.atoms.now c.intern.new.self c.args.heap.now.now.terms (longer_by_text c.args.atoms.now c.intern.new.self (codes "call") c.in_ok-call.ensures.texts) c.requires.names

pub returns-in_err-id-clause-grows : goal.returns-in_err-id-clause-grows
returns-in_err-id-clause-grows c =
    grows_behind_name c.args.atoms.now c.intern.new.self (codes "call") c.in_ok-call.ensures.texts c.intern.new.self c.args.heap.now c.convert.new.heap c.in_err-id.ensures.grows

pub returns-clause-converted : goal.returns-clause-converted
returns-clause-converted c =
    let texts = c.args.atoms.now in
    let more = c.intern.new.self in
    let ts = c.args.heap.now.now.terms in
    c.in_ok-id.ensures.converted
    ∙ ap converted_body (tree_kept texts more ts ts (longer_by_text texts more (codes "call") c.in_ok-call.ensures.texts) (prefix_same ts ts refl) c.requires.names c.args.body c.requires.live)

pub returns-clause-grows : goal.returns-clause-grows
returns-clause-grows c =
    grows_behind_name c.args.atoms.now c.intern.new.self (codes "call") c.in_ok-call.ensures.texts c.intern.new.self c.args.heap.now c.convert.new.heap c.in_ok-id.ensures.grows
