use Rattle.std.proofs.Common.{◌∙◌, codes, ap}
use Rattle.std.proofs.lemmas.Result.{IfOk-weaker}
use Rattle.spec_terms.specs.Term.{Name, Compound, one, more}
use Rattle.cq_built.proofs.Growing.{grows_both}
use Rattle.cq_built.proofs.Trees.{kept}
use Rattle.cq_built.proofs.balls.permission.Goals as goal

pub returns-in_err-object-clause-grows : goal.returns-in_err-object-clause-grows
returns-in_err-object-clause-grows c =
    let first = c.culprit_term in
    grows_both c.args.atoms.now c.atom.new.atoms c.atom-2.new.atoms c.args.heap.now c.atom.new.heap c.atom-2.new.heap
    (grows_both c.args.atoms.now first.new.atoms c.atom.new.atoms c.args.heap.now first.new.heap c.atom.new.heap first.ensures.grows c.atom.ensures.grows) c.atom-2.ensures.grows

pub returns-clause-built : goal.returns-clause-built
returns-clause-built c =
    let first = c.culprit_term in
    let second = grows_both first.new.atoms c.atom.new.atoms c.atom-2.new.atoms first.new.heap c.atom.new.heap c.atom-2.new.heap c.atom.ensures.grows c.atom-2.ensures.grows in
    let known = first.ensures.grows.names c.requires.names in
    let blamed =
    kept first.new.atoms c.atom-2.new.atoms first.new.heap c.atom-2.new.heap second known c.in_ok-culprit.culprit c.in_ok-culprit.ensures.live
    ∙ c.in_ok-culprit.ensures.built in
    let action =
    kept c.atom.new.atoms c.atom-2.new.atoms c.atom.new.heap c.atom-2.new.heap c.atom-2.ensures.grows (c.atom.ensures.grows.names known) c.in_ok-action.action c.in_ok-action.ensures.live
    ∙ c.in_ok-action.ensures.built ∙ ap (λ x. Name x) c.action.ensures in
    let object = c.in_ok-object.ensures.built ∙ ap (λ x. Name x) c.object.ensures in
    IfOk-weaker c.compound.result _ _ (λ id e. e ∙ (λ i. Compound (codes "permission_error") (more (action i) (more (object i) (one (blamed i)))))) c.compound.ensures.built

pub returns-clause-grows : goal.returns-clause-grows
returns-clause-grows c =
    let first = c.culprit_term in
    let second = grows_both first.new.atoms c.atom.new.atoms c.atom-2.new.atoms first.new.heap c.atom.new.heap c.atom-2.new.heap c.atom.ensures.grows c.atom-2.ensures.grows in
    grows_both c.args.atoms.now first.new.atoms c.compound.new.atoms c.args.heap.now first.new.heap c.compound.new.heap first.ensures.grows
    (grows_both first.new.atoms c.atom-2.new.atoms c.compound.new.atoms first.new.heap c.atom-2.new.heap c.compound.new.heap second c.compound.ensures.grows)
