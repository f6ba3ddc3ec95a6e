use Rattle.std.proofs.Common.{◌≡◌, ◌∷◌, ◌∙◌, [], ap, subst, sym}
use Rattle.spec_terms.specs.Term.{Var, Name, named}
use Rattle.spec_builtins.specs.Alternatives.{◌≐◌, one_way}
use Rattle.spec_builtins.specs.Texts.{atom_list_row}
use Rattle.cq_term.specs.Texts.{text_of}
use Rattle.cq_term.specs.Trees.{tree}
use Rattle.cq_built.specs.Errors.{Explains}
use Rattle.cq_built.proofs.Trees.{kept}
use Rattle.cq_predicates.specs.Elements.{kind_of}
use Rattle.cq_predicates.proofs.codes.lists.put_together.Goals as goal

pub returns-in_ok-right-in-Ok-clause-offered : goal.returns-in_ok-right-in-Ok-clause-offered
returns-in_ok-right-in-Ok-clause-offered c =
    let texts = c.args.atoms.now in
    let ts = c.args.heap.now.now.terms in
    let v = c.requires.unbound.0 in
    let unbound : tree texts ts c.args.text ≡ Var v = ap (named (text_of texts)) c.requires.unbound.1 in
    let left = kept texts c.atom.new.atoms c.args.heap.now c.atom.new.heap c.in_ok-right-in-Ok.ensures.grows c.requires.names c.args.text c.requires.text ∙ unbound in
    let right = c.in_ok-right-in-Ok.ensures.built ∙ ap (λ w. Name w) c.deref.ensures in
    ap (λ t. atom_list_row (kind_of c.args.kind) t (tree texts ts c.args.list)) unbound ∙ c.in-Ok.ensures.made v ∙ (λ i. one_way ((sym left i ≐ sym right i) ∷ []))

pub returns-in-Err-clause-fault : goal.returns-in-Err-clause-fault
returns-in-Err-clause-fault c =
    let texts = c.args.atoms.now in
    let ts = c.args.heap.now.now.terms in
    subst (λ t. Explains texts ts (atom_list_row (kind_of c.args.kind) t (tree texts ts c.args.list)) c.in-Err.fault)
    (sym (ap (named (text_of texts)) c.requires.unbound.1)) (c.in-Err.ensures.fault c.requires.unbound.0)
