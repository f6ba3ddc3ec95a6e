use Rattle.std.proofs.Common.{◌<◌, ◌∙◌, map, length, refl, ap}
use Rattle.std.proofs.lemmas.List.Elements.{All-same}
use Rattle.spec_numbers.proofs.Prefixes.{prefix_same}
use Rattle.spec_terms.specs.Term.{named, with_arguments}
use Rattle.spec_terms.specs.Variables.{counted_from}
use Rattle.cq_term.specs.Texts.{text_of}
use Rattle.cq_term.specs.Meaning.{at}
use Rattle.cq_unify.specs.Copied.{unbound_from}
use Rattle.cq_built.proofs.Growing.{grows_names, grows_term}
use Rattle.cq_built.proofs.Trees.{tree_last, named-with_arguments, over_known}
use Rattle.cq_builtin.specs.Over.{GrowsWithVariables}
use Rattle.cq_builtin.proofs.Over.{grows_alone, grows_then, variables_there, named-variables}
use Rattle.cq_builtin.proofs.functors.over_variables.Goals as goal
use Rattle.cq_builtin.proofs.functors.over_variables.Goals.{In_ok-first}

first_grows : (c : In_ok-first) → GrowsWithVariables c.args.atoms.now c.args.heap.now c.new_variables.new.heap
first_grows c = record {
  terms = c.in_ok-first.ensures.terms;
  images = (unbound_from (length c.args.heap.now.now.images) c.args.count, c.in_ok-first.ensures.images);
  names = c.in_ok-first.ensures.names (length c.args.atoms.now);
  saved = c.in_ok-first.ensures.saved;
  room = c.in_ok-first.ensures.room;
}

pub returns-in_err-id-clause-grows : goal.returns-in_err-id-clause-grows
returns-in_err-id-clause-grows c =
    let texts = c.args.atoms.now in
    grows_then texts c.args.heap.now c.new_variables.new.heap c.compound.new.self (first_grows (goal.at.returns-in_err-id-clause-grows c).In_ok-first)
    (grows_alone texts c.new_variables.new.heap c.compound.new.self
    (grows_names texts texts c.new_variables.new.heap c.compound.new.self (prefix_same texts texts refl) c.in_err-id.ensures.err c.in_err-id.ensures.saved c.in_err-id.ensures.room))

pub returns-clause-built : goal.returns-clause-built
returns-clause-built c =
    let texts = c.args.atoms.now in
    let ts = c.new_variables.new.heap.now.terms in
    let name = text_of texts c.args.functor in
    let ids = c.deref.result.now in
    let variables =
    ap (map (at ts)) c.deref.ensures.value ∙ c.in_ok-args.ensures.terms
    ∙ variables_there c.args.heap.now.now.images c.new_variables.new.heap.now.images c.in_ok-first.first c.args.count c.in_ok-first.ensures.images c.in_ok-first.ensures.first in
    tree_last texts ts c.compound.new.self.now.terms (with_arguments c.args.functor (map (at ts) ids)) c.in_ok-id.id c.in_ok-id.ensures.terms c.in_ok-id.ensures.id
    ∙ named-with_arguments (text_of texts) c.args.functor (map (at ts) ids)
    ∙ ap (λ us. with_arguments name (map (named (text_of texts)) us)) variables
    ∙ ap (with_arguments name) (named-variables (text_of texts) (counted_from (length c.args.heap.now.now.images) c.args.count))

pub returns-clause-grows : goal.returns-clause-grows
returns-clause-grows c =
    let texts = c.args.atoms.now in
    let mid = c.new_variables.new.heap in
    let ids = c.deref.result.now in
    let live = All-same (λ i. i < length mid.now.terms) ids c.in_ok-args.args.items c.deref.ensures.value c.in_ok-args.ensures.live in
    grows_then texts c.args.heap.now mid c.compound.new.self (first_grows (goal.at.returns-clause-grows c).In_ok-first)
    (grows_alone texts mid c.compound.new.self
    (grows_term texts texts mid c.compound.new.self (with_arguments c.args.functor (map (at mid.now.terms) ids)) (prefix_same texts texts refl) c.in_ok-id.ensures.terms c.in_ok-id.ensures.images
    (λ known. over_known texts mid.now.terms c.args.functor ids c.requires.functor live known) c.in_ok-id.ensures.saved c.in_ok-id.ensures.room))
