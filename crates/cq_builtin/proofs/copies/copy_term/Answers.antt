use Rattle.std.proofs.Common.{◌≡◌, ◌∷◌, ◌∙◌, ◌++◌, [], length, refl, ap, sym}
use Rattle.spec_numbers.proofs.Prefixes.{prefix_same}
use Rattle.spec_terms.specs.Term.{apply, named}
use Rattle.spec_terms.specs.Variables.{variables, renamed_from}
use Rattle.spec_terms.proofs.RenamedVariables.{variables_named, renamed_named}
use Rattle.spec_builtins.specs.Alternatives.{Offers, ◌≐◌}
use Rattle.cq_term.specs.Texts.{text_of}
use Rattle.cq_term.specs.Meaning.{at}
use Rattle.cq_term.specs.Trees.{tree}
use Rattle.cq_unify.specs.Copied.{unbound_from}
use Rattle.cq_resolve.specs.Building.{moved_by}
use Rattle.cq_built.proofs.Growing.{grows_names}
use Rattle.cq_built.proofs.Trees.{tree_kept, known_at}
use Rattle.cq_builtin.proofs.Over.{grows_alone, renamed_moved}
use Rattle.cq_builtin.proofs.copies.copy_term.Goals as goal

pub returns-in_err-right-clause-grows : goal.returns-in_err-right-clause-grows
returns-in_err-right-clause-grows c =
    let texts = c.args.atoms.now in
    grows_alone texts c.args.heap.now c.restore.new.heap
    (grows_names texts texts c.args.heap.now c.restore.new.heap (prefix_same texts texts refl) c.in_err-right.ensures.err c.in_err-right.ensures.saved c.in_err-right.ensures.room)

pub returns-clause-offered : goal.returns-clause-offered
returns-clause-offered c =
    let texts = c.args.atoms.now in
    let ts = c.args.heap.now.now.terms in
    let us = c.restore.new.heap.now.terms in
    let n = length c.args.heap.now.now.images in
    let t = at ts c.args.original in
    let left = tree_kept texts texts ts us (prefix_same texts texts refl) c.in_ok-right.ensures.terms c.requires.names c.args.copy c.requires.copy in
    let moved =
    c.in_ok-right.ensures.moved ∙ ap (apply (moved_by n)) c.in_ok-stored.ensures.renamed ∙ renamed_moved n t in
    let right : tree texts us c.in_ok-right.right ≡ renamed_from n (tree texts ts c.args.original) = ap (named (text_of texts)) moved ∙ renamed_named (text_of texts) n t in
    let count = c.in_ok-stored.ensures.variables ∙ sym (ap length (variables_named (text_of texts) t)) in
    record {
      count = length (variables (tree texts ts c.args.original));
      offered = λ i. Offers (record { new = length (variables (tree texts ts c.args.original)); equations = (sym left i ≐ sym right i) ∷ [] } ∷ []);
      images = c.in_ok-right.ensures.images ∙ ap (λ k. c.args.heap.now.now.images ++ unbound_from n k) count;
    }

pub returns-clause-grows : goal.returns-clause-grows
returns-clause-grows c =
    let texts = c.args.atoms.now in
    let ts = c.args.heap.now.now.terms in
    record {
      terms = c.in_ok-right.ensures.terms;
      images = (unbound_from (length c.args.heap.now.now.images) c.in_ok-stored.stored.variables, c.in_ok-right.ensures.images);
      names = λ all.
          c.in_ok-right.ensures.names (length texts) (c.in_ok-stored.ensures.names (length texts) (known_at texts ts c.args.original all c.requires.original)) all;
      saved = c.in_ok-right.ensures.saved;
      room = c.in_ok-right.ensures.room;
    }
