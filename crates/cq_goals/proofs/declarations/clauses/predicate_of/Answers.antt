use Rattle.std.proofs.Common.{◌∙◌, Some, length, sym, ap}
use Rattle.cq_term.specs.Texts.{text_of}
use Rattle.cq_term.specs.Meaning.{at}
use Rattle.cq_term.proofs.Named.{name_below, functor_below}
use Rattle.cq_built.specs.Errors.{error_tree}
use Rattle.cq_built.proofs.Trees.{known_at}
use Rattle.cq_goals.proofs.DeclarationsHeads.{atom_indicator, compound_indicator}
use Rattle.cq_goals.proofs.Bodies.{head_is_atom, head_is_compound, head_is_number, head_is_unbound}
use Rattle.cq_goals.proofs.declarations.clauses.predicate_of.Goals as goal

pub returns-in-Var-clause-error : goal.returns-in-Var-clause-error
returns-in-Var-clause-error c = head_is_unbound (text_of c.args.atoms.now) (at c.args.heap.now.now.terms c.args.head) c.in-Var.field-0 (sym c.view.ensures.view ∙ c.in-Var.is)

pub returns-in-Number-clause-error : goal.returns-in-Number-clause-error
returns-in-Number-clause-error c =
    let texts = c.args.atoms.now in
    let ts = c.args.heap.now.now.terms in
    head_is_number (text_of texts) (at ts c.args.head) c.in-Number.field-0 (sym c.view.ensures.view ∙ c.in-Number.is) ∙ ap (λ e. Some (error_tree texts ts e)) (sym c.not_callable.ensures)

pub returns-in-Name-clause-lawful : goal.returns-in-Name-clause-lawful
returns-in-Name-clause-lawful c = head_is_atom (text_of c.args.atoms.now) (at c.args.heap.now.now.terms c.args.head) c.in-Name.name (sym c.view.ensures.view ∙ c.in-Name.is)

pub returns-in-Name-clause-predicate : goal.returns-in-Name-clause-predicate
returns-in-Name-clause-predicate c =
    let texts = c.args.atoms.now in
    let ts = c.args.heap.now.now.terms in
    let shown = sym c.view.ensures.view ∙ c.in-Name.is in
    record {
      indicator = atom_indicator (text_of texts) (at ts c.args.head) c.in-Name.name shown;
      known = name_below (length texts) (at ts c.args.head) c.in-Name.name shown (known_at texts ts c.args.head c.requires.names c.requires.live);
    }

pub returns-in-Compound-clause-lawful : goal.returns-in-Compound-clause-lawful
returns-in-Compound-clause-lawful c = head_is_compound (text_of c.args.atoms.now) (at c.args.heap.now.now.terms c.args.head) c.in-Compound.name c.in-Compound.arity (sym c.view.ensures.view ∙ c.in-Compound.is)

pub returns-in-Compound-clause-predicate : goal.returns-in-Compound-clause-predicate
returns-in-Compound-clause-predicate c =
    let texts = c.args.atoms.now in
    let ts = c.args.heap.now.now.terms in
    let shown = sym c.view.ensures.view ∙ c.in-Compound.is in
    record {
      indicator = compound_indicator (text_of texts) (at ts c.args.head) c.in-Compound.name c.in-Compound.arity shown;
      known = functor_below (length texts) (at ts c.args.head) c.in-Compound.name c.in-Compound.arity shown (known_at texts ts c.args.head c.requires.names c.requires.live);
    }
