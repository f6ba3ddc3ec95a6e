use Rattle.std.proofs.Common.{◌∙◌, length, sym, ap}
use Rattle.spec_search.specs.Replies.{Raises}
use Rattle.cq_term.specs.Texts.{text_of}
use Rattle.cq_built.specs.Errors.{error_tree}
use Rattle.cq_built.specs.declared.errors.BuiltinError.{BuiltinError}
use Rattle.cq_built.proofs.Trees.{known_at}
use Rattle.cq_goals.proofs.DeclarationsHeads.{atom_indicator, compound_indicator}
use Rattle.cq_term.specs.Meaning.{at}
use Rattle.cq_term.proofs.Named.{name_below, functor_below}
use Rattle.cq_execute.proofs.Heads.{variable_raises, number_raises, name_callable, compound_callable}
use Rattle.cq_execute.proofs.execution.predicate_of.Goals as goal

pub returns-in-Var-clause-error : goal.returns-in-Var-clause-error
returns-in-Var-clause-error c = λ p.
    variable_raises (text_of c.args.atoms.now) p (at c.args.heap.now.now.terms c.args.goal) c.in-Var.field-0 (sym c.view.ensures.view ∙ c.in-Var.is)

pub returns-in-Number-clause-error : goal.returns-in-Number-clause-error
returns-in-Number-clause-error c = λ p.
    number_raises (text_of c.args.atoms.now) p (at c.args.heap.now.now.terms c.args.goal) c.in-Number.field-0 (sym c.view.ensures.view ∙ c.in-Number.is)
    ∙ ap (λ (e : BuiltinError). Raises (error_tree c.args.atoms.now c.args.heap.now.now.terms e)) (sym c.not_callable.ensures)

pub returns-in-Name-clause-callable : goal.returns-in-Name-clause-callable
returns-in-Name-clause-callable c = name_callable (text_of c.args.atoms.now) (at c.args.heap.now.now.terms c.args.goal) c.in-Name.name (sym c.view.ensures.view ∙ c.in-Name.is)

pub returns-in-Name-clause-predicate : goal.returns-in-Name-clause-predicate
returns-in-Name-clause-predicate c =
    let texts = c.args.atoms.now in
    let ts = c.args.heap.now.now.terms in
    let shown = sym c.view.ensures.view ∙ c.in-Name.is in
    record {
      indicator = atom_indicator (text_of texts) (at ts c.args.goal) c.in-Name.name shown;
      known = name_below (length texts) (at ts c.args.goal) c.in-Name.name shown (known_at texts ts c.args.goal c.requires.names c.requires.live);
    }

pub returns-in-Compound-clause-callable : goal.returns-in-Compound-clause-callable
returns-in-Compound-clause-callable c =
    compound_callable (text_of c.args.atoms.now) (at c.args.heap.now.now.terms c.args.goal) c.in-Compound.name c.in-Compound.arity (sym c.view.ensures.view ∙ c.in-Compound.is)

pub returns-in-Compound-clause-predicate : goal.returns-in-Compound-clause-predicate
returns-in-Compound-clause-predicate c =
    let texts = c.args.atoms.now in
    let ts = c.args.heap.now.now.terms in
    let shown = sym c.view.ensures.view ∙ c.in-Compound.is in
    record {
      indicator = compound_indicator (text_of texts) (at ts c.args.goal) c.in-Compound.name c.in-Compound.arity shown;
      known = functor_below (length texts) (at ts c.args.goal) c.in-Compound.name c.in-Compound.arity shown (known_at texts ts c.args.goal c.requires.names c.requires.live);
    }
