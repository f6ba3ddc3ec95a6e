use Rattle.std.proofs.Common.{length, sym, ◌∙◌}
use Rattle.cq_term.specs.Texts.{text_of}
use Rattle.cq_term.specs.Meaning.{at}
use Rattle.cq_term.proofs.Named.{name_below, functor_below}
use Rattle.cq_built.proofs.Trees.{known_at}
use Rattle.cq_goals.proofs.DeclarationsHeads.{atom_indicator, compound_indicator}
use Rattle.cq_engine.proofs.Raised.{variable_nameless, number_nameless}
use Rattle.cq_engine.proofs.events.raiser.raiser_of.Goals as goal

pub returns-in-Name-clause-raised : goal.returns-in-Name-clause-raised
returns-in-Name-clause-raised c =
    atom_indicator (text_of c.args.atoms.now) (at c.args.heap.now.now.terms c.args.goal) c.in-Name.name (sym c.view.ensures.view ∙ c.in-Name.is)

pub returns-in-Name-clause-numbered : goal.returns-in-Name-clause-numbered
returns-in-Name-clause-numbered c =
    let texts = c.args.atoms.now in
    let ts = c.args.heap.now.now.terms in
    name_below (length texts) (at ts c.args.goal) c.in-Name.name (sym c.view.ensures.view ∙ c.in-Name.is) (known_at texts ts c.args.goal c.requires.names c.requires.live)

pub returns-in-Compound-clause-raised : goal.returns-in-Compound-clause-raised
returns-in-Compound-clause-raised c =
    compound_indicator (text_of c.args.atoms.now) (at c.args.heap.now.now.terms c.args.goal) c.in-Compound.name c.in-Compound.arity (sym c.view.ensures.view ∙ c.in-Compound.is)

pub returns-in-Compound-clause-numbered : goal.returns-in-Compound-clause-numbered
returns-in-Compound-clause-numbered c =
    let texts = c.args.atoms.now in
    let ts = c.args.heap.now.now.terms in
    functor_below (length texts) (at ts c.args.goal) c.in-Compound.name c.in-Compound.arity (sym c.view.ensures.view ∙ c.in-Compound.is)
    (known_at texts ts c.args.goal c.requires.names c.requires.live)

pub returns-in-Var-clause-raised : goal.returns-in-Var-clause-raised
returns-in-Var-clause-raised c =
    variable_nameless (text_of c.args.atoms.now) (at c.args.heap.now.now.terms c.args.goal) c.in-Var.field-0 (sym c.view.ensures.view ∙ c.in-Var.is)

pub returns-in-Number-clause-raised : goal.returns-in-Number-clause-raised
returns-in-Number-clause-raised c =
    number_nameless (text_of c.args.atoms.now) (at c.args.heap.now.now.terms c.args.goal) c.in-Number.field-0 (sym c.view.ensures.view ∙ c.in-Number.is)
