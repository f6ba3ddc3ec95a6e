use Rattle.std.proofs.Common.{sym, ◌∙◌}
use Rattle.cq_term.specs.Meaning.{at}
use Rattle.cq_machine.proofs.Whole.{shows_name, shows_functor, shows_variable, shows_number}
use Rattle.cq_machine.proofs.selected.calls.name_of.Goals as goal

pub returns-in-Var-clause-none : goal.returns-in-Var-clause-none
returns-in-Var-clause-none c = shows_variable (at c.args.heap.now.now.terms c.args.id) c.in-Var.field-0 (sym c.view.ensures.view ∙ c.in-Var.is)

pub returns-in-Number-clause-none : goal.returns-in-Number-clause-none
returns-in-Number-clause-none c = shows_number (at c.args.heap.now.now.terms c.args.id) c.in-Number.field-0 (sym c.view.ensures.view ∙ c.in-Number.is)

pub returns-in-Name-clause-some : goal.returns-in-Name-clause-some
returns-in-Name-clause-some c = shows_name (at c.args.heap.now.now.terms c.args.id) c.in-Name.name (sym c.view.ensures.view ∙ c.in-Name.is)

pub returns-in-Compound-clause-some : goal.returns-in-Compound-clause-some
returns-in-Compound-clause-some c = shows_functor (at c.args.heap.now.now.terms c.args.id) c.in-Compound.name c.in-Compound.field-1 (sym c.view.ensures.view ∙ c.in-Compound.is)
