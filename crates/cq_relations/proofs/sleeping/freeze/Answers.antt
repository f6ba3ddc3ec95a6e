use Rattle.std.proofs.Common.{List, Some, sym, subst, ◌∙◌}
use Rattle.spec_numbers.specs.Texts.{Text}
use Rattle.spec_search.specs.Constraints.{freeze_row}
use Rattle.cq_attr.specs.Attributes.{Attributes}
use Rattle.cq_settle.specs.Ready.{with_attributes}
use Rattle.cq_term.specs.Meaning.{at}
use Rattle.cq_settle.specs.Worlds.{now_of}
use Rattle.cq_branch.specs.Worlds.{Leads}
use Rattle.cq_relations.specs.Goals.{AtBoth}
use Rattle.cq_relations.proofs.Asleep.{goes_to_sleep, is_called, variable_is}
use Rattle.cq_relations.proofs.sleeping.freeze.Goals as goal

pub returns-in_ok-suspend-in-Var-clause-row : goal.returns-in_ok-suspend-in-Var-clause-row
returns-in_ok-suspend-in-Var-clause-row c = λ texts.
    let w = now_of c.args.world.now in
    let lists = c.args.lists.now.now in
    let e = sym c.view.ensures.view ∙ c.in-Var.is in
    subst (λ (a : Attributes). AtBoth texts (w, lists) c.args.variable c.args.goal c.args.rest
    (λ choices p behind x g. Leads texts choices (with_attributes w a, lists) (Some c.args.rest) p behind (freeze_row p x g))) (sym c.in_ok-suspend-in-Var.ensures.ok)
    (goes_to_sleep texts w lists c.args.variable c.args.goal c.args.rest c.in-Var.unbound e
    (c.view.ensures.unbound c.in-Var.unbound.0 (variable_is (at c.args.world.now.heap.now.terms c.args.variable) c.in-Var.unbound e)))

pub returns-in_ok-k-in_default-clause-row : goal.returns-in_ok-k-in_default-clause-row
returns-in_ok-k-in_default-clause-row c = λ texts.
    is_called texts (now_of c.args.world.now) c.args.lists.now.now c.args.variable c.args.goal c.args.rest c.call_before.new.lists.now c.in_ok-k-in_default.k
    c.in_ok-k-in_default.ensures.cells (λ v e. c.in_default.not-Var v (c.view.ensures.view ∙ e))
