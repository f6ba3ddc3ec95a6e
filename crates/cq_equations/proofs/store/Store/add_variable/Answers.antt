-- The table with the variable still speaks of the told list.
use Rattle.std.proofs.Common.{◌∷◌, [], ap, ap₂, sym, subst, ◌∙◌}
use Rattle.cq_equations.specs.declared.table.Name.TheVariants.{Variable}
use Rattle.cq_equations.specs.Contents.{IsStored, variables_of, solved_in}
use Rattle.cq_equations.proofs.Names.{variables_of-append}
use Rattle.cq_equations.proofs.Variables.{variable_joins}
use Rattle.cq_equations.proofs.Keep.{variable_solved}
use Rattle.cq_equations.proofs.store.Store.add_variable.Goals as goal

pub invariant_of-self-2 : goal.invariant_of-self-2
invariant_of-self-2 c =
    subst (IsStored c.self.inside.told.items) (sym (ap₂ (λ n s. record { names = n; roles = s }) c.in_ok-add_variable.ensures.names c.in_ok-add_variable.ensures.roles))
    (variable_joins c.self.inside.table.now c.self.invariant.named c.args.x (rw (← c.self.view_is) at c.requires) c.self.inside.told.items c.self.invariant)

pub returns-clause-order : goal.returns-clause-order
returns-clause-order c = rw (← c.self.view_is) (ap variables_of c.in_ok-add_variable.ensures.names ∙ variables_of-append c.self.inside.table.now.names (Variable c.args.x ∷ []))

pub returns-clause-solved : goal.returns-clause-solved
returns-clause-solved c = λ y.
    rw (← c.self.view_is)
    (ap (λ t. solved_in t y) (ap₂ (λ n s. record { names = n; roles = s }) c.in_ok-add_variable.ensures.names c.in_ok-add_variable.ensures.roles)
    ∙ variable_solved c.self.inside.table.now c.self.invariant.named c.args.x (rw (← c.self.view_is) at c.requires) y)
