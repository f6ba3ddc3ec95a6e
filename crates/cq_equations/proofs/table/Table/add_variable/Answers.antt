-- The names, the dictionary and the numbers grow by the variable.
use Rattle.std.proofs.Common.{◌≡◌, ◌++◌, ◌∷◌, [], ap, ◌∙◌, refl}
use Rattle.indexmap.specs.IndexMap.{insert_entry}
use Rattle.cq_frac.specs.contracts.VarIdPartialEq.TheImpl.{eq-value}
use Rattle.cq_equations.specs.declared.table.Name.TheVariants.{Variable}
use Rattle.cq_equations.proofs.Keep.{numbered_joins}
use Rattle.cq_equations.proofs.Marks.{saved_more}
use Rattle.cq_equations.proofs.table.Table.add_variable.Goals as goal

pub invariant_of-self-2 : goal.invariant_of-self-2
invariant_of-self-2 c =
    let e : c.push.new.self.items ≡ c.reserve.new.self.items ++ Variable c.args.x ∷ [] = rw c.unwrap.ensures at c.push.ensures.items in
    let g : c.insert.new.self.entries ≡ insert_entry eq-value.it c.reserve-2.new.self.entries c.args.x c.in_ok-number.number = rw c.unwrap-2.ensures at c.insert.ensures.entries in
    numbered_joins (record { names = c.self.inside.names.items; roles = c.self.inside.dict.roles }) c.self.invariant.named c.args.x (rw (← c.self.view_is) at c.requires) eq-value.it (λ y. refl)
    c.in_ok-number.number c.in_ok-number.ensures.number c.self.inside.numbers.entries c.self.invariant.entries_are
    c.push.new.self.items c.add_column.new.self.roles c.insert.new.self.entries
    (e ∙ ap (λ s. s ++ Variable c.args.x ∷ []) c.reserve.ensures.items) c.in_ok-number.ensures.roles (g ∙ ap (λ s. insert_entry eq-value.it s c.args.x c.in_ok-number.number) c.reserve-2.ensures.entries) c.self.inside.dict.saved c.add_column.new.self.saved c.self.invariant.marks c.in_ok-number.ensures.saved

pub returns-clause-saved : goal.returns-clause-saved
returns-clause-saved c =
    let e : c.push.new.self.items ≡ c.reserve.new.self.items ++ Variable c.args.x ∷ [] = rw c.unwrap.ensures at c.push.ensures.items in
    rw (← c.self.view_is) (saved_more c.self.inside.names.items c.self.inside.dict.saved c.self.invariant.marks (Variable c.args.x ∷ []) _ _ (e ∙ ap (λ s. s ++ Variable c.args.x ∷ []) c.reserve.ensures.items) c.in_ok-number.ensures.saved)
