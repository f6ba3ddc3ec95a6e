-- The dictionary's last row is of the form, and the last name is that of a member.
use Rattle.std.proofs.Common.{◌≡◌, [], ◌∷◌, ◌++◌, ap, subst, ◌∙◌}
use Rattle.cq_frac.specs.Rows as row
use Rattle.cq_equations.specs.declared.table.Name.TheVariants.{Member}
use Rattle.cq_equations.proofs.Fresh.{placed_below}
use Rattle.cq_equations.proofs.Keep.{member_numbered, member_added}
use Rattle.cq_equations.proofs.Marks.{saved_more}
use Rattle.cq_equations.proofs.table.Table.add_member.Goals as goal

pub add_row-requires : goal.add_row-requires
add_row-requires c = λ m h.
    placed_below (record { names = c.self.inside.names.items; roles = c.self.inside.dict.roles }) c.self.invariant.named c.args.form.now.products (rw (← c.self.view_is) at c.requires) m
    (subst (row.Has m) (c.deref.ensures.value ∙ (rw (← c.self.view_is) at c.in_ok-entries.ensures)) h)

pub invariant_of-self-2 : goal.invariant_of-self-2
invariant_of-self-2 c =
    let e : c.push.new.self.items ≡ c.reserve.new.self.items ++ Member ∷ [] = rw c.unwrap.ensures at c.push.ensures.items in
    let a = c.in_ok-add_row.ensures.roles in
    member_numbered (record { names = c.self.inside.names.items; roles = c.self.inside.dict.roles }) c.self.inside.numbers.entries c.self.inside.dict.saved c.self.invariant c.push.new.self.items c.add_row.new.self.roles a.row
    (e ∙ ap (λ s. s ++ Member ∷ []) c.reserve.ensures.items) a.last c.in_ok-add_row.ensures.table c.add_row.new.self.saved c.in_ok-add_row.ensures.saved

pub returns-clause-added : goal.returns-clause-added
returns-clause-added c =
    let e : c.push.new.self.items ≡ c.reserve.new.self.items ++ Member ∷ [] = rw c.unwrap.ensures at c.push.ensures.items in
    rw (← c.self.view_is)
    (member_added (record { names = c.self.inside.names.items; roles = c.self.inside.dict.roles }) c.args.form.now c.push.new.self.items c.add_row.new.self.roles c.deref.result.now c.constant.result
    (e ∙ ap (λ s. s ++ Member ∷ []) c.reserve.ensures.items) (c.deref.ensures.value ∙ (rw (← c.self.view_is) at c.in_ok-entries.ensures)) c.constant.ensures c.in_ok-add_row.ensures.roles)

pub returns-clause-saved : goal.returns-clause-saved
returns-clause-saved c =
    let e : c.push.new.self.items ≡ c.reserve.new.self.items ++ Member ∷ [] = rw c.unwrap.ensures at c.push.ensures.items in
    rw (← c.self.view_is) (saved_more c.self.inside.names.items c.self.inside.dict.saved c.self.invariant.marks (Member ∷ []) _ _ (e ∙ ap (λ s. s ++ Member ∷ []) c.reserve.ensures.items) c.in_ok-add_row.ensures.saved)
