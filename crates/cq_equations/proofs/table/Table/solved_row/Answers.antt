-- A variable's row, by its number.
use Rattle.std.proofs.Common.{inl, inr, arith, sym, ◌∙◌, subst}
use Rattle.cq_dict.specs.declared.table.Role.TheVariants.{Live, Dropped, Basic}
use Rattle.cq_dict.specs.Roles.{IsAt}
use Rattle.cq_equations.proofs.Names.{place_below}
use Rattle.cq_equations.proofs.Places.{unknown_unsolved, live_unsolved, dropped_unsolved, row_solved, are_of_variables}
use Rattle.cq_equations.proofs.table.Table.solved_row.Goals as goal

pub returns-in_err-q : goal.returns-in_err-q
returns-in_err-q c =
    c.from_residual.ensures
    ∙ rw (← c.self.view_is) (sym (unknown_unsolved (record { names = c.self.inside.names.items; roles = c.self.inside.dict.roles }) c.self.invariant.named c.args.x.0 (rw (← c.self.view_is) at c.in_err-q.ensures)))

pub is_row-requires : goal.is_row-requires
is_row-requires c =
    let w = rw (← c.self.view_is) at c.in_ok-q.ensures in
    omega (arith, w.1, place_below c.self.inside.names.items c.args.x.0 w.0, c.self.invariant.named.size)

pub returns-then-not-is_row : goal.returns-then-not-is_row
returns-then-not-is_row c =
    let w = rw (← c.self.view_is) at c.in_ok-q.ensures in
    rw (← c.self.view_is)
    (elim c.if-not-is_row.ensures [
      | inl h ↦ sym (live_unsolved (record { names = c.self.inside.names.items; roles = c.self.inside.dict.roles }) c.args.x.0 (subst (λ n. IsAt c.self.inside.dict.roles n Live) w.1 h))
      | inr h ↦ sym (dropped_unsolved (record { names = c.self.inside.names.items; roles = c.self.inside.dict.roles }) c.args.x.0 (subst (λ n. IsAt c.self.inside.dict.roles n Dropped) w.1 h))
    ])

pub invariant_of-result : goal.invariant_of-result
invariant_of-result c =
    let r = c.if-not-is_row.ensures in
    rw (c.deref.ensures.value, c.row.ensures.entries r.0 r.1)
    (are_of_variables (record { names = c.self.inside.names.items; roles = c.self.inside.dict.roles }) c.self.invariant.named 0 r.0.live (c.self.invariant.named.table.rows c.in_ok-q.q r.0 r.1).live_row)

pub returns : goal.returns
returns c =
    let r = c.if-not-is_row.ensures in
    let w = rw (← c.self.view_is) at c.in_ok-q.ensures in
    rw (← c.self.view_is, c.deref.ensures.value, c.row.ensures.entries r.0 r.1, c.constant.ensures r.0 r.1)
    (sym (row_solved (record { names = c.self.inside.names.items; roles = c.self.inside.dict.roles }) c.args.x.0 r.0 (subst (λ n. IsAt c.self.inside.dict.roles n (Basic r.0)) w.1 r.1)))
