use Rattle.std.proofs.Common.{◌≡◌, ℕ, ◌++◌, ap, ◌∙◌, ◌∷◌, [], length, refl, arith, length-append}
use Rattle.cq_control.specs.declared.continuations.Cell.{Cell}
use Rattle.cq_control.specs.Cells.{lists}
use Rattle.cq_control.specs.Items.{items_at}
use Rattle.cq_control.proofs.Lists.{lists-push, length-lists, cells_pushed}
use Rattle.cq_control.proofs.continuations.Continuations.before.Goals as goal

pub invariant_of-self-2 : goal.invariant_of-self-2
invariant_of-self-2 g c =
    let new : Cell g.row.T.Denot = record { item = c.args.item; rest = c.rest.inside.number } in
    let within = rw (← c.self.view_is, ← c.rest.view_is) at c.requires in
    cells_pushed c.self.inside.cells c.push.new.self new c.in_ok-push.ensures.ok c.push.ensures.saved (omega (arith, within, length-lists c.self.inside.cells.now)) c.self.invariant

pub returns-clause-number : goal.returns-clause-number
returns-clause-number g c =
    let new : Cell g.row.T.Denot = record { item = c.args.item; rest = c.rest.inside.number } in
    let cells = c.self.inside.cells.now in
    let more : length c.push.new.self.now ≡ length (cells ++ new ∷ []) = rw c.in_ok-push.ensures.ok refl in
    rw (← c.self.view_is) (omega (arith, c.len.ensures, more, length-append cells (new ∷ []), length-lists cells))

pub returns-clause-now : goal.returns-clause-now
returns-clause-now g c =
    let new : Cell g.row.T.Denot = record { item = c.args.item; rest = c.rest.inside.number } in
    let cells = c.self.inside.cells.now in
    rw (← c.self.view_is, c.in_ok-push.ensures.ok)
    (lists-push cells new ∙ ap (λ (r : ℕ). lists cells ++ (c.args.item ∷ items_at (lists cells) r) ∷ []) c.rest.view_is)
