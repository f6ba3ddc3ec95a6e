-- What the entered equation makes of the told list; one that is refused leaves the table of the mark.
use Rattle.std.proofs.Common.{◌≡◌, [], ◌∷◌, ◌++◌, List, ap, ap₂, sym, subst, ◌∙◌}
use Rattle.spec_linear.specs.Solution.{Constraint}
use Rattle.cq_equations.specs.Contents.{Named, Contents, IsStored}
use Rattle.cq_equations.specs.Entering.{TakesEquation, IsRefused, EnteringPair}
use Rattle.cq_equations.specs.Told.{numbers_of}
use Rattle.cq_equations.proofs.Solved.{solved_form}
use Rattle.cq_equations.proofs.Gained.{told_stored, told_fixed, told_order, told_solvable, told_unsolvable, call_makes, moved_err}
use Rattle.spec_numbers.proofs.Places.{newest}
use Rattle.cq_equations.proofs.store.Store.tell.Goals as goal
use Rattle.cq_equations.proofs.store.Store.tell.Goals.{After-unwrap, After-undo, After-undo-in-Err}

told_is : (c : After-unwrap) → c.push.new.self.items ≡ c.self.inside.told.items ++ c.args.c ∷ []
told_is c = (rw c.unwrap.ensures at c.push.ensures.items) ∙ ap (λ l. l ++ c.args.c ∷ []) c.reserve.ensures.items

entered : (c : After-unwrap) → TakesEquation c.self.inside.table.now c.c.inside.form (numbers_of c.in-Ok-Joined.fixed.items) c.forget.new.self.now
entered c =
    subst (λ t. TakesEquation c.self.inside.table.now c.c.inside.form (numbers_of c.in-Ok-Joined.fixed.items) t) (sym c.forget.ensures.now)
    (subst (λ t. TakesEquation t c.c.inside.form (numbers_of c.in-Ok-Joined.fixed.items) c.enter.new.table.now) c.mark.ensures.now (rw c.in-Ok-Joined.field-0-is at c.in-Ok-Joined.ensures.joined))

undone : (c : After-undo) → c.undo.new.self.now ≡ c.self.inside.table.now
undone c = newest c.self.inside.table.saved c.self.inside.table.now c.in_ok-start.start.number c.in_ok-start.ensures.mark c.enter.new.table.saved (c.enter.ensures.saved ∙ c.in_ok-start.ensures.saved) c.undo.new.self.now c.undo.ensures.now

undone_after_fault : (c : After-undo-in-Err) → c.undo-in-Err.new.self.now ≡ c.self.inside.table.now
undone_after_fault c = newest c.self.inside.table.saved c.self.inside.table.now c.in_ok-start.start.number c.in_ok-start.ensures.mark c.enter.new.table.saved (c.enter.ensures.saved ∙ c.in_ok-start.ensures.saved) c.undo-in-Err.new.self.now c.undo-in-Err.ensures.now

-- the same list and the same table
still_stored : (l told : List Constraint) (old t : Named) → IsStored l old → told ≡ l → t ≡ old → IsStored told t
still_stored l told old t s e f = subst (λ m. IsStored m t) (sym e) (subst (IsStored l) (sym f) s)

pub returns-in_err-reserve-clause-solved : goal.returns-in_err-reserve-clause-solved
returns-in_err-reserve-clause-solved c = solved_form c.reserve.new.self.items c.self.inside.table.now (subst (λ l. IsStored l c.self.inside.table.now) (sym c.reserve.ensures.items) c.self.invariant)

pub returns-in_err-start-clause-solved : goal.returns-in_err-start-clause-solved
returns-in_err-start-clause-solved c = solved_form c.reserve.new.self.items c.mark.new.self.now (still_stored c.self.inside.told.items c.reserve.new.self.items c.self.inside.table.now c.mark.new.self.now c.self.invariant c.reserve.ensures.items c.mark.ensures.now)

pub invariant_of-self-in-Ok-Joined : goal.invariant_of-self-in-Ok-Joined
invariant_of-self-in-Ok-Joined c =
    let k = (goal.at.invariant_of-self-in-Ok-Joined c).After-unwrap in
    told_stored c.self.inside.told.items c.self.inside.table.now c.self.invariant c.args.c c.requires c.c.inside.form (ap (λ (z : Constraint). z.form) c.c.view_is) (numbers_of c.in-Ok-Joined.fixed.items) c.forget.new.self.now (entered k) c.push.new.self.items (told_is k)

pub invariant_of-self-in-Contradiction-1 : goal.invariant_of-self-in-Contradiction-1
invariant_of-self-in-Contradiction-1 c =
    let k = (goal.at.invariant_of-self-in-Contradiction-1 c).After-undo in
    still_stored c.self.inside.told.items c.reserve.new.self.items c.self.inside.table.now c.undo.new.self.now c.self.invariant c.reserve.ensures.items (undone k)

pub invariant_of-self-in-Err-1 : goal.invariant_of-self-in-Err-1
invariant_of-self-in-Err-1 c =
    let k = (goal.at.invariant_of-self-in-Err-1 c).After-undo-in-Err in
    still_stored c.self.inside.told.items c.reserve.new.self.items c.self.inside.table.now c.undo-in-Err.new.self.now c.self.invariant c.reserve.ensures.items (undone_after_fault k)

pub returns-in-Ok-Joined-clause-kept : goal.returns-in-Ok-Joined-clause-kept
returns-in-Ok-Joined-clause-kept c =
    let k = (goal.at.returns-in-Ok-Joined-clause-kept c).After-unwrap in
    (told_solvable c.self.inside.told.items c.self.inside.table.now c.self.invariant c.args.c c.requires c.c.inside.form (ap (λ (z : Constraint). z.form) c.c.view_is) (numbers_of c.in-Ok-Joined.fixed.items) c.forget.new.self.now (entered k) c.push.new.self.items (told_is k), told_is k ∙ ap (λ (z : Contents). z.told ++ c.args.c ∷ []) c.self.view_is)

pub returns-in-Ok-Joined-clause-fixed : goal.returns-in-Ok-Joined-clause-fixed
returns-in-Ok-Joined-clause-fixed c =
    let k = (goal.at.returns-in-Ok-Joined-clause-fixed c).After-unwrap in
    rw (← c.self.view_is) (told_fixed c.self.inside.told.items c.self.inside.table.now c.self.invariant c.args.c c.requires c.c.inside.form (ap (λ (z : Constraint). z.form) c.c.view_is) (numbers_of c.in-Ok-Joined.fixed.items) c.forget.new.self.now (entered k) c.push.new.self.items (told_is k))

pub returns-in-Ok-Joined-clause-order : goal.returns-in-Ok-Joined-clause-order
returns-in-Ok-Joined-clause-order c =
    let k = (goal.at.returns-in-Ok-Joined-clause-order c).After-unwrap in
    rw (← c.self.view_is) (told_order c.self.inside.told.items c.self.inside.table.now c.self.invariant c.args.c c.requires c.c.inside.form (ap (λ (z : Constraint). z.form) c.c.view_is) (numbers_of c.in-Ok-Joined.fixed.items) c.forget.new.self.now (entered k) c.push.new.self.items (told_is k))

pub returns-in-Ok-Joined-clause-solved : goal.returns-in-Ok-Joined-clause-solved
returns-in-Ok-Joined-clause-solved c =
    let k = (goal.at.returns-in-Ok-Joined-clause-solved c).After-unwrap in
    solved_form c.push.new.self.items c.forget.new.self.now (told_stored c.self.inside.told.items c.self.inside.table.now c.self.invariant c.args.c c.requires c.c.inside.form (ap (λ (z : Constraint). z.form) c.c.view_is) (numbers_of c.in-Ok-Joined.fixed.items) c.forget.new.self.now (entered k) c.push.new.self.items (told_is k))

pub returns-in-Ok-Contradiction-clause-unsolvable : goal.returns-in-Ok-Contradiction-clause-unsolvable
returns-in-Ok-Contradiction-clause-unsolvable c =
    let k = (goal.at.returns-in-Ok-Contradiction-clause-unsolvable c).After-undo in
    let r : IsRefused c.mark.new.self.now c.c.inside.form = rw c.in-Ok-Contradiction.field-0-is at c.in-Ok-Contradiction.ensures.contradiction in (
      rw (← c.self.view_is) (told_unsolvable c.self.inside.told.items c.self.inside.table.now c.self.invariant c.args.c c.requires c.c.inside.form (ap (λ (z : Constraint). z.form) c.c.view_is) (subst (λ t. IsRefused t c.c.inside.form) c.mark.ensures.now r)),
      c.empty.ensures,
      ap₂ (λ t n. record { pivots = c.self.inside.pivots; told = t; table = n }) c.reserve.ensures.items (undone k) ∙ c.self.view_is,
    )

pub returns-in-Ok-Contradiction-clause-solved : goal.returns-in-Ok-Contradiction-clause-solved
returns-in-Ok-Contradiction-clause-solved c =
    let k = (goal.at.returns-in-Ok-Contradiction-clause-solved c).After-undo in
    solved_form c.reserve.new.self.items c.undo.new.self.now (still_stored c.self.inside.told.items c.reserve.new.self.items c.self.inside.table.now c.undo.new.self.now c.self.invariant c.reserve.ensures.items (undone k))

pub returns-in-Err-clause-overflow : goal.returns-in-Err-clause-overflow
returns-in-Err-clause-overflow c = λ pair e.
    let p = c.in-Err.ensures.overflow pair (moved_err c.in-Err.fault _ e) in
    let met = subst (λ t. EnteringPair t c.c.inside.form pair.operation pair.left pair.right) c.mark.ensures.now p.0 in
    rw (← c.self.view_is) (call_makes c.self.inside.told.items c.self.inside.table.now c.self.invariant c.args.c c.requires c.c.inside.form (ap (λ (z : Constraint). z.form) c.c.view_is) c.in-Err.ensures.in_order pair met p.1)

pub returns-in-Err-clause-err : goal.returns-in-Err-clause-err
returns-in-Err-clause-err c =
    let k = (goal.at.returns-in-Err-clause-err c).After-undo-in-Err in
    ap₂ (λ t n. record { pivots = c.self.inside.pivots; told = t; table = n }) c.reserve.ensures.items (undone_after_fault k) ∙ c.self.view_is

pub returns-in-Err-clause-solved : goal.returns-in-Err-clause-solved
returns-in-Err-clause-solved c =
    let k = (goal.at.returns-in-Err-clause-solved c).After-undo-in-Err in
    solved_form c.reserve.new.self.items c.undo-in-Err.new.self.now (still_stored c.self.inside.told.items c.reserve.new.self.items c.self.inside.table.now c.undo-in-Err.new.self.now c.self.invariant c.reserve.ensures.items (undone_after_fault k))
