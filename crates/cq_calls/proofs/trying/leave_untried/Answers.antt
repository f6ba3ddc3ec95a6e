use Rattle.std.proofs.Common.{List, [], ◌∷◌, ◌<◌, ◌≡◌, ◌-◌, length, refl, ap, arith, subst}
use Rattle.cq_clauses.specs.Walks.{HasNoneLeft}
use Rattle.cq_control.specs.Open.{open_choices}
use Rattle.cq_branch.specs.Worlds.{saved_values}
use Rattle.cq_branch.specs.declared.alternatives.Alternatives.{Alternatives}
use Rattle.cq_calls.proofs.Left.{cut_away, length-opened, put_newest}
use Rattle.cq_calls.proofs.trying.leave_untried.Goals as goal

-- there is a newest choice
first_of : (xs : List Alternatives) → 0 < length xs → (x : Alternatives) × (older : List Alternatives) × (xs ≡ x ∷ older)
first_of [] l = absurd (omega (arith, l))
first_of (x ∷ xs) l = (x, xs, refl)

pub returns-then-is_empty-clause-leaves : goal.returns-then-is_empty-clause-leaves
returns-then-is_empty-clause-leaves c =
    let saved = saved_values c.args.world.now.first c.args.world.now.second.saved in
    let first = first_of c.args.choices.now c.requires.some in
    cut_away c.args.others c.args.left.now (open_choices saved c.args.choices.now) (open_choices (saved_values c.cut.new.world.first c.cut.new.world.second.saved) c.cut.new.self)
    (c.height-newest.result - 1) (subst (λ b. HasNoneLeft b c.args.left.now) c.if-is_empty.true c.is_empty.ensures)
    (omega (arith, length-opened saved c.args.choices.now c.requires.marked, ap length first.2, c.height-newest.ensures))
    c.cut.ensures.open

pub returns-else-is_empty-clause-leaves : goal.returns-else-is_empty-clause-leaves
returns-else-is_empty-clause-leaves c =
    let changed = c.renew.ensures in
    put_newest c.args.others c.args.left.now (saved_values c.args.world.now.first c.args.world.now.second.saved) c.args.choices.now c.renew.new.self changed.1 changed.0
    (subst (λ b. HasNoneLeft b c.args.left.now) c.if-is_empty.false c.is_empty.ensures) c.requires.marked changed.2 changed.3
