use Rattle.std.proofs.Common.{◌∷◌, sym, ap, ◌∙◌}
use Rattle.cq_control.specs.Open.{open_choices}
use Rattle.cq_settle.specs.Contents.{Contents}
use Rattle.spec_engine.specs.Cells.{Value}
use Rattle.cq_branch.specs.declared.alternatives.Alternatives.TheVariants.{One}
use Rattle.cq_branch.specs.Worlds.{value, saved_values}
use Rattle.cq_branch.proofs.Done.{stack_pushed}
use Rattle.cq_branch.proofs.cells.leave.Goals as goal

pub returns-clause-stack : goal.returns-clause-stack
returns-clause-stack c = λ texts v.
    stack_pushed texts v (saved_values c.args.world.now.first c.args.world.now.second.saved) (saved_values c.push.new.world.first c.push.new.world.second.saved)
    c.args.choices.now c.push.new.self (value c.args.world.now.first c.args.world.now.second.now) c.args.k c.in_ok-push.ensures.open

pub returns-clause-choices : goal.returns-clause-choices
returns-clause-choices c = (
  c.args.k,
  c.in_ok-push.ensures.open
      ∙ ap (λ (w : Value Contents). (w, One c.args.k) ∷ open_choices (saved_values c.args.world.now.first c.args.world.now.second.saved) c.args.choices.now) (sym c.in_ok-push.ensures.now),
)
