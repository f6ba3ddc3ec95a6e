use Rattle.std.proofs.Common.{Bool, sym, ap, ◌∙◌}
use Rattle.cq_branch.specs.Lists.{put_cell}
use Rattle.cq_engine.proofs.events.engine.cell_of.Goals as goal

pub returns-then-is_callable : goal.returns-then-is_callable
returns-then-is_callable c = λ texts. ap (λ (b : Bool). put_cell b c.args.goal 0) (sym c.if-is_callable.true ∙ c.is_callable.ensures texts)

pub returns-else-is_callable : goal.returns-else-is_callable
returns-else-is_callable c = λ texts. ap (λ (b : Bool). put_cell b c.args.goal 0) (sym c.if-is_callable.false ∙ c.is_callable.ensures texts)
