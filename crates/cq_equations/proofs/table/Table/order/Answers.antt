-- The keys are the variables in the order of their numbers.
use Rattle.std.proofs.Common.{ap, ◌∙◌}
use Rattle.std.specs.Map.{keys_of}
use Rattle.cq_equations.specs.Told.{numbers_of}
use Rattle.cq_equations.proofs.Numbers.{numbers-order}
use Rattle.cq_equations.proofs.table.Table.order.Goals as goal

pub returns : goal.returns
returns c =
    rw (← c.self.view_is)
    (ap numbers_of (c.as_slice.ensures ∙ c.keys.ensures.rest) ∙ ap (λ s. numbers_of (keys_of s)) c.self.invariant.entries_are ∙ numbers-order 0 c.self.inside.names.items)
