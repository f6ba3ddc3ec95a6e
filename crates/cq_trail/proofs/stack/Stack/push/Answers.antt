use Rattle.cq_trail.proofs.Cut.{stack_push, cuts_push}
use Rattle.cq_trail.proofs.stack.Stack.push.Goals as goal

pub invariant_of-self-2 : goal.invariant_of-self-2
invariant_of-self-2 g c = rw c.in_ok-push.ensures.items (stack_push c.self.inside.items.items c.self.inside.marks.items c.self.invariant c.args.value)

pub returns-clause-saved : goal.returns-clause-saved
returns-clause-saved g c = rw (← c.self.view_is, c.in_ok-push.ensures.items) (cuts_push c.self.inside.items.items c.self.inside.marks.items c.self.invariant c.args.value)
