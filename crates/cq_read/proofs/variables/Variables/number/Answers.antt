use Rattle.std.proofs.Common.{sym, ◌∙◌, length}
use Rattle.cq_read.specs.Names.{variables}
use Rattle.cq_read.proofs.Lookups.{next_known, known_unbound}
use Rattle.cq_read.proofs.variables.Variables.number.Goals as goal

pub add-requires-clause-new : goal.add-requires-clause-new
add-requires-clause-new c = sym (c.known.ensures (length c.args.heap.now.now.images)) ∙ c.in-None.is

pub returns-in-Some-clause-number : goal.returns-in-Some-clause-number
returns-in-Some-clause-number c =
    sym (next_known (variables c.args.self.now c.args.heap.now.now.images) c.args.name.now c.in-Some.number (sym (c.known.ensures (length c.args.heap.now.now.images)) ∙ c.in-Some.is)).0

pub returns-in-Some-clause-variables : goal.returns-in-Some-clause-variables
returns-in-Some-clause-variables c =
    sym (next_known (variables c.args.self.now c.args.heap.now.now.images) c.args.name.now c.in-Some.number (sym (c.known.ensures (length c.args.heap.now.now.images)) ∙ c.in-Some.is)).1

pub returns-in-Some-clause-unbound : goal.returns-in-Some-clause-unbound
returns-in-Some-clause-unbound c =
    known_unbound c.args.heap.now.now.images c.args.self.now c.args.name.now c.in-Some.number c.requires (sym (c.known.ensures (length c.args.heap.now.now.images)) ∙ c.in-Some.is)
