use Rattle.std.proofs.Common.{arith}
use Rattle.spec_branch.specs.Checks.{members}
use Rattle.cq_term.specs.Trees.{tree}
use Rattle.cq_built.proofs.Splitting.{taken_apart_starts, part_live, takes, takes_less, all_found}
use Rattle.cq_goals.proofs.members.members.Goals as goal

pub loop-id-init : goal.loop-id-init
loop-id-init c =
    taken_apart_starts members c.args.atoms.now c.args.heap.now.now.terms c.new-found.result.items c.in_ok-waiting.waiting.items c.args.constraint c.requires.live c.new-found.ensures.items c.in_ok-waiting.ensures.items

pub take_apart-requires-clause-live : goal.take_apart-requires-clause-live
take_apart-requires-clause-live c =
    part_live members c.args.atoms.now c.args.heap.now.now.terms _ c.loop-id.found.items c.loop-id.waiting.items c.pop.new.self.items c.in-Some.id c.loop-id.invariant c.in-Some.ensures.items

pub loop-id-preserved : goal.loop-id-preserved
loop-id-preserved c =
    takes members c.args.atoms.now c.args.heap.now.now.terms _ c.loop-id.found.items c.loop-id.waiting.items c.pop.new.self.items c.in-Some.id c.loop-id.invariant c.in-Some.ensures.items
    c.take_apart.new.found.items c.take_apart.new.waiting.items c.in_ok-take_apart.ensures

pub loop-id-smaller : goal.loop-id-smaller
loop-id-smaller c =
    takes_less members c.args.atoms.now c.args.heap.now.now.terms _ c.loop-id.found.items c.loop-id.waiting.items c.pop.new.self.items c.in-Some.id c.loop-id.invariant c.in-Some.ensures.items
    c.take_apart.new.found.items c.take_apart.new.waiting.items c.in_ok-take_apart.ensures

pub returns-clause-members : goal.returns-clause-members
returns-clause-members c =
    all_found members c.args.atoms.now c.args.heap.now.now.terms _ c.loop-id.found.items c.loop-id.waiting.items c.loop-id.invariant (omega (arith, c.in_default.ensures.cases.0, c.loop-id.waiting.ok.0))
