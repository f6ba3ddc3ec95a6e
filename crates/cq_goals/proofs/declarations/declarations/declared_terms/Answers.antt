use Rattle.std.proofs.Common.{arith}
use Rattle.spec_builtins.specs.Clauses.{declared_terms}
use Rattle.cq_built.proofs.Splitting.{taken_apart_starts, part_live, takes, takes_less, all_found}
use Rattle.cq_goals.proofs.declarations.declarations.declared_terms.Goals as goal

pub loop-id-init : goal.loop-id-init
loop-id-init c =
    taken_apart_starts declared_terms c.args.atoms.now c.args.heap.now.now.terms c.new-found.result.items c.in_ok-waiting.waiting.items c.args.term c.requires.live c.new-found.ensures.items c.in_ok-waiting.ensures.items

pub take_declared-requires-clause-live : goal.take_declared-requires-clause-live
take_declared-requires-clause-live c =
    part_live declared_terms c.args.atoms.now c.args.heap.now.now.terms _ c.loop-id.found.items c.loop-id.waiting.items c.pop.new.self.items c.in-Some.id c.loop-id.invariant c.in-Some.ensures.items

pub loop-id-preserved : goal.loop-id-preserved
loop-id-preserved c =
    takes declared_terms c.args.atoms.now c.args.heap.now.now.terms _ c.loop-id.found.items c.loop-id.waiting.items c.pop.new.self.items c.in-Some.id c.loop-id.invariant c.in-Some.ensures.items
    c.take_declared.new.found.items c.take_declared.new.waiting.items c.in_ok-take_declared.ensures

pub loop-id-smaller : goal.loop-id-smaller
loop-id-smaller c =
    takes_less declared_terms c.args.atoms.now c.args.heap.now.now.terms _ c.loop-id.found.items c.loop-id.waiting.items c.pop.new.self.items c.in-Some.id c.loop-id.invariant c.in-Some.ensures.items
    c.take_declared.new.found.items c.take_declared.new.waiting.items c.in_ok-take_declared.ensures

pub returns-clause-terms : goal.returns-clause-terms
returns-clause-terms c =
    all_found declared_terms c.args.atoms.now c.args.heap.now.now.terms _ c.loop-id.found.items c.loop-id.waiting.items c.loop-id.invariant (omega (arith, c.in_default.ensures.cases.0, c.loop-id.waiting.ok.0))
