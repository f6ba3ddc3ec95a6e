use Rattle.std.proofs.Common.{arith}
use Rattle.cq_goals.specs.Checking.{part_error}
use Rattle.cq_goals.proofs.Checking.{starts, next_live, goes, is_less, stops, ends}
use Rattle.cq_goals.proofs.checks.check.Goals as goal

pub loop-part-init : goal.loop-part-init
loop-part-init c = starts c.args.purpose c.args.atoms.now c.args.heap.now.now.terms c.args.whole c.in_ok-waiting.waiting.items c.requires.live c.in_ok-waiting.ensures

pub look_at-requires-clause-live : goal.look_at-requires-clause-live
look_at-requires-clause-live c =
    next_live c.args.purpose c.args.atoms.now c.args.heap.now.now.terms (part_error c.args.purpose c.args.atoms.now c.args.heap.now.now.terms c.args.whole)
    c.loop-part.waiting.items c.pop.new.self.items c.in-Some.part c.loop-part.invariant c.in-Some.ensures.items

pub loop-part-preserved : goal.loop-part-preserved
loop-part-preserved c =
    goes c.args.purpose c.args.atoms.now c.args.heap.now.now.terms (part_error c.args.purpose c.args.atoms.now c.args.heap.now.now.terms c.args.whole)
    c.loop-part.waiting.items c.pop.new.self.items c.in-Some.part c.loop-part.invariant c.in-Some.ensures.items c.look_at.new.waiting.items c.in-Ok.ensures.goes_on

pub loop-part-smaller : goal.loop-part-smaller
loop-part-smaller c =
    is_less c.args.purpose c.args.atoms.now c.args.heap.now.now.terms (part_error c.args.purpose c.args.atoms.now c.args.heap.now.now.terms c.args.whole)
    c.loop-part.waiting.items c.pop.new.self.items c.in-Some.part c.loop-part.invariant c.in-Some.ensures.items c.look_at.new.waiting.items c.in-Ok.ensures.goes_on

pub returns-in-Err-clause-fault : goal.returns-in-Err-clause-fault
returns-in-Err-clause-fault c =
    stops c.args.purpose c.args.atoms.now c.args.heap.now.now.terms (part_error c.args.purpose c.args.atoms.now c.args.heap.now.now.terms c.args.whole)
    c.loop-part.waiting.items c.pop.new.self.items c.in-Some.part c.loop-part.invariant c.in-Some.ensures.items c.in-Err.fault c.in-Err.ensures.fault

pub returns-clause-ok : goal.returns-clause-ok
returns-clause-ok c =
    ends c.args.purpose c.args.atoms.now c.args.heap.now.now.terms (part_error c.args.purpose c.args.atoms.now c.args.heap.now.now.terms c.args.whole)
    c.loop-part.waiting.items c.loop-part.invariant (omega (arith, c.in_default.ensures.cases.0, c.loop-part.waiting.ok.0))
