use Rattle.std.proofs.Common.{length}
use Rattle.cq_goals.specs.Work.{evaluated_at}
use Rattle.cq_goals.proofs.Steps.{visit_stops, resume_stops, resume_goes_on, resume_is_less}
use Rattle.cq_goals.proofs.arith.evaluation.eval_whole.Goals as goal

pub returns-in-Err-clause-fault : goal.returns-in-Err-clause-fault
returns-in-Err-clause-fault c =
    visit_stops c.args.atoms.now c.args.heap.now.now.terms (evaluated_at c.args.atoms.now c.args.heap.now.now.terms c.args.term) c.loop-step.under_way.items c.loop-step.step c.loop-step.invariant
    c.in-Visit.id c.in-Err.fault c.in-Visit.is c.in-Err.ensures.fault

pub returns-in-Err-resume-clause-fault : goal.returns-in-Err-resume-clause-fault
returns-in-Err-resume-clause-fault c =
    resume_stops c.args.atoms.now c.args.heap.now.now.terms (evaluated_at c.args.atoms.now c.args.heap.now.now.terms c.args.term) c.loop-step.under_way.items c.loop-step.step c.loop-step.invariant
    c.in-Return.value c.pop.new.self.items c.in-Some.waiting c.in-Return.is c.in-Some.ensures.items c.in-Err-resume.fault c.in-Err-resume.ensures.fault

pub returns-in-Err-resume-clause-known : goal.returns-in-Err-resume-clause-known
returns-in-Err-resume-clause-known c = c.in-Err-resume.ensures.known (length c.args.atoms.now)

pub loop-step-preserved : goal.loop-step-preserved
loop-step-preserved c =
    resume_goes_on c.args.atoms.now c.args.heap.now.now.terms (evaluated_at c.args.atoms.now c.args.heap.now.now.terms c.args.term) c.loop-step.under_way.items c.loop-step.step c.loop-step.invariant
    c.in-Return.value c.pop.new.self.items c.in-Some.waiting c.in-Return.is c.in-Some.ensures.items c.resume.new.under_way.items c.in-Ok-resume.next c.in-Ok-resume.ensures.goes_on

pub loop-step-smaller : goal.loop-step-smaller
loop-step-smaller c =
    resume_is_less c.args.atoms.now c.args.heap.now.now.terms (evaluated_at c.args.atoms.now c.args.heap.now.now.terms c.args.term) c.loop-step.under_way.items c.loop-step.step c.loop-step.invariant
    c.in-Return.value c.pop.new.self.items c.in-Some.waiting c.in-Return.is c.in-Some.ensures.items c.resume.new.under_way.items c.in-Ok-resume.next c.in-Ok-resume.ensures.goes_on
