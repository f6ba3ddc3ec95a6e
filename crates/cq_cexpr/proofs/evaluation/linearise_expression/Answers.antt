use Rattle.std.proofs.Common.{Err, ap}
use Rattle.spec_branch.specs.Alike.{no_values}
use Rattle.spec_transcript.specs.Operands.{expression_operands}
use Rattle.cq_frac.proofs.Exits.{refusal_told}
use Rattle.cq_term.specs.Trees.{tree}
use Rattle.cq_cexpr.specs.Sums.{due_in}
use Rattle.cq_cexpr.specs.Work.{read_at}
use Rattle.cq_cexpr.proofs.Overflowing.{comes_within}
use Rattle.cq_cexpr.proofs.Steps.{begins, stopped, due, resume_overflows, resume_goes_on, resume_is_less}
use Rattle.cq_cexpr.proofs.evaluation.linearise_expression.Goals as goal

pub loop-step-init : goal.loop-step-init
loop-step-init c =
    begins c.args.atoms.now c.args.heap.now.now.terms c.args.term c.new-under_way.result.items c.new-under_way.ensures.items c.requires.live c.requires.names

pub returns-in-Stop-clause-lin : goal.returns-in-Stop-clause-lin
returns-in-Stop-clause-lin c =
    let texts = c.args.atoms.now in
    let ts = c.args.heap.now.now.terms in
    stopped texts ts (expression_operands no_values (tree texts ts c.args.term)) (read_at texts ts c.args.term) c.loop-step.under_way.items c.loop-step.step c.loop-step.invariant c.in-Stop.is

pub returns-in-None-clause-overflow : goal.returns-in-None-clause-overflow
returns-in-None-clause-overflow c = λ pair e.
    let texts = c.args.atoms.now in
    let ts = c.args.heap.now.now.terms in
    let all = expression_operands no_values (tree texts ts c.args.term) in
    comes_within (due_in c.in-Return.sum) all pair
    (due texts ts all (read_at texts ts c.args.term) c.loop-step.under_way.items c.loop-step.step c.loop-step.invariant c.in-Return.sum c.in-Return.is) (c.finish.ensures.overflow pair e)

pub returns-in_err-step-in-Some-clause-overflow : goal.returns-in_err-step-in-Some-clause-overflow
returns-in_err-step-in-Some-clause-overflow c = λ pair e.
    let texts = c.args.atoms.now in
    let ts = c.args.heap.now.now.terms in
    resume_overflows texts ts (expression_operands no_values (tree texts ts c.args.term)) (read_at texts ts c.args.term) c.loop-step.under_way.items c.loop-step.step c.loop-step.invariant
    c.in-Return.sum c.pop.new.self.items c.in-Some.waiting c.in-Return.is c.in-Some.ensures.items pair
    (c.in_err-step-in-Some.ensures.overflow pair (ap Err (refusal_told _ _ pair c.from_residual-in_err-step-in-Some.ensures.1 e)))

pub loop-step-preserved : goal.loop-step-preserved
loop-step-preserved c =
    let texts = c.args.atoms.now in
    let ts = c.args.heap.now.now.terms in
    resume_goes_on texts ts (expression_operands no_values (tree texts ts c.args.term)) (read_at texts ts c.args.term) c.loop-step.under_way.items c.loop-step.step c.loop-step.invariant
    c.in-Return.sum c.pop.new.self.items c.in-Some.waiting c.in-Return.is c.in-Some.ensures.items c.resume.new.under_way.items c.in_ok-step-in-Some.step c.in_ok-step-in-Some.ensures.goes_on

pub loop-step-smaller : goal.loop-step-smaller
loop-step-smaller c =
    let texts = c.args.atoms.now in
    let ts = c.args.heap.now.now.terms in
    resume_is_less texts ts (expression_operands no_values (tree texts ts c.args.term)) (read_at texts ts c.args.term) c.loop-step.under_way.items c.loop-step.step c.loop-step.invariant
    c.in-Return.sum c.pop.new.self.items c.in-Some.waiting c.in-Return.is c.in-Some.ensures.items c.resume.new.under_way.items c.in_ok-step-in-Some.step c.in_ok-step-in-Some.ensures.goes_on
