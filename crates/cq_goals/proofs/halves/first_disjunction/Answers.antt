use Rattle.std.proofs.Common.{arith}
use Rattle.spec_branch.specs.Checks.{halves}
use Rattle.cq_term.specs.Meaning.{at}
use Rattle.cq_term.specs.Trees.{tree}
use Rattle.cq_built.proofs.Heads.{size_positive, side_name_known}
use Rattle.cq_goals.proofs.Splitting.{left_next, left_less, searched, work_now}
use Rattle.cq_goals.proofs.halves.first_disjunction.Goals as goal

pub loop-next-preserved-in-Conjunction : goal.loop-next-preserved-in-Conjunction
loop-next-preserved-in-Conjunction c =
    let texts = c.args.atoms.now in
    let ts = c.args.heap.now.now.terms in
    let whole = halves (tree texts ts c.args.constraint) in
    let fs = c.loop-next.path.items in
    left_next texts ts c.in-Some.id fs c.enter.new.path.items whole c.in-Conjunction.sides (searched texts ts whole c.loop-next.next fs c.loop-next.invariant c.in-Some.id c.in-Some.is)
    c.in-Conjunction.ensures.0.sides c.in_ok-enter-in-Conjunction.ensures
    (side_name_known texts ts c.in-Some.id c.in-Conjunction.sides c.in-Conjunction.ensures.0.sides c.requires.names
    (searched texts ts whole c.loop-next.next fs c.loop-next.invariant c.in-Some.id c.in-Some.is).id_live)
    c.in-Conjunction.ensures.0.conjunction c.in-Conjunction.ensures.1

pub loop-next-smaller-in-Conjunction : goal.loop-next-smaller-in-Conjunction
loop-next-smaller-in-Conjunction c =
    let texts = c.args.atoms.now in
    let ts = c.args.heap.now.now.terms in
    let whole = halves (tree texts ts c.args.constraint) in
    let fs = c.loop-next.path.items in
    let k = searched texts ts whole c.loop-next.next fs c.loop-next.invariant c.in-Some.id c.in-Some.is in
    let less = left_less texts ts c.in-Some.id fs c.enter.new.path.items whole c.in-Conjunction.sides k c.in-Conjunction.ensures.0.sides c.in_ok-enter-in-Conjunction.ensures in
    let now = work_now texts ts whole c.loop-next.next fs c.loop-next.invariant c.in-Some.id c.in-Some.is in
    omega (arith, less, now)

pub loop-next-smaller : goal.loop-next-smaller
loop-next-smaller c =
    let texts = c.args.atoms.now in
    let ts = c.args.heap.now.now.terms in
    let whole = halves (tree texts ts c.args.constraint) in
    let now = work_now texts ts whole c.loop-next.next c.loop-next.path.items c.loop-next.invariant c.in-Some.id c.in-Some.is in
    omega (arith, now, c.in_ok-next-in-Neither.ensures.less ts, size_positive (at ts c.in-Some.id))
