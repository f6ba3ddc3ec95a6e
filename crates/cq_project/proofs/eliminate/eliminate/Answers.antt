use Rattle.std.proofs.Common.{◌++◌, Err, ap, sym, subst, ◌∙◌}
use Rattle.spec_linear.specs.Solution.{SomeMentions, MentionsOnly}
use Rattle.spec_projection.specs.Partial.{at_start}
use Rattle.cq_equations.specs.Told.{numbers_of}
use Rattle.cq_project.specs.Eliminating.{while_sifting, IsLimitPassed, IsRowsDue}
use Rattle.cq_project.proofs.Exits.{told_pair, told_number, one_fault, if_rows}
use Rattle.cq_project.proofs.EliminateStanding.{fewer_stand}
use Rattle.cq_project.proofs.Steps.{left_first, left_next, next_here, over, refuses, spends, too_many, within, is_gone}
use Rattle.cq_project.proofs.eliminate.eliminate.Goals as goal

pub returns-in-Err-clause-overflow : goal.returns-in-Err-clause-overflow
returns-in-Err-clause-overflow c = λ targets o pair e.
    let told = told_pair c.in-Err.fault pair (sym c.from.ensures ∙ one_fault c.from.result _ e) in
    while_sifting c.args.rows.now at_start (c.in-Err.ensures.overflow pair (ap Err told))

pub returns-in-Err-clause-pivots : goal.returns-in-Err-clause-pivots
returns-in-Err-clause-pivots c = λ targets o n e.
    let told = told_number c.in-Err.fault n (sym c.from.ensures ∙ one_fault c.from.result _ e) in
    let spent = c.in-Err.ensures.pivots n (ap Err told) in
    (spent.0, record { rows = c.args.rows.now; partial = at_start; spends = spent.1 })

pub variables-init : goal.variables-init
variables-init c =
    left_first (numbers_of c.args.variables.now) c.args.rows.now c.in-Ok.left.items c.see_forms.ensures c.requires.inequalities c.requires.solvable
    c.in-Ok.ensures.sublist

pub returns-in-Err-step-clause-overflow : goal.returns-in-Err-step-clause-overflow
returns-in-Err-step-clause-overflow c = λ targets o pair e.
    let others = numbers_of c.args.variables.now in
    let start = c.args.rows.now in
    let rows = c.variables.left.items in
    let x = c.in-Some.next.variable.0 in
    let is_next = next_here others start rows c.variables.invariant c.deref.result.now x c.deref.ensures.value c.in-Some.ensures.next in
    refuses others start rows c.variables.invariant x is_next pair (c.in-Err-step.ensures.overflow pair e) targets o

pub returns-in-Err-step-clause-pivots : goal.returns-in-Err-step-clause-pivots
returns-in-Err-step-clause-pivots c = λ targets o n e.
    let others = numbers_of c.args.variables.now in
    let start = c.args.rows.now in
    let rows = c.variables.left.items in
    let x = c.in-Some.next.variable.0 in
    let is_next = next_here others start rows c.variables.invariant c.deref.result.now x c.deref.ensures.value c.in-Some.ensures.next in
    let spent = c.in-Err-step.ensures.pivots n e in
    (spent.0, spends others start rows c.variables.invariant x is_next n spent.1 targets o)

pub returns-in-Err-step-clause-limit : goal.returns-in-Err-step-clause-limit
returns-in-Err-step-clause-limit c = λ targets o.
    let others = numbers_of c.args.variables.now in
    let start = c.args.rows.now in
    let rows = c.variables.left.items in
    let x = c.in-Some.next.variable.0 in
    let is_next = next_here others start rows c.variables.invariant c.deref.result.now x c.deref.ensures.value c.in-Some.ensures.next in
    if_rows c.in-Err-step.fault (IsLimitPassed x rows c.args.limit) (IsRowsDue targets start c.args.limit)
    (λ p n rest due h. too_many others start rows c.variables.invariant x is_next c.args.limit p n rest due h targets o)
    c.in-Err-step.ensures.limit

pub variables-smaller : goal.variables-smaller
variables-smaller c =
    let others = numbers_of c.args.variables.now in
    let start = c.args.rows.now in
    let rows = c.variables.left.items in
    let fewer = c.in-Ok-step.fewer.items in
    let x = c.in-Some.next.variable.0 in
    fewer_stand rows fewer (within others start rows c.variables.invariant x fewer c.in-Ok-step.ensures.sublist) others x c.in-Some.ensures.first.among
    (subst (SomeMentions x) c.deref.ensures.value c.in-Some.ensures.first.mentioned)
    (is_gone others start rows c.variables.invariant x fewer c.in-Ok-step.ensures.sublist)

pub variables-preserved : goal.variables-preserved
variables-preserved c =
    let others = numbers_of c.args.variables.now in
    let start = c.args.rows.now in
    let rows = c.variables.left.items in
    let x = c.in-Some.next.variable.0 in
    let is_next = next_here others start rows c.variables.invariant c.deref.result.now x c.deref.ensures.value c.in-Some.ensures.next in
    left_next others start rows c.variables.invariant x is_next c.in-Ok-step.fewer.items c.in-Ok-step.ensures.sublist

pub returns-clause-partial : goal.returns-clause-partial
returns-clause-partial c = λ targets o.
    let others = numbers_of c.args.variables.now in
    let rows = c.variables.left.items in (
      c.variables.invariant.partial targets o,
      subst (MentionsOnly targets) c.deref.ensures.value
          (c.in_default.ensures.next targets o.apart
          (subst (MentionsOnly (others ++ targets)) (sym c.deref.ensures.value) (over others c.args.rows.now rows c.variables.invariant targets o))),
    )
