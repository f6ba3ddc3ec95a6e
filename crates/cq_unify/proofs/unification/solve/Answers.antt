use Rattle.std.proofs.Common.{List, [], ◌∷◌, ◌++◌, ◌∙◌, Ok, ap}
use Rattle.cq_term.specs.declared.walk.pairs.Pair.{Pair}
use Rattle.cq_unify.proofs.Progress.{solving_start, solving_bind, solving_done, solving_clash, solving_occurs}
use Rattle.cq_unify.proofs.Unbound.{fewer_unbound}
use Rattle.cq_unify.proofs.unification.solve.Goals as goal

pub bindings-init : goal.bindings-init
bindings-init c = solving_start c.args.heap.now c.args.a c.args.b c.args.newly.now c.push.new.self.items (c.in_ok-push.ensures.items ∙ ap (λ (l : List Pair). l ++ record { left = c.args.a; right = c.args.b } ∷ []) c.requires.work) c.requires.a c.requires.b

pub returns-in-Done-clause-unified : goal.returns-in-Done-clause-unified
returns-in-Done-clause-unified c = λ _. solving_done c.args.heap.now c.bindings.heap c.args.a c.args.b c.args.newly.now c.bindings.newly c.bindings.work.items c.next.new.work.items c.bindings.invariant (rw c.in-Done.is at c.in_ok-next.ensures)

pub returns-in-Clash-clause-none : goal.returns-in-Clash-clause-none
returns-in-Clash-clause-none c = λ _. solving_clash c.args.heap.now c.bindings.heap c.args.a c.args.b c.args.newly.now c.bindings.newly c.bindings.work.items c.next.new.work.items c.bindings.invariant (rw c.in-Clash.is at c.in_ok-next.ensures)

pub bind_apart-requires : goal.bind_apart-requires
bind_apart-requires c = (rw c.in-Bind.is at c.in_ok-next.ensures).0

pub returns-then-not-is_bound-clause-none : goal.returns-then-not-is_bound-clause-none
returns-then-not-is_bound-clause-none c = λ _.
    solving_occurs c.args.heap.now c.bindings.heap c.args.a c.args.b c.args.newly.now c.bindings.newly c.bindings.work.items c.next.new.work.items c.bindings.invariant
    c.in-Bind.variable c.in-Bind.term (rw c.in-Bind.is at c.in_ok-next.ensures) (c.in_ok-is_bound-in-Bind.ensures.inside (ap Ok c.if-not-is_bound.true))

pub bindings-smaller : goal.bindings-smaller
bindings-smaller c =
    let narrowed = rw c.in-Bind.is at c.in_ok-next.ensures in
    let bound = c.in_ok-is_bound-in-Bind.ensures.bound (ap Ok c.if-not-is_bound.false) in
    rw bound.images (fewer_unbound c.bindings.heap.now c.in-Bind.variable c.in-Bind.term narrowed.0)

pub bindings-preserved : goal.bindings-preserved
bindings-preserved c =
    solving_bind c.args.heap.now c.bindings.heap c.args.a c.args.b c.args.newly.now c.bindings.newly c.bindings.work.items c.next.new.work.items c.bindings.invariant
    c.in-Bind.variable c.in-Bind.term c.bind_apart.new.heap c.bind_apart.new.newly (rw c.in-Bind.is at c.in_ok-next.ensures)
    (c.in_ok-is_bound-in-Bind.ensures.bound (ap Ok c.if-not-is_bound.false)) c.bind_apart.ensures.names c.bind_apart.ensures.saved c.bind_apart.ensures.room
    (c.in_ok-is_bound-in-Bind.ensures.told (ap Ok c.if-not-is_bound.false))
