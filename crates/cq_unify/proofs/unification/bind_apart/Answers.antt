use Rattle.std.proofs.Common.{◌≡◌, ◌<◌, length, sym, subst}
use Rattle.cq_term.specs.HeapValue.{HeapValue}
use Rattle.cq_unify.proofs.Named.{names_bind, names_same}
use Rattle.cq_unify.proofs.unification.bind_apart.Goals as goal

pub returns-in-Ok-clause-names : goal.returns-in-Ok-clause-names
returns-in-Ok-clause-names c = λ n all.
    let same : c.occurs.new.heap ≡ c.args.heap.now = c.occurs.ensures.same in
    names_bind n c.args.variable.0 c.occurs.new.heap.now.terms c.bind.new.self.now.terms c.args.term c.in-Ok.ensures.terms
    (subst (λ (h : HeapValue). c.args.term < length h.now.terms) (sym same) c.requires.live)
    (names_same n c.args.heap.now.now c.occurs.new.heap.now (λ i. (same i).now) all)
