use Rattle.std.proofs.Common.{subst}
use Rattle.cq_term.specs.Meaning.{HeapTerm, at}
use Rattle.cq_resolve.specs.Joined.{Joined}
use Rattle.cq_resolve.proofs.joining.join_variable.Goals as goal

pub returns-clause-joined : goal.returns-clause-joined
returns-clause-joined c = λ e.
    let old = c.args.heap.now.now in
    let new = c.join_terms.new.heap.now in
    let h = c.join_terms.ensures.joined e in
    (h.0, h.1, subst (λ (t : HeapTerm). Joined old new (at old.terms c.args.goal) t h.0) c.var_term-met.ensures.term h.2)
