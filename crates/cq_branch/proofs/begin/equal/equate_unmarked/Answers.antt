use Rattle.std.proofs.Common.{List, Ok, ap, sym, subst}
use Rattle.cq_frac.specs.declared.VarId.{VarId}
use Rattle.cq_term.specs.HeapValue.{HeapValue}
use Rattle.cq_branch.specs.Entries.{AreFree, IsFree}
use Rattle.cq_branch.proofs.begin.equal.equate_unmarked.Goals as goal

pub returns-in_default-clause-apart : goal.returns-in_default-clause-apart
returns-in_default-clause-apart c = c.in_ok-newly.ensures.none (ap Ok c.in_default.is)

pub returns-then-free-clause-equal : goal.returns-then-free-clause-equal
returns-then-free-clause-equal c =
    subst (λ (h : HeapValue). AreFree c.args.heap.now.now h.now c.args.attrs.now.now c.args.pairs.now) (sym c.keep_newly.ensures)
    (record {
      newly = c.in-Some.newly;
      equal = rw c.in-Some.is at c.in_ok-newly.ensures.equal;
      free = subst (λ (vs : List VarId). IsFree c.args.attrs.now.now vs) c.as_slice.ensures (c.is_free-free.ensures c.if-free.true);
      names = c.in_ok-newly.ensures.names;
    })
