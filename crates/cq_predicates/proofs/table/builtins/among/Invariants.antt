use Rattle.std.proofs.Common.{◌≡◌, bytes_eq, find, drop}
use Rattle.cq_predicates.proofs.table.builtins.among.Given as goal

abbrev pub invariant-loop-other : goal.invariant-loop-other
invariant-loop-other l =
    find (λ row. bytes_eq row.0.now l.name) l.rows ≡ find (λ row. bytes_eq row.0.now l.name) (drop l.other-index l.rows)
