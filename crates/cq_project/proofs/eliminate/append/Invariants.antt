use Rattle.std.proofs.Common.{◌≡◌, ◌++◌}
use Rattle.cq_project.proofs.eliminate.append.Given as goal

abbrev pub invariant-more : goal.invariant-more
invariant-more l = l.rows.items ≡ l.initial.rows.items ++ l.yielded
