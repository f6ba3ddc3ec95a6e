use Rattle.std.proofs.Common.{◌≡◌, ◌+◌, ◌-◌, ◌≤◌, vec_len, vec_capacity}
use Rattle.cq_term.specs.Layout.{contents, with_vars}
use Rattle.cq_term.proofs.lists.Lists.add_vars.Given as goal

abbrev pub invariant-loop-made : goal.invariant-loop-made
invariant-loop-made l = record {
  contents : contents l.self ≡ with_vars l._made (contents l.fn.self);
  cells : vec_len l.self.cells + (l.count - l._made) ≤ vec_capacity l.self.cells;
  vars : vec_len l.self.vars + (l.count - l._made) ≤ vec_capacity l.self.vars;
}
