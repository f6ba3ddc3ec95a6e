use Rattle.std.proofs.Common.{◌≡◌, ◌+◌, ◌≤◌, ◌++◌, drop, reverse, vec_len, vec_capacity}
use Rattle.cq_term.proofs.lists.push_reversed.Given as goal

abbrev pub invariant-loop-i : goal.invariant-loop-i
invariant-loop-i l = record {
  items : l.list.items ≡ l.fn.list.items ++ reverse (drop l.i l.ids);
  room : vec_len l.list + l.i ≤ vec_capacity l.list;
}
