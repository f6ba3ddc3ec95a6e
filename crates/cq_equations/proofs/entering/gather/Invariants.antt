-- Those with a number among the variables so far, and room for the rest.
use Rattle.std.proofs.Common.{◌≡◌, ◌+◌, ◌-◌, ◌≤◌, length, take, filter, vec_len}
use Rattle.std.specs.Prelude.{is_some, vec_capacity}
use Rattle.cq_equations.specs.Contents.{solved_in, number_in}
use Rattle.cq_equations.proofs.entering.gather.Given as goal

abbrev pub invariant-loop-x : goal.invariant-loop-x
invariant-loop-x l = record {
  gathered : l.fixed.items ≡ filter (λ x. is_some (number_in (solved_in l.table.now x.0))) (take l.x-index l.rest);
  room : vec_len l.fixed + (length l.rest - l.x-index) ≤ vec_capacity l.fixed;
}
