-- Those without a number among the variables so far.
use Rattle.std.proofs.Common.{◌≡◌, take, filter}
use Rattle.std.specs.Prelude.{is_none}
use Rattle.cq_equations.specs.Contents.{solved_in, number_in}
use Rattle.cq_equations.specs.Told.{numbers_of}
use Rattle.cq_equations.proofs.entering.unfixed.Given as goal

abbrev pub invariant-loop-x : goal.invariant-loop-x
invariant-loop-x l = numbers_of l.rest.items ≡ filter (λ x. is_none (number_in (solved_in l.table.now x))) (numbers_of (take l.x-index l.x-items))
