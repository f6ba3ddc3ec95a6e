use Rattle.std.proofs.Common.{map}
use Rattle.cq_resolve.specs.Marks.{shown}
use Rattle.cq_calls.specs.Matching.{ArgumentsBegin}
use Rattle.cq_calls.proofs.matching.arguments_may_match.Given as goal

abbrev pub invariant-arguments : goal.invariant-arguments
invariant-arguments l = ArgumentsBegin (map shown l.head) l.place l.i
