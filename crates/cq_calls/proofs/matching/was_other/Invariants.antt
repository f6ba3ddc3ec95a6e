use Rattle.std.proofs.Common.{map}
use Rattle.cq_resolve.specs.Marks.{shown}
use Rattle.cq_calls.specs.Matching.{ArgumentsBegin}
use Rattle.cq_calls.proofs.matching.was_other.Given as goal

abbrev pub invariant-earlier : goal.invariant-earlier
invariant-earlier l = ArgumentsBegin (map shown l.head) l.place l.j
