use Rattle.std.proofs.Common.{◌≡◌, take, map}
use Rattle.cq_term.specs.Places.{numbers_of}
use Rattle.cq_answer.proofs.Variables.{with_all}
use Rattle.cq_answer.proofs.residual.wanted.add_free.Given as goal

abbrev pub invariant-free : goal.invariant-free
invariant-free l = numbers_of l.found.keys ≡ with_all (numbers_of l.fn.found.keys) (map (λ n. n.number) (take l.named-index l.free))
