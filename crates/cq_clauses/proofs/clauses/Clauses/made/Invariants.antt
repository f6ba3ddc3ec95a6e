use Rattle.std.proofs.Common.{take}
use Rattle.cq_clauses.specs.Indexes.{IsIndex}
use Rattle.cq_clauses.specs.Selected.{key_at, keys_in}
use Rattle.cq_clauses.proofs.clauses.Clauses.made.Given as goal

abbrev pub invariant-loop-place : goal.invariant-loop-place
invariant-loop-place g l = IsIndex l.index (take l.place (keys_in (key_at g.C.Keyed.key_of l.self.contents) l.clauses))
