use Rattle.std.proofs.Common.{◌≡◌, ◌+◌, ◌-◌, ◌≤◌, ◌++◌, length, take, vec_len, vec_capacity}
use Rattle.cq_attr.specs.NotesValue.{noted}
use Rattle.cq_attr.specs.Chains.{AreLinked, HasPlaces, pairs_of}
use Rattle.cq_attr.proofs.notes.link.Given as goal

abbrev pub invariant-loop-variable : goal.invariant-loop-variable
invariant-loop-variable g l = record {
  linked : AreLinked l.newest.items l.notes.items;
  places : HasPlaces l.newest.items l.variables;
  pairs : pairs_of l.notes.items ≡ pairs_of l.fn.notes.items ++ noted (take l.variable-index l.variables) l.value;
  room : vec_len l.notes + (length l.variables - l.variable-index) ≤ vec_capacity l.notes;
}
