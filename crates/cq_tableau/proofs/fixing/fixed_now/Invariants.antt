-- Those so far that have a value.
use Rattle.std.proofs.Common.{take}
use Rattle.cq_dict.specs.DictValue.{quantities_of}
use Rattle.cq_tableau.specs.Fixing.{AreFixedNow}
use Rattle.cq_tableau.proofs.fixing.fixed_now.Given as goal

abbrev pub invariant-loop-x : goal.invariant-loop-x
invariant-loop-x l = AreFixedNow l.names.now (quantities_of l.dict) (take l.x-index l.before) l.fixed.items
