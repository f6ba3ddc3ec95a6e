use Rattle.std.proofs.Common.{◌≡◌, ◌≤◌, take}
use Rattle.cq_settle.specs.Steps.{AllWatch}
use Rattle.cq_settle.proofs.joining.watch_all.Given as goal

abbrev pub invariant-loop-number : goal.invariant-loop-number
invariant-loop-number l = record {
  watch : AllWatch (take l.number-index l.woken) l.image.0 l.fn.attrs.now l.attrs.now;
  saved : l.attrs.saved ≡ l.fn.attrs.saved;
  room : l.fn.attrs.room ≤ l.attrs.room;
}
