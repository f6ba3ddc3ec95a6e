use Rattle.std.proofs.Common.{◌≡◌, ℕ, drop, map}
use Rattle.cq_resolve.specs.Marks.{shown, AreMet, AreSized}
use Rattle.cq_resolve.proofs.stored.marks.mark.Given as goal

abbrev pub invariant-loop-i : goal.invariant-loop-i
invariant-loop-i l = record {
  shown : map shown l.parts.items ≡ map shown l.fn.parts.items;
  met : (m : ℕ) → AreMet m l.fn.parts.items → AreMet m l.parts.items;
  sized : AreSized (drop l.i l.parts.items);
}
