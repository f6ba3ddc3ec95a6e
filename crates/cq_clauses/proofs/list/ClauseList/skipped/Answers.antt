use Rattle.std.proofs.Common.{arith, sym, subst}
use Rattle.std.proofs.lemmas.List.{length-map}
use Rattle.cq_clauses.specs.Slots.{entry_of}
use Rattle.cq_clauses.specs.Windows.{IsWindow}
use Rattle.cq_clauses.proofs.list.ClauseList.skipped.Goals as goal

pub overflow_add-result : goal.overflow_add-result
overflow_add-result c =
    let slots = c.self.inside.slots in
    let is = subst (IsWindow c.args.window) (sym c.self.view_is) c.requires in
    omega (arith, is.within, length-map slots.items entry_of, slots.ok.0, slots.small.0, slots.small.1, c.min-count.ensures)
