-- The names stay.
use Rattle.std.proofs.Common.{sym, subst}
use Rattle.cq_equations.specs.Marked.{AreMarked}
use Rattle.cq_equations.proofs.Keep.{eliminated_named}
use Rattle.cq_equations.proofs.table.Table.eliminate.Goals as goal

pub invariant_of-self-2 : goal.invariant_of-self-2
invariant_of-self-2 c = record {
  named = eliminated_named (record { names = c.self.inside.names.items; roles = c.self.inside.dict.roles }) c.self.invariant.named c.args.r c.args.c (rw (← c.self.view_is) at c.requires) c.eliminate.new.self.roles c.in_ok-eliminate.ensures.kinds c.in_ok-eliminate.ensures.table;
  entries_are = c.self.invariant.entries_are;
  marks = subst (AreMarked c.self.inside.names.items) (sym c.in_ok-eliminate.ensures.saved) c.self.invariant.marks;
}
