-- The names at the new mark are those that there are now.
use Rattle.std.proofs.Common.{◌∙◌, ap, map, sym, subst}
use Rattle.cq_dict.specs.Roles.{Quantities}
use Rattle.cq_equations.specs.Contents.{AreNamed}
use Rattle.cq_equations.specs.Marked.{named_at, AreMarked}
use Rattle.cq_equations.proofs.Marks.{marks_mark, saved_mark}
use Rattle.cq_equations.proofs.table.TableUndo.mark.Goals as goal

pub invariant_of-self-2 : goal.invariant_of-self-2
invariant_of-self-2 c = record {
  named = subst (λ (q : Quantities). AreNamed (record { names = c.self.inside.names.items; roles = q.roles })) (sym c.mark.ensures.now) c.self.invariant.named;
  entries_are = c.self.invariant.entries_are;
  marks = subst (AreMarked c.self.inside.names.items) (sym c.in_ok-m.ensures.saved)
      (marks_mark (record { names = c.self.inside.names.items; roles = c.self.inside.dict.roles }) c.self.invariant.named c.self.inside.dict.saved c.self.invariant.marks c.self.inside.dict.restricted);
}

pub returns-clause-saved : goal.returns-clause-saved
returns-clause-saved c =
    rw (← c.self.view_is)
    (ap (map (named_at c.self.inside.names.items)) c.in_ok-m.ensures.saved
    ∙ saved_mark (record { names = c.self.inside.names.items; roles = c.self.inside.dict.roles }) c.self.invariant.named c.self.inside.dict.saved c.self.invariant.marks c.self.inside.dict.restricted)
