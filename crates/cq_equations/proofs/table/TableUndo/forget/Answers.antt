-- The names stay.
use Rattle.std.proofs.Common.{◌∙◌, ap, map, sym, subst}
use Rattle.std.specs.List.{take-map}
use Rattle.cq_dict.specs.Roles.{Quantities}
use Rattle.cq_equations.specs.Contents.{AreNamed}
use Rattle.cq_equations.specs.Marked.{named_at}
use Rattle.cq_equations.proofs.Marks.{marks_forget}
use Rattle.cq_equations.proofs.table.TableUndo.forget.Goals as goal

pub invariant_of-self : goal.invariant_of-self
invariant_of-self c = record {
  named = subst (λ (q : Quantities). AreNamed (record { names = c.self.inside.names.items; roles = q.roles })) (sym c.forget.ensures.now) c.self.invariant.named;
  entries_are = c.self.invariant.entries_are;
  marks = marks_forget c.self.inside.names.items c.self.inside.dict.saved c.self.invariant.marks c.args.m.number c.forget.new.self.saved c.forget.ensures.saved;
}

pub returns-clause-saved : goal.returns-clause-saved
returns-clause-saved c = rw (← c.self.view_is) (ap (map (named_at c.self.inside.names.items)) c.forget.ensures.saved ∙ sym (take-map (named_at c.self.inside.names.items) c.args.m.number c.self.inside.dict.saved))
