-- The names of the mark are the first ones still.
use Rattle.std.proofs.Common.{◌≡◌, ◌∙◌, ap, length, take}
use Rattle.std.proofs.lemmas.List.{length-map}
use Rattle.cq_dict.specs.Roles.{Quantities}
use Rattle.cq_equations.proofs.Marks.{marks_undo, saved_undo, saved_at}
use Rattle.cq_equations.proofs.table.TableUndo.undo.Goals as goal
use Rattle.cq_equations.proofs.table.TableUndo.undo.Goals.{After-shorten}

then_is : (c : After-shorten) → c.shorten.new.names.items ≡ take (length c.undo.new.self.roles) c.self.inside.names.items
then_is c = c.shorten.ensures.names ∙ ap (λ k. take k c.self.inside.names.items) c.count.ensures.value

abbrev at : After-shorten → Quantities
at c = record { roles = c.undo.new.self.roles; restricted = c.undo.new.self.restricted }

pub undo-requires : goal.undo-requires
undo-requires c = rw length-map at (rw (← c.self.view_is) at c.requires)

pub invariant_of-self : goal.invariant_of-self
invariant_of-self c =
    let k = (goal.at.invariant_of-self c).After-shorten in
    record {
      named = rw (then_is k) (c.self.invariant.marks.named c.args.m.number (at k) c.undo.ensures.now);
      entries_are = c.shorten.ensures.numbers;
      marks = rw (then_is k, c.undo.ensures.saved) (marks_undo c.self.inside.names.items c.self.inside.dict.saved c.self.invariant.marks c.args.m.number (at k) c.undo.ensures.now);
    }

pub returns-clause-now : goal.returns-clause-now
returns-clause-now c =
    let k = (goal.at.returns-clause-now c).After-shorten in
    rw (← c.self.view_is, then_is k) (saved_at c.self.inside.names.items c.self.inside.dict.saved c.self.invariant.marks c.args.m.number (at k) c.undo.ensures.now)

pub returns-clause-saved : goal.returns-clause-saved
returns-clause-saved c =
    let k = (goal.at.returns-clause-saved c).After-shorten in
    rw (← c.self.view_is, then_is k, c.undo.ensures.saved) (saved_undo c.self.inside.names.items c.self.inside.dict.saved c.self.invariant.marks c.args.m.number (at k) c.undo.ensures.now)
