-- One new variable more, or none.
use Rattle.std.proofs.Common.{◌≡◌, ◌∙◌, ◌+◌, refl, ap, sym, subst}
use Rattle.spec_linear.specs.Form.{IsSumFrom}
use Rattle.spec_linear.specs.Solution.{Has}
use Rattle.cq_equations.specs.Contents.{variables_of, place_of_variable}
use Rattle.cq_equations.specs.Marked.{TableValue}
use Rattle.cq_equations.proofs.Fresh.{none_of, some_of, AddsFirst, adds_new, adds_old, adds_none}
use Rattle.cq_equations.proofs.entering.add_variables.Goals as goal
use Rattle.cq_equations.proofs.entering.add_variables.Goals.{then-is_none+in_ok-add_variable, else-is_none}

pub loop-entry-init : goal.loop-entry-init
loop-entry-init c = record { added = adds_none c.args.table.now.now; saved = refl }

pub loop-entry-preserved : goal.loop-entry-preserved
loop-entry-preserved c =
    elim c.if-is_none.branch [
      | then-is_none+in_ok-add_variable w ↦ record {
        added = subst (AddsFirst c.args.table.now.now c.entries-entry-items.result.now (c.loop-entry.entry-index + 1)) (sym (ap (λ (t : TableValue). t.now) w.table-is))
            (adds_new c.args.table.now.now c.loop-entry.table.now c.entries-entry-items.result.now c.loop-entry.entry-index c.entry-item.result c.loop-entry-test.true c.entry-item.is c.loop-entry.invariant.added
            (none_of c.number.result (Has c.entry-item.result.quantity (variables_of c.loop-entry.table.now.names) → ⊥) (λ n. Has c.entry-item.result.quantity (variables_of c.loop-entry.table.now.names) × (n ≡ place_of_variable c.loop-entry.table.now.names c.entry-item.result.quantity)) c.is_none.result c.number.ensures c.is_none.ensures w.if-is_none.true)
            w.add_variable.new.self.now w.in_ok-add_variable.ensures.names w.in_ok-add_variable.ensures.roles);
        saved = ap (λ (t : TableValue). t.saved) w.table-is ∙ w.in_ok-add_variable.ensures.saved ∙ c.loop-entry.invariant.saved;
      }
      | else-is_none w ↦ record {
        added = subst (AddsFirst c.args.table.now.now c.entries-entry-items.result.now (c.loop-entry.entry-index + 1)) (sym (ap (λ (t : TableValue). t.now) w.table-is))
            (adds_old c.args.table.now.now c.loop-entry.table.now c.entries-entry-items.result.now c.loop-entry.entry-index c.entry-item.result c.loop-entry-test.true c.entry-item.is
            (subst (IsSumFrom 0) (sym c.entries-entry-items.ensures.value) c.entries-entry-items.ensures.in_order) c.loop-entry.invariant.added
            (some_of c.number.result (Has c.entry-item.result.quantity (variables_of c.loop-entry.table.now.names) → ⊥) (λ n. Has c.entry-item.result.quantity (variables_of c.loop-entry.table.now.names) × (n ≡ place_of_variable c.loop-entry.table.now.names c.entry-item.result.quantity)) c.is_none.result c.number.ensures c.is_none.ensures w.if-is_none.false).1.0);
        saved = ap (λ (t : TableValue). t.saved) w.table-is ∙ c.loop-entry.invariant.saved;
      }
    ]
