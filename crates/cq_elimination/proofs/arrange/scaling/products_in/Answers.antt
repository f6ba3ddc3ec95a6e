use Rattle.std.proofs.Common.{◌<◌, length, get_or, arith, ap, sym, subst, ◌∙◌}
use Rattle.std.proofs.lemmas.List.{get_or_default}
use Rattle.spec_linear.specs.Form.{IsSumFrom}
use Rattle.cq_equations.specs.Told.{numbers_of}
use Rattle.cq_form.specs.Steps.{HasCoefficient}
use Rattle.cq_form.proofs.Rows.{row_of, has_product, not_mentioned}
use Rattle.spec_numbers.specs.Sums.{Mentions}
use Rattle.cq_elimination.specs.Arranging.{picked}
use Rattle.cq_elimination.proofs.Picked.{one_stands, none_stands}
use Rattle.cq_elimination.proofs.arrange.scaling.products_in.Goals.{in-Some+in_ok-push, in_default}
use Rattle.cq_elimination.proofs.arrange.scaling.products_in.Goals as goal

pub entry_at-requires : goal.entry_at-requires
entry_at-requires c =
    record { row = row_of 0 c.entries-entries.result.now (subst (IsSumFrom 0) (sym c.entries-entries.ensures.value) c.entries-entries.ensures.in_order) }

pub variables-preserved : goal.variables-preserved
variables-preserved c =
    let within : c.variables.x-index < length c.args.order.now = omega arith in
    let at = get_or_default c.args.order.now c.variables.x-index (record { 0 = 0 }) (get_or c.args.order.now c.variables.x-index (record { 0 = 0 })) within in
    let value = c.entries-entries.ensures.value in
    elim c.match-entry_at.branch [
      | in-Some+in_ok-push w ↦
          one_stands c.args.order.now c.variables.x-index (get_or c.args.order.now c.variables.x-index (record { 0 = 0 })) within at c.args.form.now.products
          (picked (numbers_of c.args.order.now) c.args.form.now.products) c.variables.products.items c.match-entry_at.products.items c.variables.invariant w.in-Some.factor
          c.entries-entries.ensures.in_order
          (subst (HasCoefficient (get_or c.args.order.now c.variables.x-index (record { 0 = 0 })).0 w.in-Some.factor) value (has_product _ c.entries-entries.result.now w.in-Some.ensures)) (ap (λ v. v.items) w.products-is ∙ w.in_ok-push.ensures.items)
      | in_default w ↦
          none_stands c.args.order.now c.variables.x-index (get_or c.args.order.now c.variables.x-index (record { 0 = 0 })) within at c.args.form.now.products
          (picked (numbers_of c.args.order.now) c.args.form.now.products) c.variables.products.items c.match-entry_at.products.items c.variables.invariant
          (subst (λ s. Mentions (get_or c.args.order.now c.variables.x-index (record { 0 = 0 })).0 s → ⊥) value (not_mentioned _ c.entries-entries.result.now w.in_default.ensures)) (ap (λ v. v.items) w.products-is)
    ]
