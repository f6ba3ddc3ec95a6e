use Rattle.std.proofs.Common.{◌++◌, refl, ap, sym, subst, ◌∙◌}
use Rattle.spec_linear.specs.Echelon.{AreDistinct}
use Rattle.cq_equations.specs.Contents.{order_of}
use Rattle.cq_equations.specs.Told.{numbers_of}
use Rattle.cq_equations.proofs.Turned.{behind_is, turned, distinct_turned, distinct_others}
use Rattle.cq_equations.proofs.project.ordered.Goals as goal

pub add_all-requires : goal.add_all-requires
add_all-requires c =
    subst AreDistinct (sym (behind_is c.args.keep.now c.in_ok-known.known.keys c.as_slice.result.now (order_of c.new-store.result) _ c.as_slice.ensures.keys (ap order_of c.new-store.ensures) refl))
    (distinct_others c.args.keep.now c.args.told.now c.in_ok-known.known.keys c.in_ok-known.ensures)

pub add_all-requires-2 : goal.add_all-requires-2
add_all-requires-2 c =
    subst (λ o. AreDistinct (o ++ numbers_of c.args.keep.now))
    (sym (behind_is c.args.keep.now c.in_ok-known.known.keys c.as_slice.result.now (order_of c.new-store.result) (order_of c.add_all.new.store) c.as_slice.ensures.keys (ap order_of c.new-store.ensures) c.in_ok-add_all.ensures.order))
    (distinct_turned c.args.keep.now c.args.told.now c.in_ok-known.known.keys c.in_ok-known.ensures)

pub returns-clause-order : goal.returns-clause-order
returns-clause-order c =
    turned c.args.keep.now c.args.told.now c.in_ok-known.known.keys (order_of c.add_all-2.new.store) c.in_ok-known.ensures
    (c.in_ok-add_all-2.ensures.order ∙ ap (λ o. o ++ numbers_of c.args.keep.now)
    (behind_is c.args.keep.now c.in_ok-known.known.keys c.as_slice.result.now (order_of c.new-store.result) (order_of c.add_all.new.store) c.as_slice.ensures.keys (ap order_of c.new-store.ensures) c.in_ok-add_all.ensures.order))
