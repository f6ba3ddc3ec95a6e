-- Each variable of the form has its number.
use Rattle.std.proofs.Common.{ℕ, List, [], ◌∷◌, ◌++◌, ap₂, sym, subst, ◌∙◌}
use Rattle.spec_numbers.specs.Sums.{Mentions}
use Rattle.cq_frac.specs.declared.row.Entry.{Entry}
use Rattle.cq_equations.specs.Contents.{place_of}
use Rattle.cq_equations.proofs.Fresh.{placed_more, mention_at}
use Rattle.cq_equations.proofs.table.Table.placed.Goals as goal

pub unreachable-requires : goal.unreachable-requires
unreachable-requires c =
    c.in_default.ensures
    (c.requires c.entry-item.result.quantity (subst (Mentions c.entry-item.result.quantity) c.entries-entry-items.ensures.value (mention_at c.entries-entry-items.result.now c.loop-entry.entry-index c.entry-item.result c.loop-entry-test.true c.entry-item.is)))

pub loop-entry-preserved : goal.loop-entry-preserved
loop-entry-preserved c =
    c.in_ok-push.ensures.items
    ∙ ap₂ (λ (s : List Entry) (q : ℕ). s ++ record { quantity = q; factor = c.entry-item.result.factor } ∷ []) c.loop-entry.invariant c.in-Some.ensures.1
    ∙ sym (placed_more (place_of c.args.self.now.now.names) c.entries-entry-items.result.now c.loop-entry.entry-index c.entry-item.result c.loop-entry-test.true c.entry-item.is)
