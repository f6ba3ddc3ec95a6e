use Rattle.std.proofs.Common.{◌≡◌, ℕ, ◌+◌, take, Option, None, Some, refl, sym, subst}
use Rattle.std.specs.Prelude.{MatchOption, IsSome, slice_get}
use Rattle.spec_numbers.specs.Sums.{Mentions}
use Rattle.spec_numbers.proofs.Prefixes.{prefix_same}
use Rattle.cq_form.specs.Entries.{products_of}
use Rattle.cq_tableau.specs.declared.names.Name.TheVariants.{Variable}
use Rattle.cq_tableau.specs.Stored.{IsKnown, IsPlaced}
use Rattle.cq_tableau.proofs.Restores.{entry_mentioned}
use Rattle.cq_tableau.proofs.Storing.{placed_more}
use Rattle.cq_tableau.proofs.placing.place_known.Goals as goal

-- a number that is found
is_there : (P : Type 0) (Q : ℕ → Type 0) (o : Option ℕ) → MatchOption o (P → ⊥) Q → P → IsSome o
is_there P Q None h p = absurd (h p)
is_there P Q (Some n) h p = refl

pub unwrap-quantity-requires : goal.unwrap-quantity-requires
unwrap-quantity-requires c =
    let items = c.entries-entry-items.result.now in
    let x = c.entry-item.result.quantity in
    let m = subst (Mentions x) c.entries-entry-items.ensures.value
    (entry_mentioned items c.loop-entry.entry-index c.entry-item.result c.loop-entry-test.true c.entry-item.is) in
    is_there (IsKnown c.args.names.now.now x) (λ n. slice_get c.args.names.now.now n ≡ Some (Variable (record { 0 = x }))) c.number_of.result c.number_of.ensures
    (c.requires.known x m)

pub loop-entry-preserved : goal.loop-entry-preserved
loop-entry-preserved c =
    let items = c.entries-entry-items.result.now in
    let names = c.args.names.now.now in
    let named : slice_get names c.unwrap-quantity.result ≡ Some (Variable (record { 0 = c.entry-item.result.quantity })) =
    subst (λ (o : Option ℕ). MatchOption o (IsKnown names c.entry-item.result.quantity → ⊥) (λ n. slice_get names n ≡ Some (Variable (record { 0 = c.entry-item.result.quantity }))))
    c.unwrap-quantity.ensures c.number_of.ensures in
    subst (IsPlaced names (products_of (take (c.loop-entry.entry-index + 1) items))) (sym c.in_ok-push.ensures.items)
    (placed_more names names (prefix_same names names refl) items c.loop-entry.entry-index c.entry-item.result c.loop-entry-test.true c.entry-item.is
    c.loop-entry.entries.items c.loop-entry.invariant c.unwrap-quantity.result named)
