use Rattle.std.proofs.Common.{◌+◌, take, arith, sym, subst, ◌∙◌}
use Rattle.spec_numbers.proofs.Prefixes.{prefix_both}
use Rattle.cq_form.specs.Entries.{products_of}
use Rattle.cq_tableau.specs.Stored.{IsPlaced}
use Rattle.cq_tableau.proofs.Storing.{placed_more}
use Rattle.cq_tableau.proofs.placing.place.Goals as goal

pub loop-entry-preserved : goal.loop-entry-preserved
loop-entry-preserved c =
    let v = c.loop-entry.invariant in
    let f = c.in_ok-quantity.ensures in
    let items = c.entries-entry-items.result.now in
    record {
      placed = subst (IsPlaced c.find_or_add.new.names.now (products_of (take (c.loop-entry.entry-index + 1) items))) (sym c.in_ok-push.ensures.items)
          (placed_more c.loop-entry.names.now c.find_or_add.new.names.now f.grows items c.loop-entry.entry-index c.entry-item.result c.loop-entry-test.true c.entry-item.is
          c.loop-entry.entries.items v.placed c.in_ok-quantity.quantity f.named);
      stored = λ told s. f.stored told (v.stored told s);
      grows = prefix_both c.args.names.now.now c.loop-entry.names.now c.find_or_add.new.names.now v.grows f.grows;
      numbered = f.numbered;
      names_saved = f.names_saved ∙ v.names_saved;
      names_room = omega (arith, f.names_room, v.names_room);
      dict_saved = f.dict_saved ∙ v.dict_saved;
      dict_room = omega (arith, f.dict_room, v.dict_room);
    }
