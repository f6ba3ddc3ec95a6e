use Rattle.std.proofs.Common.{◌≡◌, ◌<◌, ◌+◌, ℕ, List, [], ◌∷◌, ◌++◌, length, take, sym, ap, ◌∙◌, subst, arith}
use Rattle.std.specs.Prelude.{All}
use Rattle.std.proofs.lemmas.List.{take_more}
use Rattle.spec_numbers.proofs.Prefixes.{prefix_both}
use Rattle.cq_resolve.specs.StoredValue.{StoredValue}
use Rattle.cq_term.specs.Trees.{trees}
use Rattle.cq_unify.specs.Copied.{unbound_from}
use Rattle.spec_engine.specs.Trying.{placed, variables_of}
use Rattle.cq_branch.specs.Stored.{IsCountedTerm, stored_trees}
use Rattle.cq_catch.proofs.Restored.{images_more, placed_more, live_more}
use Rattle.cq_catch.proofs.saved.listing.restored.Goals as goal

pub loop-copy-preserved : goal.loop-copy-preserved
loop-copy-preserved c =
    let start = c.args.heap.now.now in
    let old = c.loop-copy.heap.now in
    let new = c.restore.new.heap.now in
    let ids = c.loop-copy.elements.items in
    let id = c.in_ok-restore.field-0 in
    let xs = c.args.copies.now in
    let i = c.loop-copy.copy-index in
    let s = c.copy-item.result in
    let inv = c.loop-copy.invariant in
    let r = c.in_ok-restore.ensures in
    let one : take (i + 1) xs ≡ take i xs ++ s ∷ [] = take_more xs i s c.loop-copy-test.true ∙ ap (λ (x : StoredValue). take i xs ++ x ∷ []) (sym c.copy-item.is) in
    let counted = λ (n : ℕ) (all : All (IsCountedTerm n) xs). subst (IsCountedTerm n) (sym c.copy-item.is) (all i s c.loop-copy-test.true) in
    let pushed = c.in_ok-push.ensures.items in
    record {
      live = subst (λ (is : List ℕ). All (λ (j : ℕ). j < length new.terms) is) (sym pushed) (live_more old.terms new.terms ids id r.terms inv.live r.live);
      are_placed = λ texts all.
          ap (trees texts new.terms) pushed
          ∙ placed_more texts start old new ids id (take i xs) s (counted (length texts) all) (inv.images texts all) r.terms inv.live r.moved (inv.are_placed texts all)
          ∙ ap (λ (cs : List StoredValue). placed (length start.images) (stored_trees texts cs)) (sym one);
      terms = prefix_both start.terms old.terms new.terms inv.terms r.terms;
      images = λ texts all.
          images_more texts start old new ids id (take i xs) s (counted (length texts) all) (inv.images texts all) r.images
          ∙ ap (λ (cs : List StoredValue). start.images ++ unbound_from (length start.images) (variables_of (stored_trees texts cs))) (sym one);
      names = λ n all k. c.restore.ensures.names n (counted n all).below (inv.names n all k);
      saved = r.saved ∙ inv.saved;
      room = omega (arith, r.room, inv.room);
    }
