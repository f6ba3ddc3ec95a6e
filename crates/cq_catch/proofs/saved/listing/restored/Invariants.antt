use Rattle.std.proofs.Common.{◌≡◌, ◌<◌, ◌≤◌, ℕ, List, ◌++◌, length, take}
use Rattle.std.specs.Prelude.{All}
use Rattle.spec_numbers.specs.Prefixes.{IsPrefix}
use Rattle.spec_numbers.specs.Texts.{Text}
use Rattle.cq_term.specs.Names.{KeepsNames}
use Rattle.cq_term.specs.Trees.{trees}
use Rattle.cq_unify.specs.Copied.{unbound_from}
use Rattle.spec_engine.specs.Trying.{placed, variables_of}
use Rattle.cq_branch.specs.Stored.{IsCountedTerm, stored_trees}
use Rattle.cq_catch.proofs.saved.listing.restored.Given as goal

abbrev pub invariant-loop-copy : goal.invariant-loop-copy
invariant-loop-copy l = record {
  live : All (λ (i : ℕ). i < length l.heap.now.terms) l.elements.items;
  are_placed : (texts : List Text) → All (IsCountedTerm (length texts)) l.copies
      → trees texts l.heap.now.terms l.elements.items ≡ placed (length l.fn.heap.now.images) (stored_trees texts (take l.copy-index l.copies));
  terms : IsPrefix l.fn.heap.now.terms l.heap.now.terms;
  images : (texts : List Text) → All (IsCountedTerm (length texts)) l.copies
      → l.heap.now.images ≡ l.fn.heap.now.images ++ unbound_from (length l.fn.heap.now.images) (variables_of (stored_trees texts (take l.copy-index l.copies)));
  names : (n : ℕ) → All (IsCountedTerm n) l.copies → KeepsNames n l.fn.heap.now l.heap.now;
  saved : l.heap.saved ≡ l.fn.heap.saved;
  room : l.fn.heap.room ≤ l.heap.room;
}
