-- Choices leave the same to try once a program has changed.
use Rattle.std.proofs.Common.{◌≡◌, List, [], ◌∷◌, map, refl, ap}
use Rattle.std.specs.List.{AllByRecursion}
use Rattle.spec_numbers.specs.Texts.{Text}
use Rattle.spec_search.specs.Database.{Clause}
use Rattle.spec_engine.specs.Cells.{Clauses, Matches, Value}
use Rattle.cq_resolve.specs.Database.{Program}
use Rattle.cq_term.specs.Meaning.{HeapTerm}
use Rattle.cq_settle.specs.Contents.{Contents}
use Rattle.cq_branch.specs.Choices.{CanBeTried}
use Rattle.cq_branch.specs.Worlds.{left_of, left_at}
use Rattle.cq_branch.specs.declared.alternatives.Alternatives.{Alternatives}
use Rattle.cq_branch.specs.declared.alternatives.Alternatives.TheVariants as alternatives
use Rattle.cq_catch.specs.Revised.{KeepsShowing}

module _ (texts : List Text) (old new : Program) (k : KeepsShowing old new) where
  tried_still : (ts : List HeapTerm) (a : Alternatives) → CanBeTried texts old ts a → CanBeTried texts new ts a
  tried_still ts (alternatives.One j) can = can
  tried_still ts (alternatives.Clauses t walk j) can = k.begun walk can
  tried_still ts (alternatives.Ways s j) can = can
  tried_still ts alternatives.Barrier can = can
  tried_still ts (alternatives.Catches j) can = can
  tried_still ts (alternatives.Caught ball c r j) can = can
  tried_still ts (alternatives.Gathers t copies j) can = can
  tried_still ts (alternatives.Matches t walk removes j) can = k.begun walk can

  left_still : (ts : List HeapTerm) (a : Alternatives) → CanBeTried texts old ts a → left_of texts new ts a ≡ left_of texts old ts a
  left_still ts (alternatives.One j) can = refl
  left_still ts (alternatives.Clauses t walk j) can = ap (λ (cs : List Clause). Clauses t cs j) (k.same texts walk can)
  left_still ts (alternatives.Ways s j) can = refl
  left_still ts alternatives.Barrier can = refl
  left_still ts (alternatives.Catches j) can = refl
  left_still ts (alternatives.Caught ball c r j) can = refl
  left_still ts (alternatives.Gathers t copies j) can = refl
  left_still ts (alternatives.Matches t walk removes j) can = ap (λ (cs : List Clause). Matches t removes cs j) (k.same texts walk can)

  abbrev Open : Program → List (Value Contents × Alternatives) → Type 0
  Open v xs = AllByRecursion (λ (c : Value Contents × Alternatives). CanBeTried texts v c.0.0.heap.terms c.1) xs

  pub open_still : (xs : List (Value Contents × Alternatives)) → Open old xs → Open new xs
  open_still [] can = can
  open_still (x ∷ xs) can = (tried_still x.0.0.heap.terms x.1 can.0, open_still xs can.1)

  pub stack_still : (xs : List (Value Contents × Alternatives)) → Open old xs → map (left_at texts new) xs ≡ map (left_at texts old) xs
  stack_still [] can = refl
  stack_still (x ∷ xs) can =
      let first = left_still x.0.0.heap.terms x.1 can.0 in
      let older = stack_still xs can.1 in
      λ i. (x.0, first i) ∷ older i
